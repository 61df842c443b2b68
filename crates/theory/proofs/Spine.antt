-- The first join with a code, found along its parts at the end where rows are typed.
use mathlib.Core.Path.{◌≡◌, refl, sym, ap, ◌∙◌}
use mathlib.Core.Logic.{⊎_elim}
use mathlib.Core.List.{List, [], ◌∷◌, ◌++◌, append-nil}
use mathlib.Core.Bool.{true, false}
use Prim.Native.Nat.{ℕ, suc, ◌≤◌, ◌<◌}
use native.Mathlib.Decide.{ℕ_discrete}
use native.Mathlib.Omega.{arith}
use lib.Dec.{eqb}
use Rattle.theory.specs.Lists.{first_or, last_or}
use Rattle.theory.specs.Dictionary.{Dictionary, none}
use Rattle.theory.specs.Paper.{listed, stage}
use Rattle.theory.specs.Typing.{Side, append, prepend}
use Rattle.theory.specs.FirstJoin.{bound_at, joins_at, listed_beside, inner_part, JoinBelow, FirstJoin}
use Rattle.theory.proofs.Lists.{true-false, bool_cases, last_or_append, lt_or_ge, eqb_eq, eqb_ne}
use Rattle.theory.proofs.Stage as St
use Rattle.theory.proofs.PairCheck.{Lawful, itself, halves}
use Rattle.theory.proofs.RowsAt.{different}

-- v, or w where v is none
abbrev pub or_else : ℕ → ℕ → ℕ
or_else v w = elim (eqb v none) [ true ↦ w | false ↦ v ]

pub or-none : (v w : ℕ) → v ≡ none → or_else v w ≡ w
or-none v w e = rw (eqb_eq v none e, or_else)

pub or_some : (v w : ℕ) → (v ≡ none → ⊥) → or_else v w ≡ v
or_some v w f = rw (eqb_ne v none f, or_else)

module _ (D : Dictionary) (A : Lawful D) where
  -- a row that has come in its pass stands there whole
  joins_here : (side : Side) (x s w : ℕ) → x < D.count → (D.long x ≡ true → bound_at side x ≤ w) → joins_at D side x s w ≡ listed_beside D side w x s
  joins_here append x s w k h = ap (λ (X : List ℕ). listed D w (last_or w X) s) (itself D A x (suc w) k (λ e. omega (arith, h e)))
  joins_here prepend x s w k h = ap (λ (X : List ℕ). listed D w s (first_or w X)) (itself D A x w k h)

  -- before, its part stands there
  joins_inner : (side : Side) (x s w : ℕ) → D.long x ≡ true → w < bound_at side x → joins_at D side x s w ≡ joins_at D side (inner_part D side x) s w
  joins_inner append x s w e h =
      let d : stage D (suc w) (D.bytes x) ≡ stage D (suc w) (D.bytes (D.left x)) ++ stage D (suc w) (D.bytes (D.right x)) =
      simp append-nil at (St.down D A.laws x (suc w) (D.bytes x) (D.left x ∷ []) (D.right x ∷ []) h (halves D A x e)) in
      ap (λ (y : ℕ). listed D w y s) (ap (last_or w) d ∙ last_or_append w w (stage D (suc w) (D.bytes (D.left x))) (stage D (suc w) (D.bytes (D.right x))) (St.stage-filled D A.laws (suc w) (D.right x)))
  joins_inner prepend x s w e h =
      let d : stage D w (D.bytes x) ≡ stage D w (D.bytes (D.left x)) ++ stage D w (D.bytes (D.right x)) =
      simp append-nil at (St.down D A.laws x w (D.bytes x) (D.left x ∷ []) (D.right x ∷ []) (omega arith) (halves D A x e)) in
      ap (λ (y : ℕ). listed D w s y) (ap (first_or w) d ∙ first-append (stage D w (D.bytes (D.left x))) (stage D w (D.bytes (D.right x))) (St.stage-filled D A.laws w (D.left x)))
    where
      first-append : (B C : List ℕ) → (B ≡ [] → ⊥) → first_or w (B ++ C) ≡ first_or w B
      first-append [] C f = absurd (f refl)
      first-append (y ∷ B) C f = refl

  -- one row has the two as its parts, and it is above both
  one-listed : (side : Side) (x s v w : ℕ) → listed_beside D side v x s ≡ true → listed_beside D side w x s ≡ true → v ≡ w
  one-listed append x s v w e f =
      let a = St.listed-is D v x s e in
      let b = St.listed-is D w x s f in
      (different D A).distinct v w (A.laws.known v a.long) (A.laws.known w b.long) (sym (St.spell-hit D A.laws v x s e) ∙ St.spell-hit D A.laws w x s f)
  one-listed prepend x s v w e f =
      let a = St.listed-is D v s x e in
      let b = St.listed-is D w s x f in
      (different D A).distinct v w (A.laws.known v a.long) (A.laws.known w b.long) (sym (St.spell-hit D A.laws v s x e) ∙ St.spell-hit D A.laws w s x f)

  above : (side : Side) (x s v : ℕ) → listed_beside D side v x s ≡ true → bound_at side x ≤ v
  above append x s v e = let a = St.listed-is D v x s e in let h = A.laws.left_below v a.long in omega (arith, a.left)
  above prepend x s v e = let a = St.listed-is D v s x e in let h = A.laws.right_below v a.long in omega (arith, a.right)

  inner_below : (side : Side) (x : ℕ) → D.long x ≡ true → bound_at side (inner_part D side x) ≤ bound_at side x
  inner_below append x e = let h = A.laws.right_below x e in omega arith
  inner_below prepend x e = let h = A.laws.left_below x e in omega arith

  inner-row : (side : Side) (x : ℕ) → x < D.count → D.long x ≡ true → inner_part D side x < D.count
  inner-row append x k e = let h = A.laws.right_below x e in omega arith
  inner-row prepend x k e = let h = A.laws.left_below x e in omega arith

  module _ (side : Side) (u s : ℕ) where
    -- of the rows from low on, best is the lowest that joins u and s, or none
    pub record From (low best : ℕ) : Type 0 where
      pub nothing : best ≡ none → (w : ℕ) → low ≤ w → w < D.count → joins_at D side u s w ≡ false
      pub joined : (best ≡ none → ⊥) → (low ≤ best) × ((best < D.count) × (joins_at D side u s best ≡ true))
      pub lowest : (best ≡ none → ⊥) → (w : ℕ) → low ≤ w → w < best → joins_at D side u s w ≡ false

    -- in the passes below bound x stands where u ends, and from bound on best is the lowest row
    pub record Searching (x bound best : ℕ) : Type 0 where
      pub row : x < D.count
      pub inner : bound_at side x ≤ bound
      pub most : bound ≤ D.count
      pub same : (w : ℕ) → w < bound → joins_at D side u s w ≡ joins_at D side x s w
      pub from : From bound best

    pub search_start : u < D.count → Searching u D.count none
    search_start k = record {
      row = k;
      inner = first side;
      most = omega arith;
      same = λ w h. refl;
      from = record { nothing = λ _ w h l. absurd (omega arith); joined = λ f. absurd (f refl); lowest = λ f. absurd (f refl) };
    }
      where
        first : (side : Side) → bound_at side u ≤ D.count
        first append = omega arith
        first prepend = omega arith

    module _ (x bound best v : ℕ) (S : Searching x bound best) (F : JoinBelow D side bound x s v) where
      here : (low w : ℕ) → (D.long x ≡ true → bound_at side x ≤ low) → low ≤ w → w < bound → joins_at D side u s w ≡ listed_beside D side w x s
      here low w h l m = S.same w m ∙ joins_here side x s w S.row (λ e. omega (arith, h e))

      -- the rows from low on, where x is whole
      lower : (low : ℕ) → low ≤ bound → (D.long x ≡ true → bound_at side x ≤ low) → ((v ≡ none → ⊥) → low ≤ v) → From low (or_else v best)
      lower low hb hx hv = go (ℕ_discrete v none)
        where
          go : Dec (v ≡ none) → From low (or_else v best)
          go (yes z) = rw (or-none v best z) (record {
            nothing = λ e w l k. ⊎_elim (λ m. here low w hx l m ∙ F.nothing z w m) (λ m. S.from.nothing e w m k) (lt_or_ge w bound);
            joined = λ e. let j = S.from.joined e in (omega (arith, j.0), (j.1.0, j.1.1));
            lowest = λ e w l k. ⊎_elim (λ m. here low w hx l m ∙ F.nothing z w m) (λ m. S.from.lowest e w m k) (lt_or_ge w bound);
          })
          go (no z) = rw (or_some v best z) (record {
            nothing = λ e. absurd (z e);
            joined = λ _. let b = F.below z in (hv z, (omega (arith, S.most), here low v hx (hv z) b ∙ F.is z));
            lowest = λ _ w l k.
                let b = F.below z in
                here low w hx l (omega arith) ∙ bool_cases (listed_beside D side w x s) (λ e. absurd (let q = one-listed side x s w v e (F.is z) in omega arith)) (λ e. e);
          })

      -- x is longer: the search goes on with its part
      pub search_next : D.long x ≡ true → Searching (inner_part D side x) (bound_at side x) (or_else v best)
      search_next e = record {
        row = inner-row side x S.row e;
        inner = inner_below side x e;
        most = omega (arith, S.inner, S.most);
        same = λ w h. S.same w (omega (arith, S.inner)) ∙ joins_inner side x s w e h;
        from = lower (bound_at side x) S.inner (λ _. omega arith) (λ z. above side x s v (F.is z));
      }

      -- x is a single byte: nothing is left
      pub search_end : D.long x ≡ false → FirstJoin D side u s (or_else v best)
      search_end e = let L = lower 0 (omega arith) (λ l. absurd (true-false (sym l ∙ e))) (λ _. omega arith) in record {
        nothing = λ z w k. L.nothing z w (omega arith) k;
        joined = λ z. (L.joined z).1.1;
        lowest = λ z w k. L.lowest z w (omega arith) k;
      }
