-- The merge procedure by single joins, lowest row first and leftmost, and that it is the paper's procedure on an accepted file.
use mathlib.Core.Path.{◌≡◌, refl, sym, ap, ap₂, ◌∙◌}
use mathlib.Core.Logic.{⊎_elim}
use mathlib.Core.List.{List, [], ◌∷◌, ◌++◌, append-nil, append_assoc}
use mathlib.Core.Bool.{Bool, true, false}
use Prim.Native.Nat.{ℕ, zero, suc, ◌≤◌, ◌<◌, min}
use native.Mathlib.Nat.{eq-or-lt_of_le}
use native.Mathlib.Omega.{arith}
use lib.ListN.{length, length-append}
use lib.Dec.{T}
use Rattle.theory.proofs.Lists.{cons_head, cons_tail, nil-cons, true-false, last_or_append, lt_or_ge, snoc_view, two_snoc, equal_eq, equal_refl, eqb_eq, eqb_ne, ltb_lt, ltb_ge}
use Rattle.theory.specs.Lists.{last_or, equal}
use Rattle.theory.specs.Paper.{pass, listed, stage}
use Rattle.theory.proofs.Pass.{seam, meet, pass-hit, pass_miss}
use Rattle.theory.proofs.Pass as Pass
use Rattle.theory.proofs.Stage as St
use Rattle.theory.specs.Dictionary.{Dictionary, spell}
use Rattle.theory.proofs.Stage.{Laws, listed-is, T_of}
use Rattle.theory.specs.Merge.{byte_codes}
use Rattle.theory.proofs.PairCheck.{Lawful, itself, halves, listed-own}
use Rattle.theory.specs.Merge.{row_below, join, lowest_join, join_leftmost, merge, encode}

module _ (D : Dictionary) where
  row_below-hit : (w : ℕ) (b : List ℕ) → equal (D.bytes w) b ≡ true → row_below D (suc w) b ≡ w
  row_below-hit w b e = rw (e, row_below)

  row_below_miss : (w : ℕ) (b : List ℕ) → equal (D.bytes w) b ≡ false → row_below D (suc w) b ≡ row_below D w b
  row_below_miss w b e = rw (e, row_below)

  pub row_below-is : (m : ℕ) (b : List ℕ) → row_below D m b < D.count → D.bytes (row_below D m b) ≡ b
  row_below-is zero b h = absurd (omega arith)
  row_below-is (suc w) b h = go (equal (D.bytes w) b) refl (row_below-is w b)
    where
      go : (c : Bool) → equal (D.bytes w) b ≡ c → (row_below D w b < D.count → D.bytes (row_below D w b) ≡ b) → D.bytes (row_below D (suc w) b) ≡ b
      go true e ih = rw (row_below-hit w b e) (equal_eq (D.bytes w) b e)
      go false e ih = rw (row_below_miss w b e) (ih (rw (row_below_miss w b e) at h))

  pub row_below-le : (m : ℕ) (b : List ℕ) → m ≤ D.count → row_below D m b ≤ D.count
  row_below-le zero b h = omega arith
  row_below-le (suc w) b h = go (equal (D.bytes w) b) refl (row_below-le w b)
    where
      go : (c : Bool) → equal (D.bytes w) b ≡ c → (w ≤ D.count → row_below D w b ≤ D.count) → row_below D (suc w) b ≤ D.count
      go true e ih = rw (row_below-hit w b e) (omega arith)
      go false e ih = rw (row_below_miss w b e) (ih (omega arith))

  -- the row with these bytes, if rows differ
  pub row_below-found : ((u v : ℕ) → u < D.count → v < D.count → D.bytes u ≡ D.bytes v → u ≡ v) → (m w : ℕ) (b : List ℕ) → m ≤ D.count → w < m → D.bytes w ≡ b → row_below D m b ≡ w
  row_below-found distinct zero w b hm h e = absurd (omega arith)
  row_below-found distinct (suc m) w b hm h e = go (equal (D.bytes m) b) refl (λ l. row_below-found distinct m w b (omega arith) l e)
    where
      go : (c : Bool) → equal (D.bytes m) b ≡ c → (w < m → row_below D m b ≡ w) → row_below D (suc m) b ≡ w
      go true f ih = row_below-hit m b f ∙ distinct m w hm (omega arith) (equal_eq (D.bytes m) b f ∙ sym e)
      go false f ih = row_below_miss m b f ∙ ih (⊎_elim
          (λ i. let i' : w ≡ m = omega arith in absurd (true-false (sym (equal_refl b) ∙ ap (λ (l : List ℕ). equal l b) (sym e ∙ ap D.bytes i') ∙ f)))
          (λ l. omega arith)
          (eq-or-lt_of_le h))

  pub lowest-le : (S : List ℕ) → lowest_join D S ≤ D.count
  lowest-le [] = omega arith
  lowest-le (x ∷ []) = omega arith
  lowest-le (x ∷ y ∷ t) = let h = lowest-le (y ∷ t) in omega arith

  pub lowest-append : (X : List ℕ) (x : ℕ) (B : List ℕ) → lowest_join D (X ++ x ∷ B) ≡ min (lowest_join D (X ++ x ∷ [])) (lowest_join D (x ∷ B))
  lowest-append [] x B = let h = lowest-le (x ∷ B) in omega arith
  lowest-append (z ∷ []) x B = let h = lowest-le (x ∷ B) in omega arith
  lowest-append (z ∷ z' ∷ X) x B = let h = lowest-append (z' ∷ X) x B in omega arith

  join_leftmost-hit : (w x y : ℕ) (t : List ℕ) → join D x y ≡ w → join_leftmost D w (x ∷ y ∷ t) ≡ w ∷ t
  join_leftmost-hit w x y t e = rw (eqb_eq (join D x y) w e, join_leftmost)

  join_leftmost_miss : (w x y : ℕ) (t : List ℕ) → w < join D x y → join_leftmost D w (x ∷ y ∷ t) ≡ x ∷ join_leftmost D w (y ∷ t)
  join_leftmost_miss w x y t h = rw (eqb_ne (join D x y) w (λ e. omega arith), join_leftmost)

  join_leftmost-at : (w : ℕ) (X : List ℕ) (x y : ℕ) (B : List ℕ) → w < lowest_join D (X ++ x ∷ []) → join D x y ≡ w → join_leftmost D w (X ++ x ∷ y ∷ B) ≡ X ++ w ∷ B
  join_leftmost-at w [] x y B h e = join_leftmost-hit w x y B e
  join_leftmost-at w (z ∷ []) x y B h e = join_leftmost_miss w z x (y ∷ B) (omega arith) ∙ ap {B = List ℕ} (λ l. z ∷ l) (join_leftmost-hit w x y B e)
  join_leftmost-at w (z ∷ z' ∷ X) x y B h e = join_leftmost_miss w z z' (X ++ x ∷ y ∷ B) (omega arith) ∙ ap {B = List ℕ} (λ l. z ∷ l) (join_leftmost-at w (z' ∷ X) x y B (omega arith) e)

  -- with fuel for the one list, merging it goes on as merging the other with fuel for that
  abbrev pub Reach : List ℕ → List ℕ → Type 0
  Reach S S' = (k : ℕ) → length S ≤ k → (j : ℕ) × (length S' ≤ j) × (merge D k S ≡ merge D j S')

  reach_refl : (S : List ℕ) → Reach S S
  reach_refl S k h = (k, h, refl)

  reach_trans : (S S' S'' : List ℕ) → Reach S S' → Reach S' S'' → Reach S S''
  reach_trans S S' S'' f g k h = let a = f k h in let b = g a.0 a.1 in (b.0, b.1, a.2 ∙ b.2)

  merge_step : (k w : ℕ) (S : List ℕ) → lowest_join D S ≡ w → w < D.count → merge D (suc k) S ≡ merge D k (join_leftmost D w S)
  merge_step k w S e h = rw (← e, ltb_lt (lowest_join D S) D.count (omega arith), merge)

  pub merge-done : (k : ℕ) (S : List ℕ) → D.count ≤ lowest_join D S → merge D k S ≡ S
  merge-done zero S h = refl
  merge-done (suc k) S h = rw (ltb_ge (lowest_join D S) D.count h, merge)

  reach_step : (w : ℕ) (X : List ℕ) (x y : ℕ) (B : List ℕ) → w < D.count → w < lowest_join D (X ++ x ∷ []) → join D x y ≡ w → w ≤ lowest_join D (y ∷ B)
      → Reach (X ++ x ∷ y ∷ B) (X ++ w ∷ B)
  reach_step w X x y B hw hX e hB zero h = absurd (omega (arith, length-append X (x ∷ y ∷ B)))
  reach_step w X x y B hw hX e hB (suc k) h = (
    k,
    (omega (arith, length-append X (x ∷ y ∷ B), length-append X (w ∷ B))),
    merge_step k w (X ++ x ∷ y ∷ B) (omega (arith, lowest-append X x (y ∷ B))) hw ∙ ap (merge D k) (join_leftmost-at w X x y B hX e),
  )

  module _ (A : Lawful D) where
    L : Laws D
    L = A.laws

    pub distinct : (u v : ℕ) → u < D.count → v < D.count → D.bytes u ≡ D.bytes v → u ≡ v
    distinct u v hu hv e = cons_head (sym (itself D A u D.count hu (λ _. hu)) ∙ ap (stage D D.count) e ∙ itself D A v D.count hv (λ _. hv))

    pub join_is : (w x y : ℕ) → w < D.count → D.bytes x ++ D.bytes y ≡ D.bytes w → join D x y ≡ w
    join_is w x y h e = row_below-found distinct D.count w (D.bytes x ++ D.bytes y) (omega arith) h (sym e)

    -- two or more codes that are a stage of a row's bytes: the row is not below the stage
    late : (p w x y : ℕ) (S : List ℕ) → w < D.count → stage D p (D.bytes w) ≡ x ∷ y ∷ S → p ≤ w
    late p w x y S h e = ⊎_elim (λ l. absurd (nil-cons (cons_tail (sym (itself D A w p h (λ _. l)) ∙ e)))) (λ l. l) (lt_or_ge w p)

    -- K: the neighbours of a stage join D to no row below it
    pub stage-lowest : (p : ℕ) (S : List ℕ) → p ≤ D.count → stage D p (spell D S) ≡ S → p ≤ lowest_join D S
    stage-lowest p [] hp e = hp
    stage-lowest p (x ∷ []) hp e = hp
    stage-lowest p (x ∷ y ∷ S) hp e = go (stage-lowest p (y ∷ S) hp (St.project D L p (spell D (x ∷ y ∷ S)) (x ∷ []) (y ∷ S) e).1)
      where
        pair : stage D p (D.bytes x ++ D.bytes y) ≡ x ∷ y ∷ []
        pair = rw append-nil at (St.project D L p (spell D (x ∷ y ∷ S)) (x ∷ y ∷ []) S e).0

        here : p ≤ join D x y
        here = ⊎_elim (λ l. late p (join D x y) x y [] l (ap (stage D p) (row_below-is D.count (D.bytes x ++ D.bytes y) l) ∙ pair)) (λ l. omega arith) (lt_or_ge (join D x y) D.count)

        go : p ≤ lowest_join D (y ∷ S) → p ≤ lowest_join D (x ∷ y ∷ S)
        go ih = omega (arith, here)

    meet-apart : (p : ℕ) (B : List ℕ) → seam p (listed D p) [] B ≡ false
    meet-apart p [] = refl
    meet-apart p (y ∷ B) = St.apart D L p y

    -- K in the middle of a pass
    module _ (p : ℕ) (long : D.long p ≡ true) (t Q : List ℕ) (b : ℕ) (B : List ℕ) (e : stage D p t ≡ Q ++ b ∷ B)
        (s : seam p (listed D p) (pass p (listed D p) Q) (b ∷ B) ≡ false) where
      known : p < D.count
      known = L.known p long

      passed : stage D (suc p) (spell D (pass p (listed D p) Q)) ≡ pass p (listed D p) Q
      passed = ap (pass p (listed D p)) (ap (stage D p) (St.spell-pass D L p Q) ∙ (St.project D L p t Q (b ∷ B) e).0)

      seam-join : (X : List ℕ) (x : ℕ) → pass p (listed D p) Q ≡ X ++ x ∷ [] → p < join D x b
      seam-join X x f = ⊎_elim below (λ l. omega (arith, known)) (lt_or_ge (join D x b) D.count)
        where
          q : Pass.Split p (listed D p) Q X (x ∷ [])
          q = Pass.split p (listed D p) Q X (x ∷ []) f

          S : List ℕ
          S = q.snd

          whole : stage D p t ≡ q.fst ++ (S ++ b ∷ B)
          whole = e ∙ ap (λ (l : List ℕ). l ++ b ∷ B) q.cut ∙ append_assoc q.fst S (b ∷ B)

          part : stage D p (spell D (S ++ b ∷ [])) ≡ S ++ b ∷ []
          part = (St.project D L p (spell D (S ++ b ∷ B)) (S ++ b ∷ []) B
              ((St.project D L p t q.fst (S ++ b ∷ B) whole).1 ∙ sym (append_assoc S (b ∷ []) B))).0

          spelled : spell D (S ++ b ∷ []) ≡ D.bytes x ++ D.bytes b
          spelled = St.spell-append D S (b ∷ []) ∙ ap₂ (λ (u v : List ℕ). u ++ v) (sym (St.spell-pass D L p S) ∙ ap (spell D) q.right ∙ append-nil (D.bytes x)) (append-nil (D.bytes b))

          below : join D x b < D.count → p < join D x b
          below l = ⊎_elim (λ m. absurd (equal (sym m))) (λ m. m) (eq-or-lt_of_le reach)
            where
              row : stage D p (D.bytes (join D x b)) ≡ S ++ b ∷ []
              row = ap (stage D p) (row_below-is D.count (D.bytes x ++ D.bytes b) l ∙ sym spelled) ∙ part

              filled : S ≡ [] → ⊥
              filled z = nil-cons (sym (ap (pass p (listed D p)) z) ∙ q.right)

              long-enough : (T : List ℕ) → (T ≡ [] → ⊥) → (w : ℕ) → w ∷ [] ≡ T ++ b ∷ [] → ⊥
              long-enough [] n w z = n refl
              long-enough (y ∷ []) n w z = nil-cons (cons_tail z)
              long-enough (y ∷ y' ∷ T) n w z = nil-cons (cons_tail z)

              reach : p ≤ join D x b
              reach = ⊎_elim (λ m. absurd (long-enough S filled (join D x b) (sym (itself D A (join D x b) p l (λ _. m)) ∙ row))) (λ m. m) (lt_or_ge (join D x b) p)

              equal : join D x b ≡ p → ⊥
              equal m =
                  let d = two_snoc (D.left p) (D.right p) b S (sym (halves D A p long) ∙ ap (λ (w : ℕ). stage D p (D.bytes w)) (sym m) ∙ row) in
                  let hx : x ≡ D.left p = cons_head (sym q.right ∙ ap (pass p (listed D p)) d.0) in
                  let s' : listed D p x b ≡ false = sym (ap (λ (z : ℕ). listed D p z b) (ap (last_or p) f ∙ last_or_append p p X (x ∷ []) (λ z. nil-cons (sym z)))) ∙ s in
                  true-false (sym (listed-own D p long) ∙ sym (ap₂ (listed D p) hx d.1) ∙ s')

      pub seam-lowest : p < lowest_join D (pass p (listed D p) Q ++ b ∷ [])
      seam-lowest = ⊎_elim
          (λ f. rw f known)
          (λ r. let a = stage-lowest (suc p) (pass p (listed D p) Q) known passed in
          let a' : p < lowest_join D (r.0 ++ r.1 ∷ []) = rw r.2 at a in
          let j = seam-join r.0 r.1 r.2 in
          rw (r.2, append_assoc r.0 (r.1 ∷ []) (b ∷ []), lowest-append r.0 r.1 (b ∷ [])) (omega (arith, known)))
          (snoc_view (pass p (listed D p) Q))

    reach_cast : (S S' T T' : List ℕ) → S ≡ S' → T ≡ T' → Reach S T → Reach S' T'
    reach_cast S S' T T' e f r = rw (← e, ← f) r

    -- the joins of row p, leftmost first, are the pass of p
    walk : (p : ℕ) (t B Q : List ℕ) → stage D p t ≡ Q ++ B → seam p (listed D p) (pass p (listed D p) Q) B ≡ false
        → Reach (pass p (listed D p) Q ++ B) (pass p (listed D p) Q ++ pass p (listed D p) B)
    walk p t [] Q e s = reach_refl (pass p (listed D p) Q ++ [])
    walk p t (b ∷ []) Q e s = reach_refl (pass p (listed D p) Q ++ b ∷ [])
    walk p t (b ∷ c ∷ B) Q e s = go (listed D p b c) refl (walk p t B (Q ++ b ∷ c ∷ [])) (walk p t (c ∷ B) (Q ++ b ∷ []))
      where
        P : List ℕ → List ℕ
        P = pass p (listed D p)

        go : (d : Bool) → listed D p b c ≡ d
            → (stage D p t ≡ Q ++ b ∷ c ∷ [] ++ B → seam p (listed D p) (pass p (listed D p) (Q ++ b ∷ c ∷ [])) B ≡ false
            → Reach (pass p (listed D p) (Q ++ b ∷ c ∷ []) ++ B) (pass p (listed D p) (Q ++ b ∷ c ∷ []) ++ pass p (listed D p) B))
            → (stage D p t ≡ Q ++ b ∷ [] ++ c ∷ B → seam p (listed D p) (pass p (listed D p) (Q ++ b ∷ [])) (c ∷ B) ≡ false
            → Reach (pass p (listed D p) (Q ++ b ∷ []) ++ c ∷ B) (pass p (listed D p) (Q ++ b ∷ []) ++ pass p (listed D p) (c ∷ B)))
            → Reach (pass p (listed D p) Q ++ b ∷ c ∷ B) (pass p (listed D p) Q ++ pass p (listed D p) (b ∷ c ∷ B))
        go true h f g =
            let long = (listed-is D p b c h).long in
            let known' = L.known p long in
            let eq : P (Q ++ b ∷ c ∷ []) ≡ P Q ++ p ∷ [] = Pass.join-pass p (listed D p) Q (b ∷ c ∷ []) s ∙ ap (λ (l : List ℕ). P Q ++ l) (pass-hit p (listed D p) b c [] h) in
            let s' : seam p (listed D p) (P (Q ++ b ∷ c ∷ [])) B ≡ false =
            ap (λ (x : ℕ). meet p (listed D p) x B) (ap (last_or p) eq ∙ last_or_append p p (P Q) (p ∷ []) (λ z. nil-cons (sym z))) ∙ meet-apart p B in
            reach_trans (P Q ++ b ∷ c ∷ B) (P Q ++ p ∷ B) (P Q ++ P (b ∷ c ∷ B))
            (reach_step p (P Q) b c B known' (seam-lowest p long t Q b (c ∷ B) e s) (join_is p b c known' (St.spell-hit D L p b c h))
            (stage-lowest p (c ∷ B) (omega arith) (St.project D L p t (Q ++ b ∷ []) (c ∷ B) (e ∙ sym (append_assoc Q (b ∷ []) (c ∷ B)))).1))
            (reach_cast (P (Q ++ b ∷ c ∷ []) ++ B) (P Q ++ p ∷ B) (P (Q ++ b ∷ c ∷ []) ++ P B) (P Q ++ P (b ∷ c ∷ B))
            (ap (λ (l : List ℕ). l ++ B) eq ∙ append_assoc (P Q) (p ∷ []) B)
            (ap (λ (l : List ℕ). l ++ P B) eq ∙ append_assoc (P Q) (p ∷ []) (P B) ∙ ap (λ (l : List ℕ). P Q ++ l) (sym (pass-hit p (listed D p) b c B h)))
            (f (e ∙ sym (append_assoc Q (b ∷ c ∷ []) B)) s'))
        go false h f g =
            let eq : P (Q ++ b ∷ []) ≡ P Q ++ b ∷ [] = Pass.join-pass p (listed D p) Q (b ∷ []) s in
            let s' : seam p (listed D p) (P (Q ++ b ∷ [])) (c ∷ B) ≡ false =
            ap (λ (x : ℕ). listed D p x c) (ap (last_or p) eq ∙ last_or_append p p (P Q) (b ∷ []) (λ z. nil-cons (sym z))) ∙ h in
            reach_cast (P (Q ++ b ∷ []) ++ c ∷ B) (P Q ++ b ∷ c ∷ B) (P (Q ++ b ∷ []) ++ P (c ∷ B)) (P Q ++ P (b ∷ c ∷ B))
            (ap (λ (l : List ℕ). l ++ c ∷ B) eq ∙ append_assoc (P Q) (b ∷ []) (c ∷ B))
            (ap (λ (l : List ℕ). l ++ P (c ∷ B)) eq ∙ append_assoc (P Q) (b ∷ []) (P (c ∷ B)) ∙ ap (λ (l : List ℕ). P Q ++ l) (sym (pass_miss p (listed D p) b c B h)))
            (g (e ∙ sym (append_assoc Q (b ∷ []) (c ∷ B))) s')

    reach-stage : (q : ℕ) (t : List ℕ) → Reach (byte_codes D t) (stage D q t)
    reach-stage zero t = reach_refl (byte_codes D t)
    reach-stage (suc q) t = reach_trans (byte_codes D t) (stage D q t) (stage D (suc q) t) (reach-stage q t) (walk q t (stage D q t) [] refl (meet-apart q (stage D q t)))

    length_unit : (t : List ℕ) → length (byte_codes D t) ≡ length t
    length_unit [] = refl
    length_unit (b ∷ t) = ap suc (length_unit t)

    -- T3
    pub merge_is_stage : (t : List ℕ) → encode D t ≡ stage D D.count t
    unfolding encode
    merge_is_stage t =
        let r = reach-stage D.count t (length t) (omega (arith, length_unit t)) in
        r.2 ∙ merge-done r.0 (stage D D.count t) (stage-lowest D.count (stage D D.count t) (omega arith) (ap (stage D D.count) (St.spell-stage D L D.count t)))
