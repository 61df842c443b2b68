-- The first join over tables: one row at a time along the parts of the code. Assumes nothing.
use mathlib.Core.Path.{◌≡◌, refl, sym, subst, ◌∙◌}
use mathlib.Core.Logic.{◌⊎◌, inl, inr, ⊎_elim}
use mathlib.Core.List.{List}
use mathlib.Core.Bool.{true, false}
use Prim.Native.Nat.{ℕ, ◌≤◌, ◌<◌}
use native.Mathlib.Decide.{ℕ_discrete}
use native.Mathlib.Omega.{arith}
use Rattle.theory.specs.Dictionary.{Dictionary, none}
use Rattle.theory.specs.Paper.{listed}
use Rattle.theory.proofs.Lists.{true-false, bool_cases}
use Rattle.theory.proofs.PairSteps.{listed-one}
use Rattle.theory.proofs.Spine as Spine
use Rattle.theory.proofs.Spine.{or_else, or-none, or_some}
use Rattle.pair_check.specs.Pair.{PairReady, JoinReady, JoinIs}
use Rattle.built_tables.specs.Built.{dictionary_of, Built}
use Rattle.built_tables.proofs.Rows.{count_is, places_ready, lawful-is, tells, distinct-rows}
use Rattle.built_tables.proofs.InForm.{ready}
use Rattle.theory.specs.Typing.{Side, append, prepend}
use Rattle.theory.specs.FirstJoin.{bound_at}
use Rattle.end_code.specs.Sides.{inner_of}
use Rattle.end_code.specs.Joins.{BesideReady, BesideIs, FirstReady, FirstIs}
use Rattle.end_code.proofs.Parts.{inner-is, inner-lower, inner-long, inner-single}
use Rattle.tables.specs.Tables.{PairTables, with_prefixes}

module _ (P : PairTables) (n m x s : ℕ) where
  pub beside-ready : BesideReady P n m x s → JoinReady P n n m x s
  beside-ready R = record { placed = R.placed; area_room = R.area_room; left_room = R.left_room; right_room = R.right_room; below = R.below; left_below = R.row; right_below = R.typed }

  pub beside-turned : BesideReady P n m x s → JoinReady P n n m s x
  beside-turned R = record { placed = R.placed; area_room = R.area_room; left_room = R.left_room; right_room = R.right_room; below = R.below; left_below = R.typed; right_below = R.row }

-- the join of two rows, in terms of the dictionary
module _ (P : PairTables) (n m u v r : ℕ) (J : JoinIs P n n m u v r)
    (prefixes : List ℕ) (B : Built (with_prefixes P prefixes) n) (hu : u < n) (hv : v < n) where
  open P use {file}

  abbrev D : Dictionary
  D = dictionary_of file

  pair-ready : PairReady P n n u v
  pair-ready = record {
    places_ready = places_ready (with_prefixes P prefixes) n B;
    parts_ready = (ready (with_prefixes P prefixes) n B).parts_ready;
    area_room = B.area_room;
    few = omega arith;
    left_below = hu;
    right_below = hv;
  }

  none_below : r ≡ none → (w : ℕ) → w < m → listed D w u v ≡ false
  none_below z w h = bool_cases (listed D w u v)
      (λ e. absurd (true-false (sym (listed-one D m u v w h e) ∙ J.nothing z pair-ready D (tells (with_prefixes P prefixes) n B) (distinct-rows (with_prefixes P prefixes) n B) B.finds B.pairs_marked)))
      (λ e. e)

  some_below : (r ≡ none → ⊥) → r < m
  some_below z = ⊎_elim (λ e. absurd (z e)) (λ h. h) J.bound

  is-listed : (r ≡ none → ⊥) → listed D r u v ≡ true
  is-listed z = J.is z pair-ready D (tells (with_prefixes P prefixes) n B) (distinct-rows (with_prefixes P prefixes) n B) B.finds

module _ (P : PairTables) (n m x s r : ℕ) where
  pub beside-append : JoinIs P n n m x s r → BesideIs P append n m x s r
  beside-append J = record {
    bound = J.bound;
    built = λ prefixes B hx hs. record {
      nothing = none_below P n m x s r J prefixes B hx hs;
      below = some_below P n m x s r J prefixes B hx hs;
      is = is-listed P n m x s r J prefixes B hx hs;
    };
  }

  pub beside-prepend : JoinIs P n n m s x r → BesideIs P prepend n m x s r
  beside-prepend J = record {
    bound = J.bound;
    built = λ prefixes B hx hs. record {
      nothing = none_below P n m s x r J prefixes B hs hx;
      below = some_below P n m s x r J prefixes B hs hx;
      is = is-listed P n m s x r J prefixes B hs hx;
    };
  }

-- the search has come to row x, with best as the lowest row found
pub record Searching (P : PairTables) (side : Side) (n u s x bound best : ℕ) : Type 0 where
  pub ready : FirstReady P n u s
  pub row : x < n
  pub most : bound ≤ n
  pub best_row : (best ≡ none) ⊎ (best < n)
  pub built : (prefixes : List ℕ) (B : Built (with_prefixes P prefixes) n) → Spine.Searching (dictionary_of P.file) (lawful-is (with_prefixes P prefixes) n B) side u s x bound best

module _ (P : PairTables) (side : Side) (n u s : ℕ) where
  open P use {file, lefts, rights}

  pub search_start : FirstReady P n u s → Searching P side n u s u n none
  search_start R = record {
    ready = R;
    row = R.row;
    most = omega arith;
    best_row = inl refl;
    built = λ prefixes B.
        let e = count_is (with_prefixes P prefixes) n B in
        let L = lawful-is (with_prefixes P prefixes) n B in
        subst (λ (m : ℕ). Spine.Searching (dictionary_of file) L side u s u m none) e (Spine.search_start (dictionary_of file) L side u s (omega (arith, R.row)));
  }

  module _ (x bound best v : ℕ) (S : Searching P side n u s x bound best) where
    pub search_ready : BesideReady P n bound x s
    search_ready = record {
      placed = S.ready.is_in_form.places_ready.placed;
      area_room = S.ready.is_in_form.area_room;
      left_room = S.ready.is_in_form.parts_ready.left_room;
      right_room = S.ready.is_in_form.parts_ready.right_room;
      below = S.most;
      row = S.row;
      typed = S.ready.typed;
    }

    module _ (F : BesideIs P side n bound x s v) where
      found : (best' : ℕ) → best' ≡ or_else v best → (best' ≡ none) ⊎ (best' < n)
      found best' e = go (ℕ_discrete v none)
        where
          go : Dec (v ≡ none) → (best' ≡ none) ⊎ (best' < n)
          go (yes z) = rw (e, or-none v best z) S.best_row
          go (no z) = rw (e, or_some v best z) (inr (⊎_elim (λ y. absurd (z y)) (λ h. let b = S.most in omega arith) F.bound))

      pub search_next : (best' part bound' : ℕ) → best' ≡ or_else v best → part ≡ inner_of P side x → (part ≡ x → ⊥) → bound' ≡ bound_at side x
          → (part < x) × Searching P side n u s part bound' best'
      search_next best' part bound' eb ep d eo =
          let low : part < x = rw ep (inner-lower P n S.ready.is_in_form x S.row side (rw (← ep) d)) in
          let top : bound' ≤ n = rw eo (top_of side) in (
            low,
            record {
              ready = S.ready;
              row = let h = S.row in omega arith;
              most = top;
              best_row = found best' eb;
              built = λ prefixes B.
                  let L = lawful-is (with_prefixes P prefixes) n B in
                  rw (eb, ep, eo, inner-is P n S.ready.is_in_form x S.row prefixes B side)
                  (Spine.search_next (dictionary_of file) L side u s x bound best v (S.built prefixes B) (F.built prefixes B S.row S.ready.typed)
                  (inner-long P n S.ready.is_in_form x S.row prefixes B side (rw (← ep) d)));
            },
          )
        where
          top_of : (b : Side) → bound_at b x ≤ n
          top_of append = let h = S.row in omega arith
          top_of prepend = let h = S.row in omega arith

      pub search_end : (best' part : ℕ) → best' ≡ or_else v best → part ≡ inner_of P side x → part ≡ x → FirstIs P side n u s best'
      search_end best' part eb ep d = record {
        bound = found best' eb;
        built = λ prefixes B.
            rw eb
            (Spine.search_end (dictionary_of file) (lawful-is (with_prefixes P prefixes) n B) side u s x bound best v (S.built prefixes B) (F.built prefixes B S.row S.ready.typed)
            (inner-single P n S.ready.is_in_form x S.row prefixes B side (sym ep ∙ d)));
      }
