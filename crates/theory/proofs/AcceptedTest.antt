-- Acceptance of rows as one computed test.
use mathlib.Core.Path.{◌≡◌, sym, ap, ◌∙◌}
use mathlib.Core.Logic.{◌⊎◌, inl, inr}
use mathlib.Core.List.{List, [], ◌∷◌}
use mathlib.Core.Bool.{Bool, true, false, ◌&&◌}
use mathlib.Core.Option.{Option, none, some}
use Prim.Native.Nat.{ℕ, zero, suc, ◌<◌}
use native.Mathlib.Nat.{eq-or-lt_of_le}
use native.Mathlib.Omega.{arith}
use lib.ListN.{length, get_or}
use lib.Dec.{ltb, eqb}
use borrow.Author.Tests.{ltb-true, eqb-true}
use Rattle.theory.specs.Parts.{Parts, find, bytes_of, parts_below, Accepted}
use Rattle.theory.proofs.Lists.{and_both, true-false}
use Rattle.theory.proofs.Accepted.{parts-length}

abbrev is_some : Option Parts → Bool
is_some none = false
is_some (some p) = true

-- whether each row has parts
abbrev all-some : List (Option Parts) → Bool
all-some [] = true
all-some (none ∷ s) = false
all-some (some p ∷ s) = all-some s

all_some_is : (l : List (Option Parts)) → all-some l ≡ true → (w : ℕ) → w < length l → get_or l w none ≡ none → ⊥
all_some_is [] e w h f = absurd (omega arith)
all_some_is (none ∷ s) e w h f = true-false (sym e)
all_some_is (some p ∷ s) e zero h f = true-false (ap is_some f)
all_some_is (some p ∷ s) e (suc w) h f = all_some_is s e w (omega arith) f

abbrev all-below : ℕ → (ℕ → Bool) → Bool
all-below zero test = true
all-below (suc n) test = test n && all-below n test

all_below_is : (n : ℕ) (test : ℕ → Bool) → all-below n test ≡ true → (w : ℕ) → w < n → test w ≡ true
all_below_is zero test e w h = absurd (omega arith)
all_below_is (suc n) test e w h = go (and_both (test n) (all-below n test) e) (λ f. all_below_is n test f w) (eq-or-lt_of_le h)
  where
    go : (test n ≡ true) × (all-below n test ≡ true) → (all-below n test ≡ true → w < n → test w ≡ true) → (suc w ≡ suc n) ⊎ (suc w < suc n) → test w ≡ true
    go a ih (inl p) = ap test (let q : w ≡ n = omega arith in q) ∙ a.0
    go a ih (inr l) = ih a.1 (omega arith)

module _ (rows : List (List ℕ)) where
  -- row w is not empty and the first of its bytes
  abbrev row_test : ℕ → Bool
  row_test w = ltb 0 (length (bytes_of rows w)) && eqb (find rows (bytes_of rows w)) w

  abbrev byte_test : ℕ → Bool
  byte_test b = ltb (find rows (b ∷ [])) (length rows)

  -- the parts are one list, so that they are found once
  unfoldable pub is_accepted : Bool
  is_accepted = all-below (length rows) row_test && (all-below 256 byte_test && all-some (parts_below rows (length rows)))

  pub accepted_by_test : is_accepted ≡ true → Accepted rows
  unfolding is_accepted
  accepted_by_test e = record {
    filled = λ u h. ltb-true 0 (length (bytes_of rows u)) (row u h).0;
    distinct = λ u v hu hv p. sym (eqb-true _ _ (row u hu).1) ∙ ap (find rows) p ∙ eqb-true _ _ (row v hv).1;
    bytes = λ b h. ltb-true _ _ (all_below_is 256 byte_test rest.0 b h);
    parts = λ w h. all_some_is (parts_below rows (length rows)) rest.1 w (omega (arith, parts-length rows (length rows), h));
  }
    where
      both : (all-below (length rows) row_test ≡ true) × (all-below 256 byte_test && all-some (parts_below rows (length rows)) ≡ true)
      both = and_both (all-below (length rows) row_test) _ e

      rest : (all-below 256 byte_test ≡ true) × (all-some (parts_below rows (length rows)) ≡ true)
      rest = and_both (all-below 256 byte_test) _ both.1

      row : (w : ℕ) → w < length rows → (ltb 0 (length (bytes_of rows w)) ≡ true) × (eqb (find rows (bytes_of rows w)) w ≡ true)
      row w h = and_both (ltb 0 (length (bytes_of rows w))) _ (all_below_is (length rows) row_test both.0 w h)
