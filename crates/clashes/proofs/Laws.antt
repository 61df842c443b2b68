-- Laws of the lowest row that passes a test with an earlier row, and of the three tests: equal bytes, one hash, and both
-- one hash and other bytes. Assumes nothing.
use mathlib.Core.Path.{◌≡◌, refl, sym, ap, ◌∙◌}
use mathlib.Core.List.{List}
use mathlib.Core.Bool.{Bool, true, false, not, ◌&&◌, ◌||◌}
use Prim.Native.Nat.{ℕ, zero, suc, ◌≤◌, ◌<◌}
use native.Mathlib.Decide.{dec_lt}
use native.Mathlib.Omega.{arith}
use borrow.Author.Tests.{eq-eqb}
use Rattle.theory.proofs.Lists.{true-false, bool_cases, equal_eq}
use Rattle.fnv.specs.Fnv.{row_hash}
use Rattle.clashes.specs.Clashes.{seen, first_with, is_equal, shares_hash, clashes}
use Rattle.clashes.proofs.Lowest.{lowest-at, lowest-none, lowest-same, below-lowest}

pub and-true : (a : Bool) → a && true ≡ a
and-true true = refl
and-true false = refl

pub and-false : (a : Bool) → a && false ≡ false
and-false true = refl
and-false false = refl

or_right : (a b : Bool) → b ≡ true → a || b ≡ true
or_right true b e = refl
or_right false b e = e

-- a number that passes is seen
seen-row : (test : ℕ → Bool) (i j : ℕ) → j < i → test j ≡ true → seen test i ≡ true
unfolding seen
seen-row test zero j l e = absurd (omega arith)
seen-row test (suc i) j l e = go (dec_lt j i) (λ k. seen-row test i j k e)
  where
    go : Dec (j < i) → (j < i → seen test i ≡ true) → seen test (suc i) ≡ true
    go (yes k) ih = or_right (test i) (seen test i) (ih k)
    go (no k) ih = let z : i ≡ j = omega arith in rw (ap test z ∙ e)

-- where none passes, none is seen
seen_none : (test : ℕ → Bool) (i : ℕ) → ((j : ℕ) → j < i → test j ≡ false) → seen test i ≡ false
unfolding seen
seen_none test zero f = refl
seen_none test (suc i) f = rw (f i (omega arith)) (seen_none test i (λ j l. f j (omega arith)))

-- tests that agree see the same
pub seen_same : (test test' : ℕ → Bool) (i : ℕ) → ((j : ℕ) → j < i → test j ≡ test' j) → seen test i ≡ seen test' i
unfolding seen
seen_same test test' zero f = refl
seen_same test test' (suc i) f =
    rw (f i (omega arith)) (ap (λ (b : Bool). test' i || b) (seen_same test test' i (λ j l. f j (omega arith))))

-- no row below n passes the test with an earlier row
abbrev pub NonePass : (ℕ → ℕ → Bool) → ℕ → Type 0
NonePass test n = (i j : ℕ) → i < n → j < i → test i j ≡ false

module _ (test : ℕ → ℕ → Bool) (n : ℕ) where
  pub none_pass : n ≤ first_with test n → NonePass test n
  unfolding first_with
  none_pass e i j l m = bool_cases (test i j)
      (λ t. absurd (true-false (sym (seen-row (test i) i j m t) ∙ below-lowest (λ k. seen (test k) k) n i (omega arith))))
      (λ f. f)

  pub first-none : ((i : ℕ) → i < n → seen (test i) i ≡ false) → first_with test n ≡ n
  unfolding first_with
  first-none f = lowest-none (λ k. seen (test k) k) n f

  pass-none : NonePass test n → first_with test n ≡ n
  pass-none f = first-none (λ i l. seen_none (test i) i (λ j m. f i j l m))

  -- the lowest row, by the rows below it
  pub first-at : (i : ℕ) → i < n → seen (test i) i ≡ true → ((j : ℕ) → j < i → seen (test j) j ≡ false) → first_with test n ≡ i
  unfolding first_with
  first-at i l e f = lowest-at (λ k. seen (test k) k) n i l e f

  -- tests that agree have the same lowest row
  first-same : (test' : ℕ → ℕ → Bool) → ((i j : ℕ) → i < n → j < i → test i j ≡ test' i j) → first_with test n ≡ first_with test' n
  unfolding first_with
  first-same test' f =
      lowest-same (λ k. seen (test k) k) (λ k. seen (test' k) k) n (λ i l. seen_same (test i) (test' i) i (λ j m. f i j l m))

-- rows of equal bytes have one hash
pub equal_shares : (bytes : ℕ → List ℕ) (factor i j : ℕ) → bytes j ≡ bytes i → shares_hash bytes factor i j ≡ true
equal_shares bytes factor i j e = eq-eqb _ _ (ap (λ (t : List ℕ). row_hash t factor) e)

module _ (bytes : ℕ → List ℕ) (factor n : ℕ) where
  -- no two rows have one hash
  module _ (none : n ≤ first_with (shares_hash bytes factor) n) where
    -- so rows of equal bytes are one row
    pub apart : (i j : ℕ) → i < n → j < n → bytes i ≡ bytes j → i ≡ j
    apart i j a b e = go (dec_lt i j) (dec_lt j i)
      where
        never : (i j : ℕ) → i < n → j < i → bytes j ≡ bytes i → ⊥
        never i j l m q = true-false (sym (equal_shares bytes factor i j q) ∙ none_pass (shares_hash bytes factor) n none i j l m)

        go : Dec (i < j) → Dec (j < i) → i ≡ j
        go (yes l) d = absurd (never j i b l e)
        go (no l) (yes k) = absurd (never i j a k (sym e))
        go (no l) (no k) = omega arith

    pub none_equal : first_with (is_equal bytes) n ≡ n
    none_equal = pass-none (is_equal bytes) n (λ i j l m. bool_cases (is_equal bytes i j)
        (λ t. let e : i ≡ j = apart i j l (omega arith) (sym (equal_eq (bytes j) (bytes i) t)) in absurd (omega arith))
        (λ f. f))

    pub none-clashes : first_with (clashes bytes factor) n ≡ n
    none-clashes = pass-none (clashes bytes factor) n
        (λ i j l m. rw (none_pass (shares_hash bytes factor) n none i j l m) (and-false (not (is_equal bytes i j))))

  -- where no two rows are equal, the lowest row with the hash of an earlier one is the lowest that clashes
  pub shared_clashes : n ≤ first_with (is_equal bytes) n → first_with (shares_hash bytes factor) n ≡ first_with (clashes bytes factor) n
  shared_clashes none = first-same (shares_hash bytes factor) n (clashes bytes factor)
      (λ i j l m. rw (none_pass (is_equal bytes) n none i j l m))
