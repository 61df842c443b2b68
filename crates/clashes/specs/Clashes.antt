-- Causes 5 and 13. Document 02, ticket 1: "5 means equal bytes only, and a clash of different rows has its own number,
-- with the later row as place". Each is the lowest row that passes a test with an earlier row.
use Rattle.std.specs.Prelude.{◌≡◌, List, Bool, true, false, not, ◌&&◌, ◌||◌, ℕ, zero, suc, ◌<◌, length, drop, eqb, Option, None, Some}
use Rattle.theory.specs.Lists.{equal}
use Rattle.fnv.specs.Fnv.{row_hash}

-- one of the first i numbers passes the test
unfoldable pub seen : (ℕ → Bool) → ℕ → Bool
seen test zero = false
seen test (suc i) = test i || seen test i

-- the lowest number below n that passes the test, n where none does
unfoldable pub lowest : (ℕ → Bool) → ℕ → ℕ
lowest test zero = 0
lowest test (suc n) = elim (test 0) [ true ↦ 0 | false ↦ suc (lowest (λ i. test (suc i)) n) ]

-- "lowest such row": the lowest row i that passes the test with an earlier row j, n where there is none
unfoldable pub first_with : (ℕ → ℕ → Bool) → ℕ → ℕ
first_with test n = lowest (λ i. seen (test i) i) n

-- 5, "equal bytes only": row i has the bytes of row j
abbrev pub is_equal : (ℕ → List ℕ) → ℕ → ℕ → Bool
is_equal bytes i j = equal (bytes j) (bytes i)

-- row i has the hash of row j, whatever their bytes
abbrev pub shares_hash : (ℕ → List ℕ) → ℕ → ℕ → ℕ → Bool
shares_hash bytes factor i j = eqb (row_hash (bytes j) factor) (row_hash (bytes i) factor)

-- 13, "two rows of different bytes with one hash": row i clashes with row j
abbrev pub clashes : (ℕ → List ℕ) → ℕ → ℕ → ℕ → Bool
clashes bytes factor i j = not (is_equal bytes i j) && shares_hash bytes factor i j

-- the answer of a search for the lowest row, and the scratch after it: the first 16,384 numbers are free, the rest is
-- unchanged
pub record Found (test : ℕ → ℕ → Bool) (n : ℕ) (entry exit : List ℕ) (r : ℕ) : Type 0 where
  pub answer : r ≡ first_with test n
  pub kept : length exit ≡ length entry
  pub beyond : drop 16384 exit ≡ drop 16384 entry

-- the same where it answers none in place of n
abbrev pub FirstFound : (test : ℕ → ℕ → Bool) (n : ℕ) (entry exit : List ℕ) → Option ℕ → Type 0
FirstFound test n entry exit None = Found test n entry exit n
FirstFound test n entry exit (Some r) = Found test n entry exit r × (r < n)
