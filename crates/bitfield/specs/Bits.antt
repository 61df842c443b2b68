-- The bit set of document 01 ("Bit set"): 4,097 bits, bit p being bit p % 64 of word p / 64.
-- A set of bits is the test of which bits are set, `ℕ → Bool`.
use Rattle.std.specs.Prelude.{◌≡◌, ℕ, zero, suc, ◌-◌, ◌/◌, ◌%◌, ◌^◌, ◌<◌, List, Bool, cond, not, ◌&&◌, get_or, ltb, eqb, Option, None, Some}

-- bit k of a word
unfoldable pub word_bit : ℕ → ℕ → Bool
word_bit word k = eqb (word / 2 ^ k % 2) 1

-- "is-set": which bits of the words are set; "a bit beyond them is not set"
unfoldable pub is_set : List ℕ → ℕ → Bool
is_set words p = ltb p 4097 && word_bit (get_or words (p / 64) 0) (p % 64)

-- "4,097 bits, all set at first"
unfoldable pub all_set : ℕ → Bool
all_set p = ltb p 4097

-- "clear": the set without bit p
unfoldable pub without : (ℕ → Bool) → ℕ → ℕ → Bool
without bits p q = not (eqb q p) && bits q

-- what clearing bit p leaves: the set without it; where p is beyond the 4,097 bits, all 65 words as they were
pub record Cleared (words : List ℕ) (p : ℕ) (words' : List ℕ) : Type 0 where
  pub bits : is_set words' ≡ without (is_set words) p
  pub beyond : 4096 < p → words' ≡ words

-- the lowest set bit of the n from p on
unfoldable pub lowest : (ℕ → Bool) → ℕ → ℕ → Option ℕ
lowest bits zero p = None
lowest bits (suc n) p = cond (bits p) (Some p) (lowest bits n (suc p))

-- the highest set bit of the first n
unfoldable pub highest : (ℕ → Bool) → ℕ → Option ℕ
highest bits zero = None
highest bits (suc n) = cond (bits n) (Some n) (highest bits n)

-- "next set bit": "from the place on", or none
unfoldable pub successor : (ℕ → Bool) → ℕ → Option ℕ
successor bits p = lowest bits (4097 - p) p

-- "last set bit": from the place "down", or none
unfoldable pub predecessor : (ℕ → Bool) → ℕ → Option ℕ
predecessor bits p = highest bits (suc p)
