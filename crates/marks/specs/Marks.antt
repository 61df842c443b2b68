-- A set of keys in a run of numbers, two bits of one number for each key: key k is marked where bits k / 32 % 32 and
-- k % 32 of number base + k / 1024 are clear. The two may be one bit, and other keys may have them too: a key that is
-- not marked is not in the set. A run of numbers that are all none has no key marked.
use Rattle.std.specs.Prelude.{◌≡◌, List, Bool, true, not, ◌&&◌, ℕ, ◌+◌, ◌*◌, ◌/◌, ◌%◌, get_or, set}
use Rattle.bitfield.specs.Bits.{word_bit}

-- bits a and b of a word are clear
unfoldable pub both_clear : ℕ → ℕ → ℕ → Bool
both_clear word a b = not (word_bit word a) && not (word_bit word b)

unfoldable pub marked : List ℕ → ℕ → ℕ → Bool
marked numbers base k = both_clear (get_or numbers (base + k / 1024) 0) (k / 32 % 32) (k % 32)

-- key k was marked: one number has changed, and every key that was marked still is
pub record Marks (numbers : List ℕ) (base k : ℕ) (numbers' : List ℕ) : Type 0 where
  pub number : ℕ
  pub is : numbers' ≡ set numbers (base + k / 1024) number
  pub new : marked numbers' base k ≡ true
  pub old : (j : ℕ) → marked numbers base j ≡ true → marked numbers' base j ≡ true

-- the key whose two bits are one: bit b of number i from the base on
unfoldable pub bit_key : ℕ → ℕ → ℕ
bit_key i b = i * 1024 + b * 33
