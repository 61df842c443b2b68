-- The one number that an exported call returns, and what it says of the call's answer.
use Rattle.std.specs.Prelude.{◌≡◌, ℕ, ◌+◌, ◌*◌, ◌^◌, ◌-◌, min}
use Rattle.causes.specs.Causes.{Refusal}

-- the cause's number (0 for an answer) times 2^32, plus the place or the answer's number;
-- a place of 2^32 or more, which no call gives, counts as 2^32 - 1
unfoldable pub packed : ℕ → ℕ → ℕ
packed number place = number * 2 ^ 32 + min place (2 ^ 32 - 1)

-- the same of a number with its place
abbrev pub packed_of : Refusal → ℕ
packed_of r = packed r.number r.place

-- r is the packed form of an answer that meets the call's contract; values gives number and place of an answer
pub record Packs {A : Type 0} (values : A → Refusal) (meets : A → Type 0) (r : ℕ) : Type 0 where
  pub answer : A
  pub met : meets answer
  pub is : r ≡ packed_of (values answer)
