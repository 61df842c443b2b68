-- The count with a limit, as document 02 has it: "over" is "given if the final count exceeds the limit, and in no other
-- case".
use Rattle.std.specs.Prelude.{List, true, false, ℕ, length, ltb}
use Rattle.theory.specs.Dictionary.{Dictionary}
use Rattle.theory.specs.Merge.{encode}

-- "the count, or "over""
pub data Limited : Type 0 where
  counted : ℕ → Limited
  over : Limited

-- the answer for a final count
unfoldable pub final : ℕ → ℕ → Limited
final limit count = elim (ltb limit count) [ true ↦ over | false ↦ counted count ]

-- the final count is the number of the merge procedure's codes
unfoldable pub count_till_limit : Dictionary → List ℕ → ℕ → Limited
count_till_limit D t limit = final limit (length (encode D t))
