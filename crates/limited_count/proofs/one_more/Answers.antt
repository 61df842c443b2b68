-- By the two cases of `in_a_row`. Assumes nothing.
use native.Mathlib.Numerals.{add-one}
use Rattle.limited_count.proofs.Many.{in_a_row_none, in_a_row_more}
use mathlib.Core.Path.{sym}
use Rattle.limited_count.proofs.one_more.Goals as goal

pub returns-then-count-limit : goal.returns-then-count-limit
returns-then-count-limit c = sym (in_a_row_none _ _ _ c.if-count-limit.true)

pub returns-else-count-limit : goal.returns-else-count-limit
returns-else-count-limit c = rw add-one (sym (in_a_row_more _ _ _ c.if-count-limit.false))
