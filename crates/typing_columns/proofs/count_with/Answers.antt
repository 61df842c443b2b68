-- The count follows by the two cases of a row, as in `follows`. Assumes nothing.
use native.Mathlib.Omega.{arith}
use Rattle.typing_columns.proofs.Following.{count-whole, count-entry, count-few, count-behind}
use Rattle.typing_columns.proofs.count_with.Goals as goal

pub returns-then-i-len : goal.returns-then-i-len
returns-then-i-len c = count-whole _ _ _ _ _ _ _ c.requires c.row_len-len.ensures c.if-i-len.true

pub bounds-counts-i : goal.bounds-counts-i
bounds-counts-i c = omega (arith, c.requires.room, count-entry _ _ _ _ _ _ _ c.requires c.row_len-len.ensures c.if-i-len.false)

pub overflow_add-result : goal.overflow_add-result
overflow_add-result c = omega (arith, c.requires.place, count-few _ _ _ _ _ _ _ c.requires c.row_len-len.ensures c.if-i-len.false)

pub returns : goal.returns
returns c = count-behind _ _ _ _ _ _ _ c.requires c.row_len-len.ensures c.if-i-len.false
