-- The answers follow by the two cases of a row: it reaches the first byte, or there is a record before it. Assumes nothing.
use native.Mathlib.Omega.{arith}
use Rattle.typing_columns.proofs.Following.{follows-whole, follows-entry, follows_pair_of, follows-beside}
use Rattle.typing_columns.proofs.follows.Goals as goal

pub returns-then-i-len : goal.returns-then-i-len
returns-then-i-len c = follows-whole _ _ _ _ _ _ _ c.row_len-len.ensures c.if-i-len.true

pub bounds-codes-i : goal.bounds-codes-i
bounds-codes-i c = omega (arith, c.requires.before.room, follows-entry _ _ _ _ _ _ c.requires c.row_len-len.ensures c.if-i-len.false)

pub passes_beside-requires : goal.passes_beside-requires
passes_beside-requires c = follows_pair_of _ _ _ _ _ _ c.requires c.row_len-len.ensures c.if-i-len.false

pub returns : goal.returns
returns c = follows-beside _ _ _ _ _ _ _ c.row_len-len.ensures c.if-i-len.false _ c.passes_beside.ensures
