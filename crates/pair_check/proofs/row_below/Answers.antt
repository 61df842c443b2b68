-- By cases. Assumes nothing.
use borrow.Author.Tests.{lt-ltb, le-ltb}
use Rattle.pair_check.specs.Pair.{row_below}
use Rattle.pair_check.proofs.row_below.Goals as goal

pub returns-then-row-bound : goal.returns-then-row-bound
unfolding row_below
returns-then-row-bound c = rw (lt-ltb _ _ c.if-row-bound.true, row_below)

pub returns-else-row-bound : goal.returns-else-row-bound
unfolding row_below
returns-else-row-bound c = rw (le-ltb _ _ c.if-row-bound.false, row_below)
