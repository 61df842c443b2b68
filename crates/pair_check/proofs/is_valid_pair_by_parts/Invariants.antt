-- `pair_check::is_valid_pair_by_parts` meets its contract: each turn is one of `Turns`. Assumes nothing.
use Prim.Native.Nat.{◌+◌}
use Rattle.pair_check.proofs.Turns.{Walking}
use Rattle.tables.specs.Tables.{pair_given}
use Rattle.pair_check.proofs.is_valid_pair_by_parts.Given as goal

abbrev pub invariant-loop-limit : goal.invariant-loop-limit
invariant-loop-limit l = Walking (pair_given l.tables) l.tables.rows.n l.limit l.token1 l.token2 l.left l.right l.bound

abbrev pub decreases-loop-limit : goal.decreases-loop-limit
decreases-loop-limit l = l.left + l.right
