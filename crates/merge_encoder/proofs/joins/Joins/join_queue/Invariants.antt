-- `Joins::join_queue` meets its contract: each turn is one of `Emptying`. Assumes nothing.
use Rattle.std.proofs.Common.{length}
use Rattle.merge_encoder.proofs.Emptying.{Emptying}
use Rattle.tables.specs.Tables.{pair_given}
use Rattle.merge_encoder.proofs.joins.Joins.join_queue.Given as goal

abbrev pub invariant-loop-entry : goal.invariant-loop-entry
invariant-loop-entry l =
    Emptying (pair_given l.tables) l.tables.rows.n (length l.initial.codes) l.initial.self l.initial.codes l.row l.self l.codes l.entry

abbrev pub decreases-loop-entry : goal.decreases-loop-entry
decreases-loop-entry l = l.entry
