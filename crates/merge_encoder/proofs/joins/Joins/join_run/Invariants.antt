-- `Joins::join_run` meets its contract: each turn is one of `Running`. Assumes nothing.
use Rattle.std.proofs.Common.{length}
use Rattle.bitfield.specs.Bits.{is_set}
use Rattle.merge_encoder.specs.Live.{live}
use Rattle.merge_encoder.proofs.Running.{Running}
use Rattle.tables.specs.Tables.{pair_given}
use Rattle.merge_encoder.proofs.joins.Joins.join_run.Given as goal

abbrev pub invariant-loop-self : goal.invariant-loop-self
invariant-loop-self l =
    Running (pair_given l.tables) l.tables.rows.n (length l.initial.codes) l.initial.self l.initial.codes l.row l.first l.self l.codes l.at

abbrev pub decreases-loop-self : goal.decreases-loop-self
decreases-loop-self l = length (live (is_set l.self.live.words) l.codes (length l.initial.codes) 0)
