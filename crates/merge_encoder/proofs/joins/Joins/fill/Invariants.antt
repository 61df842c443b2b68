-- `Joins::fill` meets its contract: each turn is one of `Keying`. Assumes nothing.
use Rattle.std.proofs.Common.{length}
use Rattle.merge_encoder.proofs.Keying.{Keying}
use Rattle.tables.specs.Tables.{pair_given}
use Rattle.merge_encoder.proofs.joins.Joins.fill.Given as goal

abbrev pub invariant-loop-next : goal.invariant-loop-next
invariant-loop-next l = Keying (pair_given l.tables) l.tables.rows.n (length l.codes) l.codes l.self l.next
