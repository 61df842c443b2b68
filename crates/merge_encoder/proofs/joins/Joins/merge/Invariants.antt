-- `Joins::merge` meets its contract: each turn is one of `Merging`. Assumes nothing.
use Rattle.std.proofs.Common.{length}
use Rattle.merge_encoder.proofs.Merging.{Merging}
use Rattle.tables.specs.Tables.{pair_given}
use Rattle.merge_encoder.proofs.joins.Joins.merge.Given as goal

abbrev pub invariant-loop-row : goal.invariant-loop-row
invariant-loop-row l =
    Merging (pair_given l.tables) l.tables.rows.n (length l.initial.codes) l.initial.self l.initial.codes l.self l.codes l.row
