-- The loop's invariant: k of the bytes are typed. Assumes nothing.
use Rattle.end_code.specs.Sides.{side_of}
use Rattle.typing_columns.proofs.Pushing.{Extending}
use Rattle.tables.specs.Tables.{pair_given}
use Rattle.typing_columns.proofs.extend_core.Given as goal

abbrev pub invariant-loop-k : goal.invariant-loop-k
invariant-loop-k l = Extending (pair_given l.tables) (side_of l.side) l.tables.rows.n l.len l.initial.bytes l.initial.codes l.initial.counts l.typed l.k l.bytes l.codes l.counts
