-- The loop's invariant: the records below i are in form. Assumes nothing.
use Rattle.end_code.specs.Sides.{side_of}
use Rattle.typing_columns.proofs.Recording.{Recorded}
use Rattle.tables.specs.Tables.{pair_given}
use Rattle.typing_columns.proofs.records_in_form.Given as goal

abbrev pub invariant-loop-i : goal.invariant-loop-i
invariant-loop-i l = Recorded (pair_given l.tables) (side_of l.side) l.tables.rows.n l.bytes l.reading l.codes l.counts l.len l.i
