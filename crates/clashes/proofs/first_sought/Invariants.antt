-- `clashes::first_sought` meets its contract. The loop's invariant: the rows looked at stand in the scratch, and none of them has what is looked for of an earlier one. Assumes nothing.
use Rattle.placed_rows.specs.Reading.{rows_of}
use Rattle.clashes.proofs.Indexed.{Looked}
use Rattle.clashes.proofs.first_sought.Given as goal

abbrev pub invariant-loop-row : goal.invariant-loop-row
invariant-loop-row g l = Looked (rows_of l.rows) l.factor g.S.Sought.exact l.row l.initial.scratch l.scratch
