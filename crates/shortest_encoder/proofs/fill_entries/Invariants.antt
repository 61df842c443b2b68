-- The loop's invariant is `Placing`: the entries of the places from i on are there. Assumes nothing.
use Rattle.shortest_encoder.proofs.Placing.{Placing}
use Rattle.shortest_encoder.proofs.fill_entries.Given as goal

abbrev pub invariant-loop-i : goal.invariant-loop-i
invariant-loop-i l = Placing l.tables.rows.file.now l.tables.rows.places.now l.tables.area.now l.tables.rows.n l.text l.initial.work l.work l.i
