-- The loop keeps that the tables have the parts of the rows below w and the search area their marks. Assumes nothing.
use Rattle.parts.proofs.Filling.{Filling}
use Rattle.parts.proofs.fill_parts.Given as goal

abbrev pub invariant-loop-w : goal.invariant-loop-w
invariant-loop-w l = Filling l.rows.file.now l.initial.lefts l.initial.rights l.initial.area l.lefts l.rights l.area l.rows.n l.w
