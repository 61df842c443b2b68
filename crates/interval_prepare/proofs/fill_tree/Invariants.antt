-- The loop's invariant: the prefixes shorter than i are placed. Assumes nothing.
use Rattle.interval_prepare.proofs.Placing.{Placing}
use Rattle.interval_prepare.proofs.fill_tree.Given as goal

abbrev pub invariant-loop-i : goal.invariant-loop-i
invariant-loop-i l = Placing l.rows.file.now l.rows.places.now l.rows.n l.m l.last_codes l.work l.initial.numbers l.initial.ends l.initial.depths l.i l.numbers l.ends l.depths
