-- The loop's invariant: the first i entries fit exactly if the highest of them does. Assumes nothing.
use Rattle.interval_count.proofs.Forms.{Fitting}
use Rattle.interval_count.proofs.tree_in_form.Given as goal

abbrev pub invariant-loop-i : goal.invariant-loop-i
invariant-loop-i l = Fitting l.text l.table l.i l.highest
