-- The loop's invariant: the first i last codes are below n. Assumes nothing.
use Rattle.interval_count.proofs.Forms.{Sweeping}
use Rattle.interval_count.proofs.IntervalTables.codes_in_form.Given as goal

abbrev pub invariant-loop-i : goal.invariant-loop-i
invariant-loop-i l = Sweeping l.n l.self.text.now l.self.last_codes.now l.i
