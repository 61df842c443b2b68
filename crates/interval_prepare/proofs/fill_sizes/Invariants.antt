-- The loop's invariant: those from i on are added to their parents. Assumes nothing.
use Prim.Native.Nat.{◌-◌}
use Rattle.interval_prepare.proofs.Sizing.{Sizing}
use Rattle.interval_prepare.proofs.fill_sizes.Given as goal

abbrev pub invariant-loop-i : goal.invariant-loop-i
invariant-loop-i l = Sizing l.rows.file.now l.rows.places.now l.rows.n l.m l.last_codes l.initial.work (l.i - 1) l.work
