-- The loop's invariant: the first i bytes stand in `reading` from its end back. Assumes nothing.
use Prim.Native.Nat.{◌≤◌}
use Rattle.typing_columns.specs.Steps.{Mirrored}
use Rattle.typing_columns.proofs.fill_reading.Given as goal

abbrev pub invariant-loop-i : goal.invariant-loop-i
invariant-loop-i l = (l.len ≤ 4096) × Mirrored l.bytes l.reading l.i
