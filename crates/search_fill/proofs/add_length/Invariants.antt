-- The loop keeps that the rows before time 4096 * len + c are in. Assumes nothing.
use Prim.Native.Nat.{◌+◌, ◌*◌}
use Rattle.search_fill.specs.Steps.{RowsIn}
use Rattle.search_fill.proofs.add_length.Given as goal

abbrev pub invariant-loop-c : goal.invariant-loop-c
invariant-loop-c l = RowsIn l.rows.file.now l.rows.places.now l.rows.n l.initial.area (l.len * 4096) l.area (l.len * 4096 + l.c)
