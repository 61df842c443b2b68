-- The loop keeps that all rows shorter than len are in; at the end, all rows. Assumes nothing.
use Prim.Native.Nat.{◌*◌}
use Rattle.search_fill.specs.Steps.{RowsIn}
use Rattle.search_fill.proofs.fill_area.Given as goal

abbrev pub invariant-loop-len : goal.invariant-loop-len
invariant-loop-len l = RowsIn l.rows.file.now l.rows.places.now l.rows.n l.initial.area 4096 l.area (l.len * 4096)
