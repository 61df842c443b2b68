-- Rests on `insert` for the rows' part. Assumes nothing.
use mathlib.Core.Path.{sym}
use native.Mathlib.Omega.{arith}
use Rattle.search_area.proofs.RowsPart.{front_length}
use Rattle.search_fill.proofs.Parting.{row-inserted}
use Rattle.search_fill.proofs.add_row.Goals as goal

pub slice_bounds-insert-end-2 : goal.slice_bounds-insert-end-2
slice_bounds-insert-end-2 c = sym (front_length c.args.area.now c.requires.room)

pub insert-requires-clause-room : goal.insert-requires-clause-room
insert-requires-clause-room c = omega (arith, front_length c.args.area.now c.requires.room)

pub returns : goal.returns
returns c = row-inserted _ _ _ c.args.area.now _ _ c.requires.room c.insert.ensures
