-- Rests on `clear` for the rows' part. Assumes nothing.
use mathlib.Core.Path.{sym}
use native.Mathlib.Omega.{arith}
use Rattle.search_area.proofs.RowsPart.{front_length}
use Rattle.search_fill.proofs.Parting.{emptied-is}
use Rattle.search_fill.proofs.empty.Goals as goal

pub slice_bounds-clear-end-2 : goal.slice_bounds-clear-end-2
slice_bounds-clear-end-2 c = sym (front_length c.args.area.now c.requires)

pub clear-requires : goal.clear-requires
clear-requires c = omega (arith, front_length c.args.area.now c.requires)

pub returns : goal.returns
returns c = emptied-is c.args.area.now _ c.clear.ensures
