-- The loop keeps that the tables have the parts of the rows below w and the search area their marks. Assumes nothing.
use native.Mathlib.Omega.{arith}
use mathlib.Core.Path.{◌∙◌}
use Rattle.parts.proofs.Filling.{fit-kept, filled-kept, filling_start, filling_looks, filling_done, filling_stops, filling_writes, filling_cuts, filling_goes_on}
use Rattle.parts.proofs.fill_parts.Goals as goal

pub empty_pairs-requires : goal.empty_pairs-requires
empty_pairs-requires c = c.requires.rows_found.area_room

pub loop-w-init : goal.loop-w-init
loop-w-init c = filling_start _ _ _ _ _ _ _ (fit-kept _ _ _ _ _ _ c.empty_pairs.ensures.kept _ _ c.requires)

pub overflow_cast-w : goal.overflow_cast-w
overflow_cast-w c = omega (arith, c.requires.rows_found.places_ready.placed.few)

pub find_parts-requires : goal.find_parts-requires
find_parts-requires c = record { looking = filling_looks _ _ _ _ _ _ _ (fit-kept _ _ _ _ _ _ c.empty_pairs.ensures.kept _ _ c.requires) _ _ _ _ c.loop-w.invariant (omega arith); prefixes_found = c.requires.prefixes_found }

pub returns-in_default : goal.returns-in_default
returns-in_default c = (filled-kept _ _ _ _ _ _ c.empty_pairs.ensures.kept _ _ _ _ (filling_stops _ _ _ _ _ _ _ (fit-kept _ _ _ _ _ _ c.empty_pairs.ensures.kept _ _ c.requires) _ _ _ _ c.loop-w.invariant (omega arith) c.in_default.ensures), omega arith)

pub write_parts-requires : goal.write_parts-requires
write_parts-requires c = filling_writes _ _ _ _ _ _ _ (fit-kept _ _ _ _ _ _ c.empty_pairs.ensures.kept _ _ c.requires) _ _ _ _ c.loop-w.invariant _ _ (omega arith) c.in-Some.ensures

pub mark_seam-requires : goal.mark_seam-requires
mark_seam-requires c = filling_cuts _ _ _ _ _ _ _ (fit-kept _ _ _ _ _ _ c.empty_pairs.ensures.kept _ _ c.requires) _ _ _ _ c.loop-w.invariant _ _ (omega arith) c.in-Some.ensures _ _ _ c.write_parts.ensures

pub loop-w-preserved : goal.loop-w-preserved
loop-w-preserved c = filling_goes_on _ _ _ _ _ _ _ (fit-kept _ _ _ _ _ _ c.empty_pairs.ensures.kept _ _ c.requires) _ _ _ _ c.loop-w.invariant _ _ (omega arith) c.in-Some.ensures _ _ _ _ c.write_parts.ensures c.mark_seam.ensures

pub shape_of-lefts : goal.shape_of-lefts
shape_of-lefts c = c.loop-w.invariant.lefts_length

pub shape_of-rights : goal.shape_of-rights
shape_of-rights c = c.loop-w.invariant.rights_length

pub shape_of-area : goal.shape_of-area
shape_of-area c = c.loop-w.invariant.area_kept.area_length ∙ c.empty_pairs.ensures.kept.area_length

pub returns : goal.returns
returns c = filled-kept _ _ _ _ _ _ c.empty_pairs.ensures.kept _ _ _ _ (filling_done _ _ _ _ _ _ _ (fit-kept _ _ _ _ _ _ c.empty_pairs.ensures.kept _ _ c.requires) _ _ _ _ c.loop-w.invariant (omega arith))
