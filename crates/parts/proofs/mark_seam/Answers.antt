-- Rests on what marking a seam leaves. Assumes nothing.
use native.Mathlib.Omega.{arith}
use Rattle.parts.proofs.Marking.{seam-single, cut-some, cut_inside, seam-inside, seam-written}
use Rattle.parts.proofs.mark_seam.Goals as goal

pub returns-then-w-part : goal.returns-then-w-part
returns-then-w-part c = seam-single _ _ _ _ _ _ c.requires c.if-w-part.true

pub overflow_sub-cut : goal.overflow_sub-cut
overflow_sub-cut c = cut-some _ _ _ _ _ _ c.requires c.if-w-part.false _ _ c.bytes_of-bytes.ensures c.length_of-cut.ensures

pub bounds-bytes-cut : goal.bounds-bytes-cut
bounds-bytes-cut c = let z = cut_inside _ _ _ _ _ _ c.requires c.if-w-part.false _ _ c.bytes_of-bytes.ensures c.length_of-cut.ensures in omega arith

pub bounds-bytes-cut-2 : goal.bounds-bytes-cut-2
bounds-bytes-cut-2 c = cut_inside _ _ _ _ _ _ c.requires c.if-w-part.false _ _ c.bytes_of-bytes.ensures c.length_of-cut.ensures

pub mark-requires : goal.mark-requires
mark-requires c = (omega arith, seam-inside _ _ _ _ c.seam_key.ensures c.requires.area_room)

pub returns : goal.returns
returns c = seam-written _ _ _ _ _ _ c.requires c.if-w-part.false _ _ c.bytes_of-bytes.ensures c.length_of-cut.ensures _ _ c.seam_key.ensures c.mark.ensures
