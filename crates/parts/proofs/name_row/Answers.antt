-- A hint's number has changed, and no other. Assumes nothing.
use native.Mathlib.Omega.{arith}
use Rattle.pair_check.proofs.Keys.{hint_below}
use Rattle.parts.proofs.Marking.{named_set}
use Rattle.parts.proofs.name_row.Goals as goal

pub offset_bounds-area-at : goal.offset_bounds-area-at
offset_bounds-area-at c = omega (arith, hint_below _ _ _ c.hint_place-place.ensures)

pub bounds-area-at : goal.bounds-area-at
bounds-area-at c = omega (arith, hint_below _ _ _ c.hint_place-place.ensures, c.requires.1)

pub offset_bounds-area-at-2 : goal.offset_bounds-area-at-2
offset_bounds-area-at-2 c = omega (arith, hint_below _ _ _ c.hint_place-place.ensures)

pub bounds-area-at-2 : goal.bounds-area-at-2
bounds-area-at-2 c = omega (arith, hint_below _ _ _ c.hint_place-place.ensures, c.requires.1)

pub returns : goal.returns
returns c = named_set _ _ _ (hint_below _ _ _ c.hint_place-place.ensures)
