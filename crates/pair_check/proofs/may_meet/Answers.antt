-- A row that is read has a byte; its first and its last one are the definitions'. Assumes nothing.
use mathlib.Core.Path.{refl, ap, ap₂, ◌∙◌}
use Rattle.marks.specs.Marks.{marked}
use Rattle.pair_check.specs.Pair.{seam_key}
use Rattle.pair_check.proofs.Seams.{first_read, last-read}
use Rattle.pair_check.proofs.may_meet.Goals as goal

pub returns : goal.returns
returns c = c.may_join.ensures ∙ ap (marked _ 14848) (ap₂ seam_key (last-read _ _ _ c.requires.places_ready _ _ c.requires.left_below refl _ c.bytes_of-before.ensures) (first_read _ _ _ c.requires.places_ready _ _ c.requires.right_below refl _ c.bytes_of-after.ensures))
