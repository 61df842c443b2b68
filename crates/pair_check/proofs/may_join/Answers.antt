-- The seam's bit is looked at. Assumes nothing.
use mathlib.Core.Path.{ap, ◌∙◌}
use native.Mathlib.Omega.{arith}
use Rattle.marks.specs.Marks.{marked}
use Rattle.pair_check.proofs.Keys.{seam-below, seam_bit_key}
use Rattle.pair_check.proofs.may_join.Goals as goal

pub is_bit_marked-requires : goal.is_bit_marked-requires
is_bit_marked-requires c = (omega (arith, seam-below _ _ _ c.seam_bit-seam.ensures, c.requires), omega arith)

pub returns : goal.returns
returns c = c.is_bit_marked.ensures ∙ ap (marked _ 14848) (seam_bit_key _ _ _ c.seam_bit-seam.ensures)
