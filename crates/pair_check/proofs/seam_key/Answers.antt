-- The number is that of the definition. Assumes nothing.
use native.Mathlib.Omega.{arith}
use Rattle.pair_check.proofs.Keys.{seam-below, seam_key_is}
use Rattle.pair_check.proofs.seam_key.Goals as goal

pub overflow_mul-result : goal.overflow_mul-result
overflow_mul-result c = omega (arith, seam-below _ _ _ c.seam_bit-seam.ensures)

pub overflow_add-result : goal.overflow_add-result
overflow_add-result c = omega (arith, seam-below _ _ _ c.seam_bit-seam.ensures)

pub returns : goal.returns
returns c = seam_key_is _ _ _ c.seam_bit-seam.ensures
