-- The number is that of the definition. Assumes nothing.
use mathlib.Core.Path.{refl}
use Rattle.pair_check.specs.Pair.{seam_bit}
use Rattle.pair_check.proofs.seam_bit.Goals as goal

pub returns : goal.returns
unfolding seam_bit
returns c = refl
