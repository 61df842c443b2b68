-- By the definition of the key. Assumes nothing.
use mathlib.Core.Path.{refl}
use native.Mathlib.Omega.{arith}
use Rattle.marks.specs.Marks.{bit_key}
use Rattle.forest.specs.Words.{child_key}
use Rattle.forest.proofs.child_key.Goals as goal

pub returns : goal.returns
unfolding child_key bit_key
returns c = record { is = refl; below = omega arith }
