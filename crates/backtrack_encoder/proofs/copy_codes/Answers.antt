-- `backtrack_encoder::copy_codes` meets its contract: each turn is one of `Copying`. Assumes nothing.
use Rattle.backtrack_encoder.proofs.Copying.{copied_start}
use native.Mathlib.Omega.{arith}
use Rattle.backtrack_encoder.proofs.Copying.{copied_length, copied_more, copied_all}
use Rattle.backtrack_encoder.proofs.copy_codes.Goals as goal

pub loop-i-init : goal.loop-i-init
loop-i-init c = copied_start _ _ _ c.requires

pub bounds-out-i : goal.bounds-out-i
bounds-out-i c = omega (arith, copied_length _ _ _ _ _ c.loop-i.invariant, c.loop-i.invariant.room, c.loop-i-test.true)

pub loop-i-preserved : goal.loop-i-preserved
loop-i-preserved c = copied_more _ _ _ _ _ c.loop-i.invariant c.loop-i-test.true

pub shape_of-out : goal.shape_of-out
shape_of-out c = copied_length _ _ _ _ _ c.loop-i.invariant

pub returns : goal.returns
returns c = copied_all _ _ _ _ _ c.loop-i.invariant c.loop-i-test.false
