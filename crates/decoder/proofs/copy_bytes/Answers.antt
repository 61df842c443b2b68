-- `decoder::copy_bytes` meets its contract: each turn is one of `Copying`. Assumes nothing.
use native.Mathlib.Omega.{arith}
use Rattle.decoder.proofs.Copying.{copy_start, copy_length, copy_more, copy_done}
use Rattle.decoder.proofs.copy_bytes.Goals as goal

pub loop-j-init : goal.loop-j-init
loop-j-init c = copy_start _ _ _ c.requires

pub bounds-out-j : goal.bounds-out-j
bounds-out-j c = omega (arith, copy_length _ _ _ c.requires _ _ c.loop-j.invariant, c.requires.room, c.loop-j-test.true)

pub loop-j-preserved : goal.loop-j-preserved
loop-j-preserved c = copy_more _ _ _ c.requires _ _ c.loop-j.invariant c.loop-j-test.true

pub shape_of-out : goal.shape_of-out
shape_of-out c = copy_length _ _ _ c.requires _ _ c.loop-j.invariant

pub returns : goal.returns
returns c = copy_done _ _ _ c.requires _ _ c.loop-j.invariant c.loop-j-test.false
