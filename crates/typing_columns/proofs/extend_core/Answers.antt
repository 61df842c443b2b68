-- The loop's invariant: k of the bytes are typed. Assumes nothing.
use Rattle.typing_columns.proofs.Pushing.{extending_start, extending_end, extending_more}
use Rattle.typing_columns.proofs.extend_core.Goals as goal

pub loop-k-init : goal.loop-k-init
loop-k-init c = extending_start _ _ _ _ _ _ _ _ c.requires

pub loop-k-preserved : goal.loop-k-preserved
loop-k-preserved c = extending_more _ _ _ _ _ _ _ _ _ _ _ _ c.loop-k.invariant c.loop-k-test.true _ _ _ c.push_core.ensures

pub returns : goal.returns
returns c = extending_end _ _ _ _ _ _ _ _ _ _ _ _ c.loop-k.invariant c.loop-k-test.false
