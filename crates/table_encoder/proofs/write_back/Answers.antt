-- The loop's invariant: the codes behind pos are written, and the places before them are as before. Assumes nothing.
use Rattle.table_encoder.proofs.Walking.{writing_start, writing_more}
use Rattle.table_encoder.proofs.write_back.Goals as goal

pub loop-pos-init : goal.loop-pos-init
loop-pos-init c = writing_start _ _ _ _ _ c.requires

pub loop-pos-smaller : goal.loop-pos-smaller
loop-pos-smaller c = (writing_more _ _ _ _ _ _ _ _ c.loop-pos.invariant c.loop-pos-test.true _ c.bytes_before-pos.ensures).0

pub loop-pos-preserved : goal.loop-pos-preserved
loop-pos-preserved c = (writing_more _ _ _ _ _ _ _ _ c.loop-pos.invariant c.loop-pos-test.true _ c.bytes_before-pos.ensures).1
