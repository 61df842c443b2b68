-- The loop's invariant: the codes counted and those of the bytes before pos are all. Assumes nothing.
use native.Mathlib.Omega.{arith}
use Rattle.table_encoder.proofs.Walking.{counting-start, counting-fits, counting_more}
use Rattle.table_encoder.proofs.count_back.Goals as goal

pub loop-pos-init : goal.loop-pos-init
loop-pos-init c = counting-start _ _ _ _ c.requires

pub overflow_add-count : goal.overflow_add-count
overflow_add-count c =
    let turn = counting_more _ _ _ _ _ _ c.loop-pos.invariant _ c.loop-pos-test.true c.bytes_before-pos.ensures in
    omega (arith, counting-fits _ _ _ _ _ _ turn.1, c.well_formed)

pub loop-pos-smaller : goal.loop-pos-smaller
loop-pos-smaller c = (counting_more _ _ _ _ _ _ c.loop-pos.invariant _ c.loop-pos-test.true c.bytes_before-pos.ensures).0

pub loop-pos-preserved : goal.loop-pos-preserved
loop-pos-preserved c = (counting_more _ _ _ _ _ _ c.loop-pos.invariant _ c.loop-pos-test.true c.bytes_before-pos.ensures).1
