-- The loop's invariant: the code has come to stand beside the first `at` typed bytes (proofs/Reaching.antt). Assumes nothing.
use native.Mathlib.Omega.{arith}
use Rattle.end_code.proofs.Reaching.{reach-start, reach-all, reach-end, reach-short, len-some, reach-join}
use Rattle.end_code.proofs.end_code_at.Goals as goal

pub loop-at-init : goal.loop-at-init
loop-at-init c = reach-start _ _ _ _ _ _ c.requires (omega (arith, c.type_inv.bytes c.args.i)) _ c.byte_row-code.ensures

pub returns-then-joined : goal.returns-then-joined
returns-then-joined c = reach-end _ _ _ _ _ _ _ _ c.loop-at.invariant c.loop-at-test.true _ c.first_join-joined.ensures c.if-joined.true

pub returns-then-at-len : goal.returns-then-at-len
returns-then-at-len c = reach-short _ _ _ _ _ _ _ _ c.loop-at.invariant c.loop-at-test.true _ c.first_join-joined.ensures c.if-joined.false _ _ c.other_part-other.ensures c.length_of-len.ensures.is c.if-at-len.true

pub loop-at-smaller : goal.loop-at-smaller
loop-at-smaller c =
    let z = len-some _ _ _ _ _ _ _ _ c.loop-at.invariant c.loop-at-test.true _ c.first_join-joined.ensures c.if-joined.false _ _ c.other_part-other.ensures c.length_of-len.ensures.is in
    omega arith

pub loop-at-preserved : goal.loop-at-preserved
loop-at-preserved c = reach-join _ _ _ _ _ _ _ _ c.loop-at.invariant c.loop-at-test.true _ c.first_join-joined.ensures c.if-joined.false _ _ c.other_part-other.ensures c.length_of-len.ensures.is (omega arith)

pub returns : goal.returns
returns c = reach-all _ _ _ _ _ _ _ _ c.loop-at.invariant (omega arith)
