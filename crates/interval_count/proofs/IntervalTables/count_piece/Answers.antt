-- Each turn is a step of `Counting`. Assumes nothing.
use mathlib.Core.Logic.{inl, inr}
use native.Mathlib.Omega.{arith}
use Rattle.interval_count.proofs.Counting.{counting-start, counting-step, meets-ready, sum_fits, counting-met, counting-end}
use Rattle.interval_count.proofs.IntervalTables.count_piece.Goals as goal

pub loop-done-init : goal.loop-done-init
loop-done-init c = counting-start _ _ _ _ _ _ _ _ _ _ _ _ c.requires c.start-encoder.ensures c.new-alive.ensures

pub returns-then-encoder : goal.returns-then-encoder
returns-then-encoder c = counting-end _ _ _ _ _ _ _ _ _ _ _ _ _ _ c.loop-done.invariant (λ i. (c.type_inv.piece i).fits) (inr c.if-encoder.true)

pub meets-requires : goal.meets-requires
meets-requires c = meets-ready _ _ _ _ _ _ _ _ _ _ _ _ _ _ (counting-step _ _ _ _ _ _ _ _ _ _ _ _ _ _ c.loop-done.invariant _ _ _ c.step-encoder.ensures)

pub overflow_add-result : goal.overflow_add-result
overflow_add-result c =
    omega (arith, sum_fits _ _ _ _ _ _ _ _ _ _ _ _ _ _ (counting-step _ _ _ _ _ _ _ _ _ _ _ _ _ _ c.loop-done.invariant _ _ _ c.step-encoder.ensures) _ c.codes_between.ensures)

pub returns-then-meets : goal.returns-then-meets
returns-then-meets c =
    counting-met _ _ _ _ _ _ _ _ _ _ _ _ _ _ (counting-step _ _ _ _ _ _ _ _ _ _ _ _ _ _ c.loop-done.invariant _ _ _ c.step-encoder.ensures)
    (λ i. (c.type_inv.piece i).fits) (c.meets.ensures.met c.if-meets.true) _ c.codes_between.ensures

pub returns : goal.returns
returns c = counting-end _ _ _ _ _ _ _ _ _ _ _ _ _ _ c.loop-done.invariant (λ i. (c.type_inv.piece i).fits) (inl (omega (arith, c.loop-done-test.false)))
