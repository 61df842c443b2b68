-- Each turn is one of proofs/Limiting.antt. Assumes nothing.
use mathlib.Core.Logic.{inl, inr}
use native.Mathlib.Omega.{arith}
use Rattle.backtrack_encoder.proofs.Running.{running-start}
use Rattle.limited_count.proofs.Limiting.{limiting_start, limiting_ahead, limiting_end, limiting_over, limiting_stays}
use Rattle.limited_count.proofs.count_till_limit_core.Goals as goal

pub loop-done-init : goal.loop-done-init
loop-done-init c = limiting_start _ _ _ _ _ _ _ (running-start _ _ _ _ _ _ c.requires c.start-encoder.ensures c.new-alive.ensures)

pub returns-then-encoder : goal.returns-then-encoder
returns-then-encoder c = limiting_end _ _ _ _ _ _ _ _ _ _ c.loop-done.invariant (λ i. (c.type_inv.text i).fits) _ (inr c.if-encoder.true) c.within.ensures

pub returns-then-stay_now : goal.returns-then-stay_now
returns-then-stay_now c = limiting_stays _ _ _ _ _ _ _ _ _ _ c.loop-done.invariant (λ i. (c.type_inv.text i).fits) _ c.if-limit-encoder.true c.stay_now.ensures c.if-stay_now.true

pub is_over_ahead-requires : goal.is_over_ahead-requires
is_over_ahead-requires c = limiting_ahead _ _ _ _ _ _ _ _ _ _ c.loop-done.invariant c.if-limit-encoder.true

pub returns-then-is_over_ahead : goal.returns-then-is_over_ahead
returns-then-is_over_ahead c = limiting_over _ _ _ _ _ _ _ _ _ _ c.loop-done.invariant _ c.is_over_ahead.ensures c.if-is_over_ahead.true

pub returns : goal.returns
returns c = limiting_end _ _ _ _ _ _ _ _ _ _ c.loop-done.invariant (λ i. (c.type_inv.text i).fits) _ (inl (omega (arith, c.loop-done-test.false))) c.within-2.ensures
