-- `backtrack_encoder::backtrack` meets its contract: each turn is a step of `Running`. Assumes nothing.
use mathlib.Core.Logic.{inl, inr}
use native.Mathlib.Omega.{arith}
use Rattle.backtrack_encoder.proofs.Running.{running-start, running-end}
use Rattle.backtrack_encoder.proofs.backtrack.Goals as goal

pub loop-done-init : goal.loop-done-init
loop-done-init c = running-start _ _ _ _ _ _ c.requires c.start-encoder.ensures c.new-alive.ensures

pub returns-then-encoder : goal.returns-then-encoder
returns-then-encoder c = running-end _ _ _ _ _ _ _ _ c.loop-done.invariant (λ i. (c.type_inv.text i).fits) (inr c.if-encoder.true)

pub returns : goal.returns
returns c = running-end _ _ _ _ _ _ _ _ c.loop-done.invariant (λ i. (c.type_inv.text i).fits) (inl (omega (arith, c.loop-done-test.false)))
