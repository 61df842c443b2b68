-- `Joins::join_run` meets its contract: each turn is one of `Running`. Assumes nothing.
use mathlib.Core.Path.{refl}
use native.Mathlib.Omega.{arith}
use Rattle.merge_encoder.proofs.Places.{last-live}
use Rattle.merge_encoder.proofs.Running.{running-other, running-next, running-later, running_more, running-end}
use Rattle.merge_encoder.proofs.joins.Joins.join_run.Goals as goal

pub returns-then-is_later : goal.returns-then-is_later
returns-then-is_later c =
    running-later _ _ _ _ _ _ _ c.requires.1.0 _ _ _ c.loop-self.invariant c.loop-self-test.true
    _ (last-live _ _ _ c.last_live-last.ensures) _ c.is_later.ensures c.if-is_later.true

pub returns-in_default : goal.returns-in_default
returns-in_default c =
    let next = rw c.loop-self.auto.codes at c.in_default.ensures in
    absurd (omega (
      arith,
      running-next _ _ _ _ _ _ _ c.requires.1.0 _ _ _ c.loop-self.invariant c.loop-self-test.true _ next,
    ))

pub returns-in_default-after : goal.returns-in_default-after
returns-in_default-after c =
    let next = rw c.loop-self.auto.codes at c.in-Some.ensures in
    let after = rw c.loop-self.auto.codes at c.in_default-after.ensures in
    let turned = rw c.loop-self.auto.codes at c.join_at.ensures in
    running-end _ _ _ _ _ _ _ c.requires.1.0 _ _ _ c.loop-self.invariant c.loop-self-test.true
    _ (last-live _ _ _ c.last_live-last.ensures) _ c.is_later.ensures c.if-is_later.false _ next.1 _ after _ _ turned refl

pub loop-self-preserved : goal.loop-self-preserved
loop-self-preserved c =
    let next = rw c.loop-self.auto.codes at c.in-Some.ensures in
    let after = rw c.loop-self.auto.codes at c.in-Some-after.ensures in
    let turned = rw c.loop-self.auto.codes at c.join_at.ensures in
    running_more _ _ _ _ _ _ _ c.requires.1.0 _ _ _ c.loop-self.invariant c.loop-self-test.true
    _ (last-live _ _ _ c.last_live-last.ensures) _ c.is_later.ensures c.if-is_later.false _ next.1 _ after.1 _ _ turned after.0

pub returns : goal.returns
returns c = running-other _ _ _ _ _ _ _ c.requires.1.0 _ _ _ c.loop-self.invariant c.loop-self-test.false
