-- `Joins::push` meets its contract: its two answers are those of `Queueing`. Assumes nothing.
use mathlib.Core.Path.{refl}
use Rattle.merge_encoder.proofs.Queueing.{pushed_none, pushed-some}
use Rattle.merge_encoder.proofs.joins.Joins.push.Goals as goal

pub returns-then-row-eq-NONE : goal.returns-then-row-eq-NONE
returns-then-row-eq-NONE c = pushed_none _ _ _ c.requires _ refl refl c.if-row-eq-NONE.true refl refl refl

pub returns : goal.returns
returns c = pushed-some _ _ _ c.requires _ refl refl _ c.if-row-eq-NONE.false refl refl refl refl
