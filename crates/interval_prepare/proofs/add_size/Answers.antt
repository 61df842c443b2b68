-- The two cases are those of `added`. Assumes nothing.
use Rattle.interval_prepare.proofs.Sizing.{added_none, added-some}
use Rattle.interval_prepare.proofs.add_size.Goals as goal

pub returns-then-parent-eq0 : goal.returns-then-parent-eq0
returns-then-parent-eq0 c = added_none _ _ _ c.if-parent-eq0.true

pub returns : goal.returns
returns c = added-some _ _ _ c.if-parent-eq0.false
