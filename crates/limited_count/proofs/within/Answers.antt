-- By the two cases of a final count. Assumes nothing.
use mathlib.Core.Path.{sym}
use Rattle.theory.proofs.CountLimit.{final-over, final-count}
use Rattle.limited_count.proofs.within.Goals as goal

pub returns-then-limit-count : goal.returns-then-limit-count
returns-then-limit-count c = sym (final-over _ _ c.if-limit-count.true)

pub returns-else-limit-count : goal.returns-else-limit-count
returns-else-limit-count c = sym (final-count _ _ c.if-limit-count.false)
