-- The parent is what is before the last code. Assumes nothing.
use Rattle.interval_prepare.specs.Steps.{parent_in}
use Rattle.interval_prepare.proofs.parent_of.Goals as goal

pub returns : goal.returns
unfolding parent_in
returns c = c.bytes_before.ensures
