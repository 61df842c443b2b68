-- By the contract of the marks of one bit. Assumes nothing.
use Rattle.forest.specs.Words.{child_key}
use Rattle.forest.proofs.may_have_child.Goals as goal

pub returns : goal.returns
unfolding child_key
returns c = c.is_bit_marked.ensures
