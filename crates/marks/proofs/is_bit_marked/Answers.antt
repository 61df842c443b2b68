-- `marks::is_bit_marked` meets its contract: the bit is clear. Assumes nothing.
use Rattle.marks.proofs.Laws.{bit_marked_is}
use Rattle.marks.proofs.is_bit_marked.Goals as goal

pub returns : goal.returns
returns c = bit_marked_is _ _ _ _ c.requires.1
