-- `marks::is_marked` meets its contract: two shifts and remainders are the definition of the bits. Assumes nothing.
use Rattle.marks.proofs.Laws.{marked-is}
use Rattle.marks.proofs.is_marked.Goals as goal

pub returns : goal.returns
returns c = marked-is _ _ _
