-- The join of the two in the order of the side (proofs/Searching.antt). Assumes nothing.
use Rattle.end_code.proofs.Searching.{beside-append, beside-prepend}
use Rattle.end_code.proofs.Side.join_beside.Goals as goal

pub returns-in-Append : goal.returns-in-Append
returns-in-Append c = rw c.in-Append.is (beside-append _ _ _ _ _ _ c.join_before.ensures)

pub returns-in-Prepend : goal.returns-in-Prepend
returns-in-Prepend c = rw c.in-Prepend.is (beside-prepend _ _ _ _ _ _ c.join_before-in-Prepend.ensures)
