-- The order of the pair check is that of the direction. Assumes nothing.
use Rattle.typing_columns.proofs.Following.{beside-appended, beside-prepended}
use Rattle.typing_columns.proofs.passes_beside.Goals as goal

pub returns-in-Append : goal.returns-in-Append
returns-in-Append c = beside-appended _ _ _ _ _ _ c.in-Append.is c.is_valid_pair_by_parts.ensures

pub returns-in-Prepend : goal.returns-in-Prepend
returns-in-Prepend c = beside-prepended _ _ _ _ _ _ c.in-Prepend.is c.is_valid_pair_by_parts-in-Prepend.ensures
