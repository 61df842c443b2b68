-- The row's bytes are compared with the text as it is read in either direction (proofs/Ending.antt). Assumes nothing.
use Rattle.typing_columns.proofs.Ending.{ends-appended, ends-prepended}
use Rattle.typing_columns.proofs.row_ends.Goals as goal

pub returns-in-Append : goal.returns-in-Append
returns-in-Append c = ends-appended _ _ _ _ _ _ _ _ c.requires _ c.bytes_of-row.ensures c.in-Append.is _ c.begins_facing.ensures

pub returns-in-Prepend : goal.returns-in-Prepend
returns-in-Prepend c = ends-prepended _ _ _ _ _ _ _ _ c.requires _ c.bytes_of-row.ensures c.in-Prepend.is _ c.begins_facing-in-Prepend.ensures
