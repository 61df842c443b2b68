-- The length read is that of the dictionary's row. Assumes nothing.
use Rattle.end_code.proofs.Sizes.{read-size}
use Rattle.typing_columns.proofs.row_len.Goals as goal

pub returns : goal.returns
returns c = read-size _ _ _ _ _ c.requires c.length_of.ensures.is
