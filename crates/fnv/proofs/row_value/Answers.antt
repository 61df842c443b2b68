-- `fnv::row_value` meets its contract: its calls are the steps of a row's value. Assumes nothing.
use Rattle.fnv.proofs.Laws.{row-value}
use Rattle.fnv.proofs.row_value.Goals as goal

pub returns : goal.returns
returns c = row-value _ c.to_le_bytes-length.ensures c.fnv1a-hash.ensures c.fnv1a.ensures
