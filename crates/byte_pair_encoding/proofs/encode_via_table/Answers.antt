-- `byte_pair_encoding::encode_via_table` meets its contract, by the cases of `Sending`. Assumes nothing.
use Rattle.byte_pair_encoding.proofs.Sending.{nothing-sent, table_ready, table_sent}
use Rattle.byte_pair_encoding.proofs.encode_via_table.Goals as goal

pub encode_via_table_core-requires : goal.encode_via_table_core-requires
encode_via_table_core-requires c = table_ready _ _ _ _ _ c.in_ok-tables.ensures

pub returns-in_err-tables : goal.returns-in_err-tables
returns-in_err-tables c = nothing-sent _ _ _ _ _ _ c.in_err-tables.ensures _ c.from_residual.ensures.1

pub returns : goal.returns
returns c = table_sent _ _ _ _ _ c.in_ok-tables.ensures _ _ _ c.encode_via_table_core.ensures
