-- `byte_pair_encoding::encode_minimal` meets its contract, by the cases of `Sending`. Assumes nothing.
use Rattle.byte_pair_encoding.proofs.Sending.{nothing-sent, minimal-ready, minimal-sent}
use Rattle.byte_pair_encoding.proofs.encode_minimal.Goals as goal

pub encode_minimal_core-requires : goal.encode_minimal_core-requires
encode_minimal_core-requires c = minimal-ready _ _ _ _ _ c.in_ok-tables.ensures

pub returns-in_err-tables : goal.returns-in_err-tables
returns-in_err-tables c = nothing-sent _ _ _ _ _ _ c.in_err-tables.ensures _ c.from_residual.ensures.1

pub returns : goal.returns
returns c = minimal-sent _ _ _ _ _ c.in_ok-tables.ensures _ _ _ c.encode_minimal_core.ensures
