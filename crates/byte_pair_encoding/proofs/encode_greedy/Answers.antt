-- `byte_pair_encoding::encode_greedy` meets its contract, by the cases of `Sending`. Assumes nothing.
use Rattle.byte_pair_encoding.proofs.Sending.{nothing-sent, greedy-ready, greedy-sent}
use Rattle.byte_pair_encoding.proofs.encode_greedy.Goals as goal

pub encode_greedy_core-requires : goal.encode_greedy_core-requires
encode_greedy_core-requires c = greedy-ready _ _ _ _ _ c.in_ok-tables.ensures

pub returns-in_err-tables : goal.returns-in_err-tables
returns-in_err-tables c = nothing-sent _ _ _ _ _ _ c.in_err-tables.ensures _ c.from_residual.ensures.1

pub returns : goal.returns
returns c = greedy-sent _ _ _ _ _ c.in_ok-tables.ensures _ _ c.encode_greedy_core.ensures
