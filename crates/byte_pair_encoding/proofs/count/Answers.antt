-- `byte_pair_encoding::count` meets its contract, by the cases of `Counting`. Assumes nothing.
use Rattle.byte_pair_encoding.proofs.Counting.{nothing-counted, count-ready, text-counted}
use Rattle.byte_pair_encoding.proofs.count.Goals as goal

pub count_core-requires : goal.count_core-requires
count_core-requires c = count-ready _ _ _ _ c.in_ok-tables.ensures

pub returns-in_err-tables : goal.returns-in_err-tables
returns-in_err-tables c = nothing-counted _ _ _ _ c.in_err-tables.ensures _ c.from_residual.ensures.1

pub returns : goal.returns
returns c = text-counted _ _ _ _ c.in_ok-tables.ensures _ _ c.count_core.ensures
