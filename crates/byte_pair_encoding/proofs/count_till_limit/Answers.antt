-- `byte_pair_encoding::count_till_limit` meets its contract, by the cases of `Counting`. Assumes nothing.
use Rattle.byte_pair_encoding.proofs.Counting.{nothing_limited, count-ready, text_limited}
use Rattle.byte_pair_encoding.proofs.count_till_limit.Goals as goal

pub count_till_limit_core-requires : goal.count_till_limit_core-requires
count_till_limit_core-requires c = count-ready _ _ _ _ c.in_ok-tables.ensures

pub returns-in_err-tables : goal.returns-in_err-tables
returns-in_err-tables c = nothing_limited _ _ _ _ c.in_err-tables.ensures _ _ c.from_residual.ensures.1

pub returns : goal.returns
returns c = text_limited _ _ _ _ c.in_ok-tables.ensures _ _ _ c.count_till_limit_core.ensures
