-- `typing::token_count` meets its contract. Assumes nothing.
use Rattle.typing.proofs.Calling.{ready, token_counted}
use Rattle.typing.proofs.token_count.Goals as goal

pub copy_out-requires : goal.copy_out-requires
copy_out-requires c = ready _ _ _ c.usable.ensures

pub returns : goal.returns
returns c = token_counted _ _ _ _ _ _ _ _ _ c.usable.ensures c.copy_out.ensures c.token_count.ensures
