-- `typing::extend` meets its contract. Assumes nothing.
use Rattle.std.proofs.lemmas.Result.{err_from_is_err_and}
use Rattle.typing.proofs.Calling.{ready, places, refused, extended}
use Rattle.typing.proofs.extend.Goals as goal

pub copy_out-requires : goal.copy_out-requires
copy_out-requires c = ready _ _ _ c.usable.ensures

pub returns-in_err-end : goal.returns-in_err-end
returns-in_err-end c =
    let p = err_from_is_err_and c.from_residual.result c.from_residual.ensures.1 in
    rw (p.1, p.2) (refused _ _ _ _ _ _ _ _ c.usable.ensures c.copy_out.ensures _ _ _ _ _ c.in_err-end.ensures)

pub store_all-requires : goal.store_all-requires
store_all-requires c = places _ _ c.args.states.now _ _ _ _ _ c.usable.ensures c.copy_out.ensures _ _ _ _ _ c.in_ok-end.ensures

pub returns : goal.returns
returns c = extended _ _ _ _ _ _ _ _ c.usable.ensures c.copy_out.ensures _ _ _ _ _ c.in_ok-end.ensures _ c.store_all.ensures
