-- `num_tokens` meets its contract by the answer of `in_form`. Assumes nothing.
use Rattle.std.proofs.lemmas.Result.{err_from_is_err_and}
use Rattle.tables.proofs.Forming.{formed_ok, formed_err}
use Rattle.tables.proofs.Calls.{tokens_out, tokens_counted}
use Rattle.tables.proofs.num_tokens.Goals as goal

pub returns-in_err-rows : goal.returns-in_err-rows
returns-in_err-rows c =
    let p = err_from_is_err_and c.from_residual.result c.from_residual.ensures.1 in
    let f = formed_err _ _ _ c.in_form.ensures c.in_err-rows.ensures.value in
    rw (p.1, p.2, f.0) (tokens_out _ f.1)

pub returns : goal.returns
returns c = let f = formed_ok _ _ _ c.in_form.ensures c.in_ok-rows.ensures.value in tokens_counted _ _ f.formed
