-- `token_len` meets its contract: rows of tables in form are those of the file. Assumes nothing.
use Rattle.std.proofs.lemmas.Result.{err_from_is_err_and}
use Rattle.tables.proofs.Forming.{formed_ok, formed_err}
use Rattle.tables.proofs.Calls.{len_out, len-unknown, len-counted}
use Rattle.tables.proofs.token_len.Goals as goal

pub returns-in_err-tables : goal.returns-in_err-tables
returns-in_err-tables c =
    let p = err_from_is_err_and c.from_residual.result c.from_residual.ensures.1 in
    let f = formed_err _ _ _ c.in_form.ensures c.in_err-tables.ensures.value in
    rw (p.1, p.2, f.0) (len_out _ f.1 _)

pub returns-then-tables-row : goal.returns-then-tables-row
returns-then-tables-row c =
    let f = formed_ok _ _ _ c.in_form.ensures c.in_ok-tables.ensures.value in
    len-unknown _ _ f.formed _ c.if-tables-row.true

pub returns : goal.returns
returns c =
    let f = formed_ok _ _ _ c.in_form.ensures c.in_ok-tables.ensures.value in
    len-counted _ _ f _ c.if-tables-row.false _ c.length_of.ensures.is
