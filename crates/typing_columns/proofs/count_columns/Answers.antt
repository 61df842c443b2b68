-- Each cause decides one answer; else it is the last record's count. Assumes nothing.
use mathlib.Core.Path.{refl}
use Rattle.std.proofs.lemmas.Result.{err_from_is_err_and}
use Rattle.typing_columns.proofs.Answers.{checked_ok, checked_err, count_out, count_none, count-last}
use Rattle.typing_columns.proofs.count_columns.Goals as goal

pub returns-in_err-ok_or : goal.returns-in_err-ok_or
returns-in_err-ok_or c =
    let p = err_from_is_err_and c.from_residual.result c.from_residual.ensures.1 in
    let f = checked_err _ _ _ _ _ _ _ _ _ c.columns_in_form.ensures c.in_err-ok_or.ensures.value in
    rw (p.1, p.2, f.0) (count_out _ _ _ _ _ _ _ f.1)

pub returns-then-len-eq0 : goal.returns-then-len-eq0
returns-then-len-eq0 c =
    let f = checked_ok _ _ _ _ _ _ _ _ _ c.columns_in_form.ensures c.in_ok-ok_or.ensures.value in
    count_none _ _ _ _ _ _ _ _ f c.if-len-eq0.true

pub returns : goal.returns
returns c =
    let f = checked_ok _ _ _ _ _ _ _ _ _ c.columns_in_form.ensures c.in_ok-ok_or.ensures.value in
    count-last _ _ _ _ _ _ _ _ f _ c.if-len-eq0.false refl
