-- Each cause decides one answer, in document 01's order (proofs/Answers.antt). Assumes nothing.
use native.Mathlib.Omega.{arith}
use Rattle.std.proofs.lemmas.Result.{err_from_is_err_and}
use Rattle.typing_columns.proofs.Answers.{checked_ok, checked_err, extend-long, extend_out, extend-slice, extend-most, extend-done, extend-ready}
use Rattle.typing_columns.proofs.extend_columns.Goals as goal

pub returns-then-typed-gt4096 : goal.returns-then-typed-gt4096
returns-then-typed-gt4096 c = extend-long _ _ _ _ _ _ _ _ _ _ _ c.if-typed-gt4096.true

pub returns-in_err-tables : goal.returns-in_err-tables
returns-in_err-tables c =
    let p = err_from_is_err_and c.from_residual.result c.from_residual.ensures.1 in
    let f = checked_err _ _ _ _ _ _ _ _ _ c.columns_in_form.ensures c.in_err-tables.ensures.value in
    rw (p.1, p.2, f.0) (extend_out _ _ _ _ _ _ _ _ _ _ _ c.if-typed-gt4096.false f.1)

pub returns-then-size-longer : goal.returns-then-size-longer
returns-then-size-longer c =
    let f = checked_ok _ _ _ _ _ _ _ _ _ c.columns_in_form.ensures c.in_ok-tables.ensures.value in
    extend-slice _ _ _ _ _ _ _ _ _ _ _ c.if-typed-gt4096.false _ f c.if-size-longer.true

pub returns-then-longer-gt4096 : goal.returns-then-longer-gt4096
returns-then-longer-gt4096 c =
    let f = checked_ok _ _ _ _ _ _ _ _ _ c.columns_in_form.ensures c.in_ok-tables.ensures.value in
    extend-most _ _ _ _ _ _ _ _ _ _ _ c.if-typed-gt4096.false _ f c.if-size-longer.false c.if-longer-gt4096.true

pub extend_core-requires : goal.extend_core-requires
extend_core-requires c =
    let f = checked_ok _ _ _ _ _ _ _ _ _ c.columns_in_form.ensures c.in_ok-tables.ensures.value in
    extend-ready _ _ _ _ _ _ _ _ _ f c.if-longer-gt4096.false (omega arith) (omega arith) (omega arith)

pub returns : goal.returns
returns c =
    let f = checked_ok _ _ _ _ _ _ _ _ _ c.columns_in_form.ensures c.in_ok-tables.ensures.value in
    extend-done _ _ _ _ _ _ _ _ _ _ _ c.if-typed-gt4096.false _ f c.if-size-longer.false c.if-longer-gt4096.false c.extend_core.ensures
