-- The answers are the cases of the refusal. Assumes nothing.
use mathlib.Core.Path.{sym, ◌∙◌}
use Rattle.std.proofs.lemmas.Result.{err_from_is_err_and}
use Rattle.tables.proofs.Forming.{formed_ok, formed_err}
use Rattle.interval_prepare.proofs.Answers.{refused-long, refused-short, refused_out, core_ready, prepared}
use Rattle.interval_prepare.proofs.prepare.Goals as goal

pub returns-then-text-gt4096 : goal.returns-then-text-gt4096
returns-then-text-gt4096 c = refused-long _ _ _ _ _ _ _ c.if-text-gt4096.true

pub returns-then-is_too_short : goal.returns-then-is_too_short
returns-then-is_too_short c = refused-short _ _ _ _ _ _ _ c.if-text-gt4096.false (sym c.is_too_short.ensures ∙ c.if-is_too_short.true)

pub returns-in_err-tables : goal.returns-in_err-tables
returns-in_err-tables c =
    let p = err_from_is_err_and c.from_residual.result c.from_residual.ensures.1 in
    let f = formed_err _ _ _ c.in_form.ensures c.in_err-tables.ensures.value in
    rw (p.1, p.2, f.0) (refused_out _ _ _ _ _ _ _ c.if-text-gt4096.false (sym c.is_too_short.ensures ∙ c.if-is_too_short.false) f.1)

pub prepare_core-requires : goal.prepare_core-requires
prepare_core-requires c =
    let f = formed_ok _ _ _ c.in_form.ensures c.in_ok-tables.ensures.value in
    core_ready _ _ _ _ _ _ _ c.if-text-gt4096.false (sym c.is_too_short.ensures ∙ c.if-is_too_short.false) _ f

pub returns : goal.returns
returns c =
    let f = formed_ok _ _ _ c.in_form.ensures c.in_ok-tables.ensures.value in
    prepared _ _ _ _ _ _ _ c.if-text-gt4096.false (sym c.is_too_short.ensures ∙ c.if-is_too_short.false) _ f _ _ _ _ _ c.prepare_core.ensures
