-- The answers are the cases of the refusal. Assumes nothing.
use mathlib.Core.Path.{sym, ◌∙◌}
use Rattle.std.proofs.lemmas.Result.{err_from_is_err_and}
use Rattle.tables.proofs.Forming.{formed_ok, formed_err}
use Rattle.interval_count.proofs.Answers.{refused-long, refused-short, refused_out, refused_interval, refused-order, refused_end, core_ready, counted}
use Rattle.interval_count.proofs.IntervalTables.count.Goals as goal

pub returns-then-text-gt4096 : goal.returns-then-text-gt4096
returns-then-text-gt4096 c = refused-long _ _ _ _ _ _ _ _ _ c.if-text-gt4096.true

pub returns-then-work-text : goal.returns-then-work-text
returns-then-work-text c = refused-short _ _ _ _ _ _ _ _ _ c.if-text-gt4096.false c.if-work-text.true

pub returns-in_err-tables : goal.returns-in_err-tables
returns-in_err-tables c =
    let p = err_from_is_err_and c.from_residual.result c.from_residual.ensures.1 in
    let f = formed_err _ _ _ c.in_form.ensures c.in_err-tables.ensures.value in
    rw (p.1, p.2, f.0) (refused_out _ _ _ _ _ _ _ _ _ c.if-text-gt4096.false c.if-work-text.false f.1)

pub returns-then-not-in_form : goal.returns-then-not-in_form
returns-then-not-in_form c =
    let f = formed_ok _ _ _ c.in_form.ensures c.in_ok-tables.ensures.value in
    refused_interval _ _ _ _ _ _ _ _ _ c.if-text-gt4096.false c.if-work-text.false _ f (sym c.in_form-2.ensures ∙ c.if-not-in_form.true)

pub returns-then-end-start : goal.returns-then-end-start
returns-then-end-start c =
    let f = formed_ok _ _ _ c.in_form.ensures c.in_ok-tables.ensures.value in
    refused-order _ _ _ _ _ _ _ _ _ c.if-text-gt4096.false c.if-work-text.false _ f (sym c.in_form-2.ensures ∙ c.if-not-in_form.false) c.if-end-start.true

pub returns-then-text-end : goal.returns-then-text-end
returns-then-text-end c =
    let f = formed_ok _ _ _ c.in_form.ensures c.in_ok-tables.ensures.value in
    refused_end _ _ _ _ _ _ _ _ _ c.if-text-gt4096.false c.if-work-text.false _ f (sym c.in_form-2.ensures ∙ c.if-not-in_form.false) c.if-end-start.false c.if-text-end.true

pub count_core-requires : goal.count_core-requires
count_core-requires c =
    let f = formed_ok _ _ _ c.in_form.ensures c.in_ok-tables.ensures.value in
    core_ready _ _ _ _ _ _ _ _ _ c.if-text-gt4096.false c.if-work-text.false _ f (sym c.in_form-2.ensures ∙ c.if-not-in_form.false) c.if-end-start.false c.if-text-end.false

pub returns : goal.returns
returns c =
    let f = formed_ok _ _ _ c.in_form.ensures c.in_ok-tables.ensures.value in
    counted _ _ _ _ _ _ _ _ _ c.if-text-gt4096.false c.if-work-text.false _ f (sym c.in_form-2.ensures ∙ c.if-not-in_form.false) c.if-end-start.false c.if-text-end.false
    _ _ c.count_core.ensures
