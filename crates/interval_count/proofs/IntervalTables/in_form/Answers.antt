-- The answers are the cases of the definition. Assumes nothing.
use mathlib.Core.Path.{sym, ◌∙◌}
use Rattle.interval_count.proofs.Forms.{codes_out, numbers_out, ends_out, depths_decide}
use Rattle.interval_count.proofs.IntervalTables.in_form.Goals as goal

pub returns-then-not-codes_in_form : goal.returns-then-not-codes_in_form
returns-then-not-codes_in_form c = codes_out _ _ _ _ _ _ (sym c.codes_in_form.ensures ∙ c.if-not-codes_in_form.true)

pub returns-then-not-tree_in_form : goal.returns-then-not-tree_in_form
returns-then-not-tree_in_form c = numbers_out _ _ _ _ _ _ (sym c.codes_in_form.ensures ∙ c.if-not-codes_in_form.false) (sym c.tree_in_form.ensures ∙ c.if-not-tree_in_form.true)

pub returns-then-not-tree_in_form-2 : goal.returns-then-not-tree_in_form-2
returns-then-not-tree_in_form-2 c =
    ends_out _ _ _ _ _ _ (sym c.codes_in_form.ensures ∙ c.if-not-codes_in_form.false) (sym c.tree_in_form.ensures ∙ c.if-not-tree_in_form.false)
    (sym c.tree_in_form-2.ensures ∙ c.if-not-tree_in_form-2.true)

pub returns : goal.returns
returns c =
    depths_decide _ _ _ _ _ _ (sym c.codes_in_form.ensures ∙ c.if-not-codes_in_form.false) (sym c.tree_in_form.ensures ∙ c.if-not-tree_in_form.false)
    (sym c.tree_in_form-2.ensures ∙ c.if-not-tree_in_form-2.false) _ c.tree_in_form-3.ensures
