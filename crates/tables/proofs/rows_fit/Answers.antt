-- `rows_fit` meets its contract: prefix and parts of the rows passed are in form. Assumes nothing.
use mathlib.Core.Path.{refl, sym, ◌∙◌}
use native.Mathlib.Omega.{arith}
use Rattle.tables.specs.InForm.{all_below}
use Rattle.tables.proofs.Sweeps.{all_more, all-fails}
use Rattle.tables.proofs.Entries.{prefix_out, parts_out, row_in}
use Rattle.tables.proofs.rows_fit.Goals as goal

pub loop-i-init : goal.loop-i-init
unfolding all_below
loop-i-init c = refl

pub returns-then-not-parts_in_form : goal.returns-then-not-parts_in_form
returns-then-not-parts_in_form c = all-fails _ _ _ (omega arith) (parts_out _ _ _ _ _ _ (sym c.if-not-parts_in_form.true ∙ c.parts_in_form.ensures))

pub returns-then-not-prefix_in_form : goal.returns-then-not-prefix_in_form
returns-then-not-prefix_in_form c = all-fails _ _ _ (omega arith) (prefix_out _ _ _ _ _ _ (sym c.if-not-prefix_in_form.true ∙ c.prefix_in_form.ensures))

pub loop-i-preserved : goal.loop-i-preserved
loop-i-preserved c =
    all_more _ _ c.loop-i.invariant
    (row_in _ _ _ _ _ _ (sym c.if-not-prefix_in_form.false ∙ c.prefix_in_form.ensures) (sym c.if-not-parts_in_form.false ∙ c.parts_in_form.ensures))
