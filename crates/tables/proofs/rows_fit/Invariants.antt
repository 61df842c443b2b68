-- `rows_fit` meets its contract: prefix and parts of the rows passed are in form. Assumes nothing.
use mathlib.Core.Path.{◌≡◌}
use mathlib.Core.Bool.{true}
use Rattle.tables.specs.InForm.{all_below, row_in_form}
use Rattle.tables.specs.Steps.{sized}
use Rattle.tables.proofs.rows_fit.Given as goal

abbrev pub invariant-loop-i : goal.invariant-loop-i
invariant-loop-i l = all_below l.i (row_in_form l.n (sized l.sizes) l.tables.lefts.now l.tables.rights.now l.tables.prefixes.now) ≡ true
