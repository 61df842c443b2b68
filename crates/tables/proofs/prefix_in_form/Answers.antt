-- `prefix_in_form` meets its contract by the cases of a row's prefix in form. Assumes nothing.
use Rattle.tables.proofs.Entries.{prefix-beyond, prefix-row}
use Rattle.tables.proofs.prefix_in_form.Goals as goal

pub returns-then-n-prefix : goal.returns-then-n-prefix
returns-then-n-prefix c = prefix-beyond _ _ _ _ c.if-n-prefix.true

pub returns : goal.returns
returns c = prefix-row _ _ _ _ c.requires.few c.if-n-prefix.false
