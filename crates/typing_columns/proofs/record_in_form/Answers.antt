-- Each test of a record in form decides one answer (proofs/Recording.antt). Assumes nothing.
use mathlib.Core.Path.{sym, ◌∙◌}
use Rattle.typing_columns.proofs.Recording.{record_unknown, record_other, record_apart, record_counted}
use Rattle.typing_columns.proofs.record_in_form.Goals as goal

pub returns-then-tables-code : goal.returns-then-tables-code
returns-then-tables-code c = record_unknown _ _ _ _ _ _ _ _ c.requires c.if-tables-code.true

pub returns-then-not-row_ends : goal.returns-then-not-row_ends
returns-then-not-row_ends c = record_other _ _ _ _ _ _ _ _ c.requires c.if-tables-code.false (sym c.row_ends.ensures ∙ c.if-not-row_ends.true)

pub returns-then-not-follows : goal.returns-then-not-follows
returns-then-not-follows c =
    record_apart _ _ _ _ _ _ _ _ c.requires c.if-tables-code.false (sym c.row_ends.ensures ∙ c.if-not-row_ends.false) (rw c.if-not-follows.true at c.follows.ensures)

pub returns : goal.returns
returns c =
    record_counted _ _ _ _ _ _ _ _ c.requires c.if-tables-code.false (sym c.row_ends.ensures ∙ c.if-not-row_ends.false) (rw c.if-not-follows.false at c.follows.ensures)
    _ c.count_with.ensures
