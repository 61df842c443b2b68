-- `parts_in_form` meets its contract by the cases of a row's parts in form. Assumes nothing.
use borrow.Author.Rules.{rules}
use Rattle.tables.proofs.Entries.{right-high, lower-parts, left_other, right-other, row_twice}
use Rattle.tables.proofs.parts_in_form.Goals as goal

pub returns-then-i-right : goal.returns-then-i-right
returns-then-i-right c = right-high _ _ _ _ c.if-left-i.true c.if-i-right.true

pub returns-then-left-i : goal.returns-then-left-i
returns-then-left-i c =
    lower-parts _ _ _ _ c.if-left-i.true c.if-i-right.false

pub returns-then-left-i-2 : goal.returns-then-left-i-2
returns-then-left-i-2 c = left_other _ _ _ _ c.if-left-i.false (search rules)

pub returns-then-right-i : goal.returns-then-right-i
returns-then-right-i c = right-other _ _ _ _ c.if-left-i.false c.if-left-i-2.false (search rules)

pub returns : goal.returns
returns c = row_twice _ _ _ _ c.if-left-i.false c.if-left-i-2.false c.if-right-i.false
