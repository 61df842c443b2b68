-- The loop's invariant: the records below i are in form. Assumes nothing.
use Rattle.typing_columns.proofs.Recording.{records-start, records_fail, records-more}
use Rattle.typing_columns.proofs.records_in_form.Goals as goal

pub loop-i-init : goal.loop-i-init
loop-i-init c = records-start _ _ _ _ _ _ _ _ c.requires

pub returns-then-not-record_in_form : goal.returns-then-not-record_in_form
returns-then-not-record_in_form c = records_fail _ _ _ _ _ _ _ _ _ c.loop-i.invariant c.loop-i-test.true (rw c.if-not-record_in_form.true at c.record_in_form.ensures)

pub loop-i-preserved : goal.loop-i-preserved
loop-i-preserved c = records-more _ _ _ _ _ _ _ _ _ c.loop-i.invariant c.loop-i-test.true (rw c.if-not-record_in_form.false at c.record_in_form.ensures)
