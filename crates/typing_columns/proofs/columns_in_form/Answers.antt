-- Each check decides one answer (proofs/Answers.antt). Assumes nothing.
use native.Mathlib.Omega.{arith}
use Rattle.built_tables.proofs.Rows.{octets}
use Rattle.typing_columns.proofs.Answers.{checked_out, checked_broken, checked-passed, checked_records_ready}
use Rattle.typing_columns.proofs.columns_in_form.Goals as goal

pub returns-in_err-tables : goal.returns-in_err-tables
returns-in_err-tables c = rw c.from_residual.ensures (checked_out _ _ _ _ _ _ _ c.in_err-tables.ensures)

pub records_in_form-requires : goal.records_in_form-requires
records_in_form-requires c = checked_records_ready _ _ _ _ _ _ _ c.in_ok-tables.ensures c.fill_reading.ensures (omega arith) (omega arith)

pub returns-then-not-records_in_form : goal.returns-then-not-records_in_form
returns-then-not-records_in_form c =
    checked_broken _ _ _ _ _ _ _ _ c.in_ok-tables.ensures c.if-size-len.false c.if-len-gt4096.false (rw c.if-not-records_in_form.true at c.records_in_form.ensures)

pub returns : goal.returns
returns c =
    checked-passed _ _ _ _ _ _ _ _ c.in_ok-tables.ensures c.if-size-len.false c.if-len-gt4096.false (rw c.if-not-records_in_form.false at c.records_in_form.ensures)
    (octets c.args.bytes.now c.fits-bytes) (omega arith)
