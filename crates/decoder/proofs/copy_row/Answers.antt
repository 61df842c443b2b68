-- `decoder::copy_row` meets its contract, by `Copying`. Assumes nothing.
use Rattle.decoder.proofs.Copying.{copied_bytes, copied_block}
use Rattle.decoder.proofs.copy_row.Goals as goal

pub returns-then-count-gt16 : goal.returns-then-count-gt16
returns-then-count-gt16 c = copied_bytes _ _ _ c.requires _ c.copy_bytes.ensures

pub returns : goal.returns
returns c =
    copied_block _ _ _ _ c.if-count-gt16.false (record { given = c.if-source-lt16.false; room = c.if-out-lt16.false }) (rw c.copy_from_slice.ensures.after)
