-- The record is put where it has room. Assumes nothing.
use Rattle.std.proofs.Common.{arith}
use Rattle.text_forms.proofs.Sheets.{record_put}
use Rattle.text_forms.proofs.sheet.add_phrase.Goals as goal

pub returns : goal.returns
returns c = record_put _ _ _ _ _ (omega arith) c.put_record.ensures
