-- Two parts put one after the other. Assumes nothing.
use Rattle.words.proofs.Stores.{put_then}
use Rattle.text_forms.proofs.sheet.put_record.Goals as goal

pub returns : goal.returns
returns c = put_then _ _ _ _ _ _ _ _ c.put_all-end.ensures c.put_all.ensures
