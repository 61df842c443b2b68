-- A turn puts one byte more. Assumes nothing.
use Rattle.words.proofs.Stores.{put_next}
use Rattle.words.proofs.parts.put_all.Goals as goal

pub loop-byte-preserved : goal.loop-byte-preserved
loop-byte-preserved c =
    put_next _ _ _ _ _ _ _ _ c.loop-byte-test.true c.loop-byte.invariant c.put-end.ensures
