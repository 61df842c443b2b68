-- `Joins::last_live` meets its contract: the answers of the bit set are those of `Places`. Assumes nothing.
use Rattle.merge_encoder.proofs.Places.{last-is}
use Rattle.merge_encoder.proofs.joins.Joins.last_live.Goals as goal

pub returns : goal.returns
returns c = last-is _ _ _ c.in_ok-checked_sub.ensures.0 (cc (c.predecessor.ensures, c.in_ok-checked_sub.ensures.1))
