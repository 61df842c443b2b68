-- `Joins::renew` meets its contract: with a next live place its answer is that of `Renewing`. Assumes nothing.
use Rattle.merge_encoder.proofs.Renewing.{renewed-more}
use Rattle.merge_encoder.proofs.joins.Joins.renew.Goals as goal

pub returns : goal.returns
returns c =
    let ready = rw c.in-Some.is at c.requires in
    rw c.in-Some.is (renewed-more _ _ _ _ _ _ _ ready.0 ready.1 _ c.join_before-row.ensures _ c.push-2.ensures)
