-- `Joins::join_queue` meets its contract: each turn is one of `Emptying`. Assumes nothing.
use Rattle.merge_encoder.proofs.Emptying.{emptying_more, emptying_end}
use Rattle.merge_encoder.proofs.joins.Joins.join_queue.Goals as goal

pub loop-entry-preserved : goal.loop-entry-preserved
loop-entry-preserved c =
    let ran = rw c.loop-entry.auto.codes at c.join_run.ensures in
    emptying_more _ _ _ _ _ _ c.requires.1 _ _ _ c.loop-entry.invariant c.loop-entry-test.true _ _ ran

pub returns : goal.returns
returns c = emptying_end _ _ _ _ _ _ c.requires.1 _ _ _ c.loop-entry.invariant c.loop-entry-test.false
