-- `Joins::fill` meets its contract: each turn is one of `Keying`. Assumes nothing.
use Rattle.merge_encoder.proofs.Keying.{keying_more, keying_end}
use Rattle.merge_encoder.proofs.joins.Joins.fill.Goals as goal

pub loop-next-preserved : goal.loop-next-preserved
loop-next-preserved c = keying_more _ _ _ _ _ c.requires _ _ c.loop-next.invariant c.loop-next-test.true _ c.renew.ensures

pub returns : goal.returns
returns c = keying_end _ _ _ _ _ c.requires _ _ c.loop-next.invariant c.loop-next-test.false
