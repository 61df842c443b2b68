-- The loop's invariant is `Placing`: the entries of the places from i on are there. Assumes nothing.
use Rattle.shortest_encoder.proofs.Placing.{placing_ends, placing_more}
use Rattle.shortest_encoder.proofs.fill_entries.Goals as goal

pub loop-i-preserved : goal.loop-i-preserved
loop-i-preserved c = placing_more _ _ _ _ _ _ _ _ c.loop-i.invariant c.loop-i-test.true _ c.best_at-entry.ensures

pub returns : goal.returns
returns c = placing_ends _ _ _ _ _ _ _ _ c.loop-i.invariant c.loop-i-test.false
