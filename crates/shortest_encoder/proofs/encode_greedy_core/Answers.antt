-- The loop's invariant is `Taking`: the codes up to the place are written, and the greedy codes from there on are left. Assumes nothing.
use Rattle.shortest_encoder.proofs.Longest.{taking_ends, taking_stops, taking_more}
use Rattle.shortest_encoder.proofs.encode_greedy_core.Goals as goal

pub returns-then-next : goal.returns-then-next
returns-then-next c = taking_stops _ _ _ _ _ _ _ _ _ c.loop-at.invariant _ _ c.loop-at-test.true c.longest_at-next.ensures c.if-next.true

pub loop-at-preserved : goal.loop-at-preserved
loop-at-preserved c = taking_more _ _ _ _ _ _ _ _ _ c.loop-at.invariant _ _ c.loop-at-test.true c.longest_at-next.ensures c.if-next.false

pub returns : goal.returns
returns c = taking_ends _ _ _ _ _ _ _ _ _ c.loop-at.invariant c.loop-at-test.false
