-- The loop's invariant is `Reading`: the codes up to the place are written, and the shortest codes from there on are left. Assumes nothing.
use Rattle.shortest_encoder.proofs.Reading.{reading_ends, reading_more}
use Rattle.shortest_encoder.proofs.read_codes.Goals as goal

pub loop-place-preserved : goal.loop-place-preserved
loop-place-preserved c = reading_more _ _ _ _ _ _ c.loop-place.invariant c.loop-place-test.true

pub returns : goal.returns
returns c = reading_ends _ _ _ _ _ _ c.loop-place.invariant c.loop-place-test.false
