-- The loop's invariant is `Reading`: the codes up to the place are written, and the shortest codes from there on are left. Assumes nothing.
use Prim.Native.Nat.{◌-◌}
use lib.ListN.{length}
use Rattle.shortest_encoder.proofs.Reading.{Reading}
use Rattle.shortest_encoder.proofs.read_codes.Given as goal

abbrev pub invariant-loop-place : goal.invariant-loop-place
invariant-loop-place l = Reading l.text l.work l.initial.out l.out l.place l.count

abbrev pub decreases-loop-place : goal.decreases-loop-place
decreases-loop-place l = length l.text - l.place
