-- The loop's invariant is `Taking`: the codes up to the place are written, and the greedy codes from there on are left. Assumes nothing.
use Prim.Native.Nat.{◌-◌}
use lib.ListN.{length}
use Rattle.shortest_encoder.proofs.Longest.{Taking}
use Rattle.shortest_encoder.proofs.encode_greedy_core.Given as goal

abbrev pub invariant-loop-at : goal.invariant-loop-at
invariant-loop-at l = Taking l.tables.rows.file.now l.tables.rows.places.now l.tables.area.now l.tables.rows.n l.text l.initial.out l.out l.at l.count

abbrev pub decreases-loop-at : goal.decreases-loop-at
decreases-loop-at l = length l.text - l.at
