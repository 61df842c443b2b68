-- The loop's invariant is `Trying`: the best entry by the rows up to the one that is reached. Each row is longer than the one before. Assumes nothing.
use Prim.Native.Nat.{◌-◌}
use lib.ListN.{length}
use Rattle.shortest_encoder.proofs.Trying.{Trying}
use Rattle.shortest_encoder.proofs.best_at.Given as goal

abbrev pub invariant-loop-len : goal.invariant-loop-len
invariant-loop-len l = Trying l.tables.rows.file.now l.tables.rows.places.now l.tables.area.now l.tables.rows.n l.text l.work l.i l.best l.row l.len

abbrev pub decreases-loop-len : goal.decreases-loop-len
decreases-loop-len l = length l.text - l.len
