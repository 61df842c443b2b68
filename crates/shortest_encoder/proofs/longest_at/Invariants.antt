-- The loop's invariant is `Rising`: a row that begins the text is met. Each row is longer than the one before. Assumes nothing.
use Prim.Native.Nat.{◌-◌}
use lib.ListN.{length, drop}
use Rattle.shortest_encoder.proofs.Rising.{Rising}
use Rattle.shortest_encoder.proofs.longest_at.Given as goal

abbrev pub invariant-loop-len : goal.invariant-loop-len
invariant-loop-len l = Rising l.tables.rows.file.now l.tables.rows.places.now l.tables.rows.n l.tables.area.now (drop l.at l.text) l.row l.len

abbrev pub decreases-loop-len : goal.decreases-loop-len
decreases-loop-len l = length l.text - l.len
