-- The loop's invariant: the codes counted and those of the bytes before pos are all. Assumes nothing.
use Rattle.table_encoder.proofs.Walking.{Counting}
use Rattle.table_encoder.proofs.count_back.Given as goal

abbrev pub invariant-loop-pos : goal.invariant-loop-pos
invariant-loop-pos l = Counting l.rows.file.now l.rows.places.now l.rows.n l.last_codes l.count l.pos

abbrev pub decreases-loop-pos : goal.decreases-loop-pos
decreases-loop-pos l = l.pos
