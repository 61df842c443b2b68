-- The loop's invariant: the codes behind pos are written, and the places before them are as before. Assumes nothing.
use Rattle.table_encoder.proofs.Walking.{Writing}
use Rattle.table_encoder.proofs.write_back.Given as goal

abbrev pub invariant-loop-pos : goal.invariant-loop-pos
invariant-loop-pos l = Writing l.rows.file.now l.rows.places.now l.rows.n l.last_codes l.initial.out l.at l.pos l.out

abbrev pub decreases-loop-pos : goal.decreases-loop-pos
decreases-loop-pos l = l.pos
