-- The loop keeps which row is the next to try, and that it decides the parts. Each is shorter than the one before. Assumes nothing.
use lib.ListN.{length}
use Rattle.placed_rows.specs.Reading.{rows_of}
use Rattle.parts.proofs.Trying.{Trying}
use Rattle.parts.proofs.find_parts.Given as goal

abbrev pub invariant-loop-left : goal.invariant-loop-left
invariant-loop-left l = Trying l.tables.rows.file.now l.tables.rows.places.now l.tables.rows.n l.w l.left

abbrev pub decreases-loop-left : goal.decreases-loop-left
decreases-loop-left l = length (rows_of l.tables.rows l.left)
