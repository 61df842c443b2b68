-- The loop keeps that the row reached begins the bytes of `from` and the text; where no child goes on, it is the longest. Assumes nothing.
use Prim.Native.Nat.{◌+◌, ◌-◌, ◌≤◌, ◌<◌}
use lib.ListN.{length, drop}
use Rattle.placed_rows.specs.Reading.{rows_of}
use Rattle.forest.proofs.Descending.{Descending}
use Rattle.forest.proofs.descend.Given as goal

abbrev pub invariant-loop-end : goal.invariant-loop-end
invariant-loop-end l = (l.at ≤ l.end) × ((l.end ≤ length l.text) × ((l.best < l.rows.n) × Descending (rows_of l.rows) l.rows.n l.area l.from l.len (drop l.at l.text) l.best (l.len + (l.end - l.at)) (l.end - l.at)))

abbrev pub decreases-loop-end : goal.decreases-loop-end
decreases-loop-end l = length l.text - l.end
