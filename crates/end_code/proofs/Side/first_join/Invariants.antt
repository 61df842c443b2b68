-- The loop's invariant: in the passes below the bound x stands where the code ends, and best is the lowest row above. Assumes nothing.
use Rattle.end_code.specs.Sides.{side_of}
use Rattle.end_code.proofs.Searching.{Searching}
use Rattle.tables.specs.Tables.{pair_given}
use Rattle.end_code.proofs.Side.first_join.Given as goal

abbrev pub invariant-loop-x : goal.invariant-loop-x
invariant-loop-x l = Searching (pair_given l.tables) (side_of l.self) l.tables.rows.n l.code l.typed l.x l.bound l.best

abbrev pub decreases-loop-x : goal.decreases-loop-x
decreases-loop-x l = l.x
