-- The loop's invariant: the code has come to stand beside the first `at` typed bytes (proofs/Reaching.antt). Assumes nothing.
use Rattle.end_code.specs.Sides.{side_of}
use Rattle.end_code.proofs.Reaching.{Reaching}
use Rattle.tables.specs.Tables.{pair_given}
use Rattle.end_code.proofs.end_code_at.Given as goal

abbrev pub invariant-loop-at : goal.invariant-loop-at
invariant-loop-at l = Reaching (pair_given l.tables) (side_of l.side) l.tables.rows.n l.bytes l.i l.codes l.code l.at

abbrev pub decreases-loop-at : goal.decreases-loop-at
decreases-loop-at l = l.at
