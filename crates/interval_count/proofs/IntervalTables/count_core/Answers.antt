-- The count of the interval is that of its piece. Assumes nothing.
use Rattle.interval_count.proofs.Answers.{piece_ready, piece-counted}
use Rattle.interval_count.proofs.IntervalTables.count_core.Goals as goal

pub count_piece-requires : goal.count_piece-requires
count_piece-requires c = piece_ready _ _ _ _ _ _ _ _ _ _ c.requires

pub returns : goal.returns
returns c = piece-counted _ _ _ _ _ _ _ _ _ _ c.requires _ _ c.count_piece.ensures
