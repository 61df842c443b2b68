-- Rests on the descent in the rows' part. Assumes nothing.
use Rattle.search_area.proofs.Looking.{next_match}
use Rattle.search_area.proofs.next_match.Goals as goal

pub returns : goal.returns
returns c = next_match _ _ _ _ _ _ _ c.longest.ensures
