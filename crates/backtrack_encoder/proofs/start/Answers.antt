-- `backtrack_encoder::start` meets its contract, by `Moves`. Assumes nothing.
use Rattle.backtrack_encoder.proofs.Moves.{move_start}
use Rattle.backtrack_encoder.proofs.start.Goals as goal

pub returns : goal.returns
returns c = move_start _ _ _ _ _ _ _ c.requires.0 c.requires.1.1 (λ i. (c.type_inv.text i).fits) c.next_match-found.ensures
