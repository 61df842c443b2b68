-- `merge_encoder::fill_byte_codes` meets its contract: each turn is one of `Starting`. Assumes nothing.
use Rattle.merge_encoder.proofs.Starting.{known_start, fill_start}
use Rattle.merge_encoder.proofs.fill_byte_codes.Goals as goal

pub loop-at-init : goal.loop-at-init
loop-at-init c = record { filling = fill_start _ _ _ _ c.requires.same_length; known = known_start _ _ }
