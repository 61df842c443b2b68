-- `BitField::new` meets its contract: every bit of a word of ones is set (proofs/Sets.antt). Assumes nothing.
use Rattle.bitfield.proofs.Sets.{all_ones}
use Rattle.bitfield.proofs.BitField.new.Goals as goal

pub returns : goal.returns
returns c = all_ones
