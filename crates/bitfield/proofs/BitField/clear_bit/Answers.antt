-- `BitField::clear_bit` meets its contract: one word is now without the bit, or no word has changed (proofs/Sets.antt, proofs/Without.antt). Assumes nothing.
use mathlib.Core.Path.{refl}
use native.Mathlib.Omega.{arith}
use Rattle.std.specs.Int.{w64}
use Rattle.bitfield.proofs.Without.{without-clear}
use Rattle.bitfield.proofs.Words.{without-bit}
use Rattle.bitfield.proofs.Sets.{cleared-set, set_beyond}
use Rattle.bitfield.proofs.BitField.clear_bit.Goals as goal

pub returns-then-bit-lt4097 : goal.returns-then-bit-lt4097
returns-then-bit-lt4097 c = record { bits = cleared-set _ _ _ (without-bit w64 _ _ (omega arith) (omega arith)); beyond = λ h. absurd (omega arith) }

pub returns-else-bit-lt4097 : goal.returns-else-bit-lt4097
returns-else-bit-lt4097 c = record { bits = without-clear _ _ (set_beyond _ _ (omega arith)); beyond = λ h. refl }
