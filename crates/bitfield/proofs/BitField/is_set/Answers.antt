-- `BitField::is_set` meets its contract: `is_set` below and beyond the 4,097 bits (proofs/Sets.antt). Assumes nothing.
use mathlib.Core.Path.{sym}
use borrow.Author.Tests.{le-ltb}
use Rattle.bitfield.specs.Bits.{word_bit}
use Rattle.bitfield.proofs.Sets.{set_below, set_beyond}
use Rattle.bitfield.proofs.BitField.is_set.Goals as goal

pub returns-then-bit-lt4097 : goal.returns-then-bit-lt4097
unfolding word_bit
returns-then-bit-lt4097 c = sym (set_below _ _ c.if-bit-lt4097.true)

pub returns-else-bit-lt4097 : goal.returns-else-bit-lt4097
returns-else-bit-lt4097 c = rw (set_beyond c.args.self.now.words _ c.if-bit-lt4097.false) (le-ltb _ _ c.if-bit-lt4097.false)
