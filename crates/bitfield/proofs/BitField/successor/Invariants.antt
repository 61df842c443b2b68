-- `BitField::successor` meets its contract. Invariant: the bits from `bit` on below the current place are clear. Assumes nothing.
use Prim.Native.Nat.{◌≤◌, ◌<◌, ◌+◌, ◌*◌}
use Rattle.bitfield.specs.Bits.{is_set}
use Rattle.bitfield.proofs.Passing.{Clear}
use Rattle.bitfield.proofs.BitField.successor.Given as goal

abbrev pub invariant-loop-word_idx : goal.invariant-loop-word_idx
invariant-loop-word_idx l = record {
  low : l.from < 64;
  passed : l.bit ≤ l.word_idx * 64 + l.from;
  clear : Clear (is_set l.self.words) l.bit (l.word_idx * 64 + l.from);
}
