-- `BitField::predecessor` meets its contract. Invariant: the bits above the current place up to `bit` are clear. Assumes nothing.
use Prim.Native.Nat.{suc, ◌≤◌, ◌<◌, ◌+◌, ◌*◌, ◌-◌}
use Rattle.bitfield.specs.Bits.{is_set}
use Rattle.bitfield.proofs.Passing.{Clear}
use Rattle.bitfield.proofs.BitField.predecessor.Given as goal

-- `word_idx` is one above the word that is looked at next
abbrev pub invariant-loop-word_idx : goal.invariant-loop-word_idx
invariant-loop-word_idx l = record {
  low : l.from < 64;
  to : l.word_idx * 64 + l.from ≤ l.bit + 64;
  below : l.word_idx * 64 + l.from < 4161;
  clear : Clear (is_set l.self.words) (l.word_idx * 64 + l.from - 63) (suc l.bit);
}
