-- `marks::mark` meets its contract: one number is without the key's two bits. Assumes nothing.
use native.Mathlib.Omega.{arith}
use native.Mathlib.Nat.{lt_of_le_of_lt}
use Rattle.std.specs.Int.{w32}
use Rattle.std.proofs.lemmas.Nat.{and_le_l}
use Rattle.bitfield.proofs.Words.{without-bit}
use Rattle.marks.proofs.Laws.{marks}
use Rattle.marks.proofs.mark.Goals as goal

pub returns : goal.returns
returns c = marks _ _ _ _ _ c.requires.1 (without-bit w32 _ _ (omega arith) (omega arith)) (without-bit w32 _ _ (omega arith) (lt_of_le_of_lt (and_le_l _ _) (omega arith)))
