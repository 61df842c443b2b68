-- The bytes so far are put.
use Rattle.std.proofs.Common.{take}
use Rattle.words.specs.Parts.{Put}
use Rattle.words.proofs.parts.put_all.Given as goal

abbrev pub invariant-loop-byte : goal.invariant-loop-byte
invariant-loop-byte l = Put l.fn.out l.at (take l.byte-index l.bytes) l.out l.end
