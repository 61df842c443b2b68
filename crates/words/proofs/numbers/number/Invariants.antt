-- The digits left, after the number so far, write what the whole word writes.
use Rattle.std.proofs.Common.{◌≡◌, Some, drop}
use Rattle.words.specs.Numbers.{digits_after, number_of}
use Rattle.words.proofs.numbers.number.Given as goal

abbrev pub invariant-loop-byte : goal.invariant-loop-byte
invariant-loop-byte l = digits_after (Some l.value) (drop l.byte-index l.word) ≡ number_of l.word
