-- What is left of the line falls.
use Rattle.std.proofs.Common.{length}
use Rattle.phrases_cases.proofs.put_words.Given as goal

abbrev pub decreases-loop-left : goal.decreases-loop-left
decreases-loop-left l = length l.left
