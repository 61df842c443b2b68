-- What is left of the row falls.
use Rattle.std.proofs.Common.{length}
use Rattle.text_forms.proofs.characters.write_shown.Given as goal

abbrev pub decreases-loop-byte : goal.decreases-loop-byte
decreases-loop-byte g l = length l.rest
