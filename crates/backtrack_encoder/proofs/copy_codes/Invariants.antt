-- `backtrack_encoder::copy_codes` meets its contract: each turn is one of `Copying`. Assumes nothing.
use Rattle.backtrack_encoder.proofs.Copying.{Copied}
use Rattle.backtrack_encoder.proofs.copy_codes.Given as goal

abbrev pub invariant-loop-i : goal.invariant-loop-i
invariant-loop-i l = Copied l.codes l.initial.out l.count l.i l.out
