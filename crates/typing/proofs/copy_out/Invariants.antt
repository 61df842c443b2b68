-- `typing::copy_out` meets its contract. The loop's invariant: the fields of the first i records stand in the columns. Assumes nothing.
use Rattle.typing.specs.Steps.{Copied}
use Rattle.typing.proofs.copy_out.Given as goal

abbrev pub invariant-loop-i : goal.invariant-loop-i
invariant-loop-i l = Copied l.states l.i l.columns.bytes l.columns.codes l.columns.counts
