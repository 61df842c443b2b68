-- `typing::store_all` meets its contract. The loop's invariant: the records below i, from the first place on, are stored. Assumes nothing.
use Rattle.typing.specs.Steps.{Stored}
use Rattle.typing.proofs.store_all.Given as goal

abbrev pub invariant-loop-i : goal.invariant-loop-i
invariant-loop-i l = Stored l.initial.states l.from l.i l.columns.bytes l.columns.codes l.columns.counts l.states
