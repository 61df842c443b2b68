-- Each turn is one of proofs/Limiting.antt. Assumes nothing.
use Rattle.limited_count.proofs.Limiting.{Limiting}
use Rattle.tables.specs.Tables.{given}
use Rattle.limited_count.proofs.count_till_limit_core.Given as goal

abbrev pub invariant-loop-done : goal.invariant-loop-done
invariant-loop-done l = Limiting (given l.tables) l.tables.rows.n l.text l.initial.work l.limit l._done l.asked l.encoder l.work l.alive.words
