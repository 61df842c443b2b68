-- `backtrack_encoder::backtrack` meets its contract: each turn is a step of `Running`. Assumes nothing.
use Rattle.backtrack_encoder.proofs.Running.{Running}
use Rattle.tables.specs.Tables.{given}
use Rattle.backtrack_encoder.proofs.backtrack.Given as goal

abbrev pub invariant-loop-done : goal.invariant-loop-done
invariant-loop-done l = Running (given l.tables) l.tables.rows.n l.text l.initial.work l._done l.encoder l.work l.alive.words
