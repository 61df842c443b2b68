-- Each turn is a step of `Counting`. Assumes nothing.
use Rattle.interval_count.proofs.Counting.{Counting}
use Rattle.tables.specs.Tables.{given}
use Rattle.interval_count.proofs.IntervalTables.count_piece.Given as goal

abbrev pub invariant-loop-done : goal.invariant-loop-done
invariant-loop-done l =
    Counting (given l.tables) l.tables.rows.n l.piece l.self.last_codes.now l.self.numbers.now l.self.ends.now l.self.depths.now l.from l.to l.initial.work
    l._done l.encoder l.work l.alive.words
