-- `backtrack_encoder::first_fit` meets its contract: each turn is one of `Trying`. The measure is the length of the row, and a prefix is shorter. Assumes nothing.
use mathlib.Core.List.{[]}
use lib.ListN.{length, get_or}
use Rattle.phrase_file.specs.Form.{rows}
use Rattle.backtrack_encoder.proofs.Trying.{Trying}
use Rattle.tables.specs.Tables.{given}
use Rattle.backtrack_encoder.proofs.first_fit.Given as goal

abbrev pub invariant-loop-token : goal.invariant-loop-token
invariant-loop-token l = Trying (given l.tables) l.tables.rows.n l.text l.encoder l.work l.alive.words l.token

abbrev pub decreases-loop-token : goal.decreases-loop-token
decreases-loop-token l = length (get_or (rows l.tables.rows.file.now) l.token [])
