-- `places_match` meets its contract: before each row the places passed match the file and the lengths of these rows are written. Assumes nothing.
use Rattle.tables.proofs.Matching.{Matching}
use Rattle.tables.proofs.places_match.Given as goal

abbrev pub invariant-loop-row : goal.invariant-loop-row
invariant-loop-row l = Matching l.tables.file.now l.tables.places.now l.n l.sizes l.at l.row
