-- Each turn passes one record: the laws of one pass. Assumes nothing.
use mathlib.Core.Path.{◌≡◌}
use Rattle.phrase_file.proofs.Scanning.{Scanning}
use Rattle.phrase_file.proofs.scan.Given as goal

abbrev pub invariant-loop-place : goal.invariant-loop-place
invariant-loop-place l = record { same : l.records.file.now ≡ l.file; scanning : Scanning l.file l.seen l.records.at l.n }
