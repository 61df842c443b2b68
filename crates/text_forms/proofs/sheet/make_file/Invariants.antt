-- The lines so far say the phrases of the file so far; each turn adds one.
use Rattle.std.proofs.Common.{◌-◌, ◌≤◌, length}
use Rattle.text_forms.proofs.Sheets.{SoFar}
use Rattle.text_forms.proofs.sheet.make_file.Given as goal

abbrev pub invariant-loop-at : goal.invariant-loop-at
invariant-loop-at l = (l.rows ≤ l.at) × SoFar l.sheet l.file l.at l.size l.rows

abbrev pub decreases-loop-at : goal.decreases-loop-at
decreases-loop-at l = length l.sheet - l.at
