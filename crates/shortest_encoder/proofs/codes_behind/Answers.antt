-- The count that is read is that of the place behind the row (Counts). Assumes nothing.
use native.Mathlib.Omega.{arith}
use Rattle.shortest_encoder.proofs.Counts.{count-inside, count-beyond}
use Rattle.shortest_encoder.proofs.codes_behind.Goals as goal

pub returns-then-end-text : goal.returns-then-end-text
returns-then-end-text c = count-inside _ _ _ (omega arith)

pub returns-else-end-text : goal.returns-else-end-text
returns-else-end-text c = count-beyond _ _ _ (omega arith)
