-- Rests on what the search for equal rows found. Assumes nothing.
use native.Mathlib.Omega.{arith}
use Rattle.dictionary.proofs.Filling.{told-equal, told_hash}
use Rattle.dictionary.proofs.clash_cause.Goals as goal

pub returns-in-Some : goal.returns-in-Some
returns-in-Some c = told-equal _ _ _ _ _ _ _ c.in-Some.ensures.0 c.in-Some.ensures.1

pub returns-in-None : goal.returns-in-None
returns-in-None c = told_hash _ _ _ _ _ _ _ c.in-None.ensures (omega arith)
