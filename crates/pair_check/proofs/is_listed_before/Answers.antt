-- `pair_check::is_listed_before` meets its contract, by the cases of `Listing`. Assumes nothing.
use native.Mathlib.Omega.{arith}
use Rattle.pair_check.proofs.Listing.{not-before, other-left, not-longer, same_left}
use Rattle.pair_check.proofs.is_listed_before.Goals as goal

pub returns-then-bound-c : goal.returns-then-bound-c
returns-then-bound-c c = not-before _ _ _ _ _ _ (omega arith)

pub returns-then-tables-i : goal.returns-then-tables-i
returns-then-tables-i c = other-left _ _ _ _ _ _ (omega arith) c.if-tables-i.true

pub returns-then-c-left : goal.returns-then-c-left
returns-then-c-left c = not-longer _ _ _ _ _ _ (omega arith) (omega arith) (omega arith)

pub returns : goal.returns
returns c = same_left _ _ _ _ _ _ (omega arith) (omega arith) (omega arith)
