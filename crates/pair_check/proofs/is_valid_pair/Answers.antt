-- Two rows whose seam is not marked pass; else the pair check is asked. Assumes nothing.
use borrow.Author.Tests.{not-true}
use Rattle.pair_check.proofs.Seams.{pass-unmarked}
use Rattle.pair_check.proofs.is_valid_pair.Goals as goal

pub returns-then-not-may_meet : goal.returns-then-not-may_meet
returns-then-not-may_meet c = pass-unmarked _ _ _ _ _ c.requires _ c.may_meet.ensures (not-true _ c.if-not-may_meet.true-raw)
