-- `clashes::is_sought` meets its contract: each answer is a case of the definition. Assumes nothing.
use borrow.Author.Tests.{eq-eqb, ne_eqb}
use Rattle.clashes.specs.Buckets.{is_sought}
use Rattle.clashes.proofs.is_sought.Goals as goal

pub returns-then-scratch-c : goal.returns-then-scratch-c
unfolding is_sought
returns-then-scratch-c g c = rw (eq-eqb _ _ c.if-scratch-c.true, ← c.bytes_of.ensures) c.agrees.ensures

pub returns-else-scratch-c : goal.returns-else-scratch-c
unfolding is_sought
returns-else-scratch-c g c = rw (ne_eqb _ _ c.if-scratch-c.false)
