-- The marks, and then the bucket. Assumes nothing.
use mathlib.Core.Path.{sym, ◌∙◌}
use borrow.Author.Tests.{not-true}
use Rattle.forest.proofs.Places.{unmarked-at}
use Rattle.forest.proofs.child.Goals as goal

pub returns-then-not-may_have_child : goal.returns-then-not-may_have_child
returns-then-not-may_have_child c =
    rw c.no_match-then-not-may_have_child.ensures (unmarked-at _ _ _ _ _ c.args.text.now c.args.at _ (sym c.may_have_child.ensures ∙ not-true _ c.if-not-may_have_child.true-raw))
