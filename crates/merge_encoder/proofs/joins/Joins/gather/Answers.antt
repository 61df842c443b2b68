-- `Joins::gather` meets its contract: each turn is one of `Gathering`. Assumes nothing.
use mathlib.Core.Path.{sym, ◌∙◌}
use native.Mathlib.Omega.{arith}
use Rattle.merge_encoder.proofs.Gathering.{gather_few, gather_skip, gather_keep}
use Rattle.merge_encoder.proofs.joins.Joins.gather.Goals as goal
use Rattle.merge_encoder.proofs.joins.Joins.gather.Goals.{then-is_set, else-is_set}

pub bounds-out-count : goal.bounds-out-count
bounds-out-count c = omega (arith, gather_few _ _ _ _ _ _ _ c.loop-at.invariant)

pub loop-at-preserved : goal.loop-at-preserved
loop-at-preserved c =
    elim c.if-is_set.branch [
      | then-is_set w ↦ rw (w.out-is, w.count-is) (gather_keep _ _ _ _ _ _ _ c.loop-at.invariant c.requires c.loop-at-test.true (sym c.is_set.ensures ∙ w.if-is_set.true))
      | else-is_set w ↦ rw (w.out-is, w.count-is) (gather_skip _ _ _ _ _ _ _ c.loop-at.invariant c.loop-at-test.true (sym c.is_set.ensures ∙ w.if-is_set.false))
    ]
