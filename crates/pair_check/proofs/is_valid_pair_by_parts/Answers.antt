-- `pair_check::is_valid_pair_by_parts` meets its contract: each turn is one of `Turns`. Assumes nothing.
use mathlib.Core.Path.{refl}
use mathlib.Core.Logic.{inl, inr}
use Rattle.pair_check.proofs.Turns.{walk-fails, walk_ends, walk-left, walk-right, undone_first, undone_later}
use Rattle.pair_check.proofs.is_valid_pair_by_parts.Goals as goal

pub returns-then-join_before : goal.returns-then-join_before
returns-then-join_before c = let j = c.join_before.ensures in walk-fails _ _ _ _ _ _ _ _ _ c.loop-limit.invariant j c.if-join_before.true

pub returns-then-right_part-right : goal.returns-then-right_part-right
returns-then-right_part-right c = let j = c.join_before.ensures in walk_ends _ _ _ _ _ _ _ _ _ c.loop-limit.invariant j c.if-join_before.false _ _ refl c.if-left_part-left.true refl c.if-right_part-right.true

pub loop-limit-preserved-then-left_part-left : goal.loop-limit-preserved-then-left_part-left
loop-limit-preserved-then-left_part-left c = let j = c.join_before.ensures in (walk-right _ _ _ _ _ _ _ _ _ c.loop-limit.invariant j c.if-join_before.false _ _ refl refl c.if-right_part-right.false (inr c.if-left_part-left.true)).1

pub loop-limit-preserved-then-is_undone_first : goal.loop-limit-preserved-then-is_undone_first
loop-limit-preserved-then-is_undone_first c = let j = c.join_before.ensures in (walk-left _ _ _ _ _ _ _ _ _ c.loop-limit.invariant j c.if-join_before.false _ _ refl c.if-left_part-left.false refl (undone_first _ _ _ _ c.is_undone_first.ensures c.if-is_undone_first.true)).1

pub loop-limit-preserved : goal.loop-limit-preserved
loop-limit-preserved c = let j = c.join_before.ensures in let o = undone_later _ _ _ _ c.is_undone_first.ensures c.if-is_undone_first.false in (walk-right _ _ _ _ _ _ _ _ _ c.loop-limit.invariant j c.if-join_before.false _ _ refl refl o.1 (inl o.0)).1
