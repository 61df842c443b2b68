-- The loop's invariant: in the passes below the bound x stands where the code ends, and best is the lowest row above. Assumes nothing.
use Rattle.end_code.proofs.Searching.{search_start, search_next, search_end}
use Rattle.end_code.proofs.Side.first_join.Goals as goal

pub loop-x-init : goal.loop-x-init
loop-x-init c = search_start _ _ _ _ _ c.requires

pub returns-then-part-x : goal.returns-then-part-x
returns-then-part-x c = search_end _ _ _ _ _ _ _ _ _ c.loop-x.invariant c.join_beside-v.ensures _ _ c.or_else-best.ensures c.inner_part-part.ensures c.if-part-x.true

pub loop-x-preserved : goal.loop-x-preserved
loop-x-preserved c = (search_next _ _ _ _ _ _ _ _ _ c.loop-x.invariant c.join_beside-v.ensures _ _ _ c.or_else-best.ensures c.inner_part-part.ensures c.if-part-x.false c.bound_at-bound.ensures).1
