-- The loop's invariant: the prefixes shorter than i are placed. Assumes nothing.
use mathlib.Core.Path.{refl}
use native.Mathlib.Omega.{arith}
use Rattle.interval_prepare.proofs.Placing.{placing_start, placing_ready, placing_more, placing_end}
use Rattle.interval_prepare.proofs.fill_tree.Goals as goal

pub loop-i-init : goal.loop-i-init
loop-i-init c = placing_start _ _ _ _ _ _ _ _ _ c.requires

pub place_child-requires : goal.place_child-requires
place_child-requires c = placing_ready _ _ _ _ _ _ _ _ _ _ _ _ _ c.loop-i.invariant (omega arith) _ _ c.parent_of-parent.ensures refl

pub loop-i-preserved : goal.loop-i-preserved
loop-i-preserved c = placing_more _ _ _ _ _ _ _ _ _ _ _ _ _ c.loop-i.invariant (omega arith) _ _ c.parent_of-parent.ensures refl _ _ _ c.place_child.ensures

pub returns : goal.returns
returns c = placing_end _ _ _ _ _ _ _ _ _ c.requires _ _ _ _ c.loop-i.invariant (omega arith)
