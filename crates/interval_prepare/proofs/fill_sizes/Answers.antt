-- The loop's invariant: the prefixes from i on are added to their parents. Assumes nothing.
use mathlib.Core.Path.{◌≡◌}
use Prim.Native.Nat.{◌+◌, ◌-◌}
use native.Mathlib.Omega.{arith}
use Rattle.interval_prepare.proofs.Sizing.{sizing_start, sizing_ready, sizing_more, sizing_end}
use Rattle.interval_prepare.proofs.fill_sizes.Goals as goal

pub loop-i-init : goal.loop-i-init
loop-i-init c =
    let e : c.args.m + 1 - 1 ≡ c.args.m = omega arith in
    rw e (sizing_start _ _ _ _ _ _ _ c.requires c.fill_ones.ensures)

pub add_size-requires : goal.add_size-requires
add_size-requires c = sizing_ready _ _ _ _ _ _ _ _ c.loop-i.invariant (omega arith) _ c.parent_of-parent.ensures

pub loop-i-preserved : goal.loop-i-preserved
loop-i-preserved c = sizing_more _ _ _ _ _ _ _ _ c.loop-i.invariant (omega arith) _ c.parent_of-parent.ensures _ c.add_size.ensures

pub returns : goal.returns
returns c = sizing_end _ _ _ _ _ _ _ _ c.loop-i.invariant _ c.fill_ones.ensures (omega arith)
