-- The loop keeps that all rows shorter than len are in; at the end, all rows. Assumes nothing.
use mathlib.Core.Path.{◌≡◌}
use native.Mathlib.Omega.{arith}
use Rattle.search_fill.proofs.Adding.{rows_join, area_filled}
use Rattle.search_fill.proofs.fill_area.Goals as goal

pub loop-len-preserved : goal.loop-len-preserved
loop-len-preserved c =
    let l = c.loop-len in
    rows_join _ _ _ _ _ _ _ _ _ l.invariant c.add_length.ensures

pub returns : goal.returns
returns c =
    let l = c.loop-len in
    let e : l.len ≡ 65 = omega arith in
    area_filled _ _ _ c.args.rows.now.placed.few c.args.area.now l.area c.requires (rw (c.empty.ensures, e) at l.invariant)
