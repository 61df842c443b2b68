-- `places_match` meets its contract: before each row the places passed match the file and the lengths of these rows are written. Assumes nothing.
use mathlib.Core.Path.{refl}
use Prim.Native.Nat.{◌+◌, ◌<◌}
use native.Mathlib.Omega.{arith}
use lib.ListN.{get_or, set}
use Rattle.phrase_file.proofs.Checks.{accepted}
use Rattle.tables.proofs.Matching.{Matching, match_start, match_fails, match_more, match_done, next_row}
use Rattle.tables.proofs.places_match.Goals as goal

pub loop-row-init : goal.loop-row-init
loop-row-init c = match_start _ _ _ _ c.requires

pub returns-then-tables-place : goal.returns-then-tables-place
returns-then-tables-place c =
    let below : c.loop-row.row < c.args.n = omega arith in
    let r = next_row _ _ _ _ c.requires _ _ _ c.loop-row.invariant (below) in
    match_fails _ _ _ _ c.requires _ _ _ c.loop-row.invariant (below) _ (λ e. omega (arith, r.inside))

pub returns-then-place-at : goal.returns-then-place-at
returns-then-place-at c =
    let below : c.loop-row.row < c.args.n = omega arith in
    match_fails _ _ _ _ c.requires _ _ _ c.loop-row.invariant (below) _ (λ e. c.if-place-at.true (e))

pub bounds-sizes-row : goal.bounds-sizes-row
bounds-sizes-row c = let a = accepted _ _ c.requires.passed in omega (arith, a.most)

pub loop-row-preserved : goal.loop-row-preserved
loop-row-preserved c =
    let below : c.loop-row.row < c.args.n = omega arith in
    let turn : Matching c.args.tables.now.file.now c.args.tables.now.places.now c.args.n
    (set c.loop-row.sizes c.loop-row.row (get_or c.args.tables.now.file.now (get_or c.args.tables.now.places.now c.loop-row.row 0 + 2) 0))
    (c.loop-row.at + 3 + get_or c.args.tables.now.file.now (get_or c.args.tables.now.places.now c.loop-row.row 0 + 2) 0) (c.loop-row.row + 1) = match_more _ _ _ _ c.requires _ _ _ c.loop-row.invariant (below)
    _ _ refl c.if-place-at.false refl in
    turn

pub returns : goal.returns
returns c = match_done _ _ _ _ c.requires _ _ _ c.loop-row.invariant (omega arith)
