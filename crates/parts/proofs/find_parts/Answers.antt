-- The loop keeps which row is the next to try, and that it decides the parts. Each is shorter than the one before. Assumes nothing.
use native.Mathlib.Omega.{arith}
use Rattle.parts.proofs.Trying.{Tried, found-single, next_row, none_left, found-parts, try_first, try_next, try_less}
use Rattle.parts.proofs.find_parts.Goals as goal

pub length_of-requires : goal.length_of-requires
length_of-requires c = c.requires.looking.row_below

pub returns-then-length_of-eq1 : goal.returns-then-length_of-eq1
returns-then-length_of-eq1 c = found-single _ _ _ _ c.args.tables.now.prefixes.now _ _ _ c.requires.looking _ c.length_of.ensures.is c.if-length_of-eq1.true

pub bounds-tables-row : goal.bounds-tables-row
bounds-tables-row c = omega (arith, c.requires.looking.row_below, c.requires.prefixes_found.room)

pub loop-left-init : goal.loop-left-init
loop-left-init c = try_first _ _ _ _ _ _ _ _ c.requires.looking c.requires.prefixes_found _ c.length_of.ensures.is c.if-length_of-eq1.false

pub right_part-requires : goal.right_part-requires
right_part-requires c =
    let tried : Tried c.args.tables.now.rows.file.now c.args.tables.now.rows.places.now c.args.tables.now.rows.n c.args.w c.loop-left.left =
    next_row _ _ _ _ c.args.tables.now.prefixes.now _ _ _ c.requires.looking _ c.loop-left.invariant c.loop-left-test.true in
    record { looking = c.requires.looking; beginner = tried.beginner }

pub returns-in-Some : goal.returns-in-Some
returns-in-Some c =
    let tried : Tried c.args.tables.now.rows.file.now c.args.tables.now.rows.places.now c.args.tables.now.rows.n c.args.w c.loop-left.left =
    next_row _ _ _ _ c.args.tables.now.prefixes.now _ _ _ c.requires.looking _ c.loop-left.invariant c.loop-left-test.true in
    found-parts _ _ _ _ c.args.tables.now.prefixes.now _ _ _ c.requires.looking _ _ tried c.in-Some.ensures

pub bounds-tables-left : goal.bounds-tables-left
bounds-tables-left c =
    let tried : Tried c.args.tables.now.rows.file.now c.args.tables.now.rows.places.now c.args.tables.now.rows.n c.args.w c.loop-left.left =
    next_row _ _ _ _ c.args.tables.now.prefixes.now _ _ _ c.requires.looking _ c.loop-left.invariant c.loop-left-test.true in
    omega (arith, tried.beginner.row_below, c.requires.prefixes_found.room)

pub loop-left-smaller : goal.loop-left-smaller
loop-left-smaller c =
    let tried : Tried c.args.tables.now.rows.file.now c.args.tables.now.rows.places.now c.args.tables.now.rows.n c.args.w c.loop-left.left =
    next_row _ _ _ _ c.args.tables.now.prefixes.now _ _ _ c.requires.looking _ c.loop-left.invariant c.loop-left-test.true in
    try_less _ _ _ _ _ _ _ _ c.requires.looking c.requires.prefixes_found _ tried

pub loop-left-preserved : goal.loop-left-preserved
loop-left-preserved c =
    let tried : Tried c.args.tables.now.rows.file.now c.args.tables.now.rows.places.now c.args.tables.now.rows.n c.args.w c.loop-left.left =
    next_row _ _ _ _ c.args.tables.now.prefixes.now _ _ _ c.requires.looking _ c.loop-left.invariant c.loop-left-test.true in
    try_next _ _ _ _ _ _ _ _ c.requires.looking c.requires.prefixes_found _ tried c.in_default.ensures

pub returns : goal.returns
returns c = none_left _ _ _ _ c.args.tables.now.prefixes.now _ _ _ c.requires.looking _ c.loop-left.invariant c.loop-left-test.false
