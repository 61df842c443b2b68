-- Rests on the laws of one row that is tried: what find answers for the rest, and what the pair check then says. Assumes nothing.
use native.Mathlib.Omega.{arith}
use lib.ListN.{length, drop}
use Rattle.theory.specs.Parts.{bytes_of}
use Rattle.phrase_file.specs.Form.{rows}
use Rattle.search_area.specs.Answers.{Found}
use Rattle.parts.proofs.Trying.{found-rest, inside, fails-left, fails-right, pair-ready, right-is}
use Rattle.parts.proofs.right_part.Goals as goal

pub bytes_of-bytes-requires : goal.bytes_of-bytes-requires
bytes_of-bytes-requires c = c.requires.looking.row_below

pub length_of-from-requires : goal.length_of-from-requires
length_of-from-requires c = c.requires.beginner.row_below

pub slice_bounds-find-count : goal.slice_bounds-find-count
slice_bounds-find-count c = inside _ _ _ c.requires.looking _ 0 c.requires.beginner _ _ c.bytes_of-bytes.ensures c.length_of-from.ensures.is

pub slice_bounds-find-start : goal.slice_bounds-find-start
slice_bounds-find-start c = inside _ _ _ c.requires.looking _ 0 c.requires.beginner _ _ c.bytes_of-bytes.ensures c.length_of-from.ensures.is

pub find-right-requires : goal.find-right-requires
find-right-requires c = record { area_size_in_bounds = c.requires.looking.rows_found.area_room }

pub returns-then-w-left : goal.returns-then-w-left
returns-then-w-left c =
    let found : Found c.args.tables.now.rows.file.now c.args.tables.now.rows.places.now c.args.tables.now.rows.n c.args.tables.now.area.now
    (drop (length (bytes_of (rows c.args.tables.now.rows.file.now) c.args.left)) (bytes_of (rows c.args.tables.now.rows.file.now) c.args.w)) c.find-right.result =
    found-rest _ _ _ c.requires.looking _ _ c.requires.beginner _ _ c.bytes_of-bytes.ensures c.length_of-from.ensures.is c.find-right.ensures in
    fails-left _ _ _ c.requires.looking _ _ c.requires.beginner found (omega arith)

pub returns-then-w-right : goal.returns-then-w-right
returns-then-w-right c =
    let found : Found c.args.tables.now.rows.file.now c.args.tables.now.rows.places.now c.args.tables.now.rows.n c.args.tables.now.area.now
    (drop (length (bytes_of (rows c.args.tables.now.rows.file.now) c.args.left)) (bytes_of (rows c.args.tables.now.rows.file.now) c.args.w)) c.find-right.result =
    found-rest _ _ _ c.requires.looking _ _ c.requires.beginner _ _ c.bytes_of-bytes.ensures c.length_of-from.ensures.is c.find-right.ensures in
    fails-right _ _ _ c.requires.looking _ _ c.requires.beginner found (omega arith)

pub is_valid_pair_by_parts-requires : goal.is_valid_pair_by_parts-requires
is_valid_pair_by_parts-requires c =
    let found : Found c.args.tables.now.rows.file.now c.args.tables.now.rows.places.now c.args.tables.now.rows.n c.args.tables.now.area.now
    (drop (length (bytes_of (rows c.args.tables.now.rows.file.now) c.args.left)) (bytes_of (rows c.args.tables.now.rows.file.now) c.args.w)) c.find-right.result =
    found-rest _ _ _ c.requires.looking _ _ c.requires.beginner _ _ c.bytes_of-bytes.ensures c.length_of-from.ensures.is c.find-right.ensures in
    pair-ready _ _ _ c.requires.looking _ _ c.requires.beginner found (omega arith) (omega arith)

pub returns : goal.returns
returns c =
    let found : Found c.args.tables.now.rows.file.now c.args.tables.now.rows.places.now c.args.tables.now.rows.n c.args.tables.now.area.now
    (drop (length (bytes_of (rows c.args.tables.now.rows.file.now) c.args.left)) (bytes_of (rows c.args.tables.now.rows.file.now) c.args.w)) c.find-right.result =
    found-rest _ _ _ c.requires.looking _ _ c.requires.beginner _ _ c.bytes_of-bytes.ensures c.length_of-from.ensures.is c.find-right.ensures in
    rw c.then_some.ensures (right-is _ _ _ c.requires.looking _ _ c.requires.beginner found (omega arith) (omega arith) _ c.is_valid_pair_by_parts.ensures)
