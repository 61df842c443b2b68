-- Rests on the descent from row x in the rows' part along the bytes of row y. Assumes nothing.
use Rattle.placed_rows.specs.Reading.{rows_of}
use Rattle.search_area.proofs.Looking.{join-hit, join_miss}
use Rattle.search_area.proofs.join.Goals as goal

pub returns-then-l-a : goal.returns-then-l-a
returns-then-l-a c =
    let R = rows_of c.args.rows.now in
    join-hit _ _ _ _ _ _ _ _ _ _ c.descend-m.ensures c.requires.area_size_in_bounds.1.0 (c.bytes_of-bytes.ensures)
    (c.length_of-a.ensures.is) c.if-l-a.true

pub returns-else-l-a : goal.returns-else-l-a
returns-else-l-a c =
    let R = rows_of c.args.rows.now in
    join_miss _ _ _ _ _ _ _ _ _ _ c.descend-m.ensures c.requires.area_size_in_bounds.1.0 (c.bytes_of-bytes.ensures)
    (c.length_of-a.ensures.is) c.if-l-a.false
