-- Rests on the descent in the rows' part: where it uses all bytes, the longest row is the row with these bytes. Assumes nothing.
use Rattle.search_area.proofs.Looking.{find-hit, find_miss}
use Rattle.search_area.proofs.find.Goals as goal

pub returns-then-l-bytes : goal.returns-then-l-bytes
returns-then-l-bytes c = find-hit _ _ _ _ _ _ _ c.longest-m.ensures c.if-l-bytes.true

pub returns-else-l-bytes : goal.returns-else-l-bytes
returns-else-l-bytes c = find_miss _ _ _ _ _ _ _ c.longest-m.ensures c.if-l-bytes.false
