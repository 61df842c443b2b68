-- The loop's invariant is `Rising`: a row that begins the text is met. Each row is longer than the one before. Assumes nothing.
use Rattle.shortest_encoder.proofs.Rising.{rising-first, rising_none}
use Rattle.shortest_encoder.proofs.longest_at.Goals as goal

pub returns-then-first : goal.returns-then-first
returns-then-first c = rising_none _ _ _ _ _ c.args.tables.now.rows.placed _ _ c.first_match-first.ensures.0 c.if-first.true

pub loop-len-init : goal.loop-len-init
loop-len-init c = rising-first _ _ _ _ _ c.args.tables.now.rows.placed _ _ c.first_match-first.ensures.0 c.if-first.false
