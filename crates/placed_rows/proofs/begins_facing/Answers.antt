-- Rests on the library's test from the back, and on `begins_with` from the front. Assumes nothing.
use Rattle.placed_rows.specs.Texts.{facing}
use Rattle.placed_rows.proofs.Facing.{ends-facing}
use Rattle.placed_rows.proofs.begins_facing.Goals as goal

pub returns-then-back : goal.returns-then-back
returns-then-back c = rw c.if-back.true (ends-facing _ _ _ c.ends_with.ensures.value)

pub returns-else-back : goal.returns-else-back
unfolding facing
returns-else-back c = rw c.if-back.false c.begins_with.ensures
