-- Rests on the library's test. Assumes nothing.
use mathlib.Core.Path.{◌∙◌}
use Rattle.placed_rows.proofs.Beginning.{begins-pointwise}
use Rattle.placed_rows.proofs.begins_with.Goals as goal

pub returns : goal.returns
returns c = c.starts_with.ensures.value ∙ begins-pointwise c.args.p.now c.args.t.now
