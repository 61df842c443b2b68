-- `typing::truncate` meets its contract. Assumes nothing.
use mathlib.Core.Path.{sym, ◌∙◌}
use Rattle.std.proofs.Common.{rules}
use Rattle.typing.proofs.Ending.{truncated_out, truncated_in}
use Rattle.typing.proofs.truncate.Goals as goal

pub returns-then-head_out : goal.returns-then-head_out
returns-then-head_out c = truncated_out _ _ _ (sym c.head_out.ensures ∙ c.if-head_out.true)

pub returns : goal.returns
returns c = truncated_in _ _ _ _ (sym c.head_out.ensures ∙ c.if-head_out.false) (search rules)
