-- `typing::usable` meets its contract. Assumes nothing.
use mathlib.Core.Path.{sym, ◌∙◌}
use Rattle.typing.proofs.Ending.{usable_out, usable_in}
use Rattle.typing.proofs.usable.Goals as goal

pub returns-then-head_out : goal.returns-then-head_out
returns-then-head_out c = sym (usable_out _ _ (sym c.head_out.ensures ∙ c.if-head_out.true))

pub returns-else-head_out : goal.returns-else-head_out
returns-else-head_out c = sym (usable_in _ _ (sym c.head_out.ensures ∙ c.if-head_out.false))
