-- `Joins::next_live` meets its contract: the answers of the bit set are those of `Places`. Assumes nothing.
use mathlib.Core.Path.{sym, ◌∙◌}
use Rattle.merge_encoder.proofs.Places.{next-at, next-beyond, next-nothing}
use Rattle.merge_encoder.proofs.joins.Joins.next_live.Goals as goal

pub returns-in_err-next : goal.returns-in_err-next
returns-in_err-next c = rw c.from_residual.ensures (next-nothing _ _ _ c.requires (sym c.in_err-next.was ∙ c.successor.ensures))

pub returns-then-next-end : goal.returns-then-next-end
returns-then-next-end c = (c.if-next-end.true, next-at _ _ _ c.requires _ (sym c.in_ok-next.was ∙ c.successor.ensures) c.if-next-end.true)

pub returns-else-next-end : goal.returns-else-next-end
returns-else-next-end c = next-beyond _ _ _ c.requires _ (sym c.in_ok-next.was ∙ c.successor.ensures) c.if-next-end.false
