-- By proofs/Ahead.antt. Assumes nothing.
use Rattle.limited_count.proofs.Ahead.{many-over}
use Rattle.limited_count.proofs.is_over_ahead.Goals as goal

pub returns : goal.returns
returns c = many-over _ _ _ _ _ c.requires c.if-text-end.false (λ i. (c.type_inv.text i).fits) _ c.have_many_codes.ensures
