-- By the three cases of `stays_at` (proofs/Staying.antt). Assumes nothing.
use Rattle.limited_count.proofs.Staying.{stays-end, stays-front, stays-seam}
use Rattle.limited_count.proofs.codes_stay.Goals as goal

pub returns-then-text-pos : goal.returns-then-text-pos
returns-then-text-pos c = stays-end _ _ _ c.if-text-pos.true

pub returns-then-pos-eq0 : goal.returns-then-pos-eq0
returns-then-pos-eq0 c = stays-front _ _ _ c.if-text-pos.false c.if-pos-eq0.true

pub returns : goal.returns
returns c = stays-seam _ _ _ _ c.if-text-pos.false c.if-pos-eq0.false c.may_join.ensures
