-- `highest_to` meets its contract by the laws of leading zeros (proofs/Words.antt). Assumes nothing.
use Rattle.bitfield.proofs.Search.{highest-only}
use Rattle.bitfield.proofs.Words.{low_part, highest-none, highest-some}
use Rattle.bitfield.proofs.highest_to.Goals as goal

pub returns-then-rest-eq0 : goal.returns-then-rest-eq0
returns-then-rest-eq0 c = highest-only _ _ _ (highest-none _ _ _ c.requires (low_part _ _ c.requires) c.if-rest-eq0.true)

pub returns : goal.returns
returns c = highest-only _ _ _ (highest-some _ _ _ c.requires (low_part _ _ c.requires) c.if-rest-eq0.false)
