-- `lowest_from` meets its contract by the laws of trailing zeros (proofs/Words.antt). Assumes nothing.
use Rattle.bitfield.proofs.Search.{lowest-only}
use Rattle.bitfield.proofs.Words.{lowest-none, lowest-some}
use Rattle.bitfield.proofs.lowest_from.Goals as goal

pub returns-then-rest-eq0 : goal.returns-then-rest-eq0
returns-then-rest-eq0 c = lowest-only _ _ 64 _ (lowest-none _ _ c.if-rest-eq0.true)

pub returns : goal.returns
returns c = lowest-only _ _ 64 _ (lowest-some _ _ c.ranges.word.fits c.if-rest-eq0.false)
