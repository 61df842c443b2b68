-- `backtrack_encoder::first_fit` meets its contract: each turn is one of `Trying`. The measure is the length of the row, and a prefix is shorter. Assumes nothing.
use Rattle.backtrack_encoder.proofs.Trying.{try_end, try_fits, try_next}
use Rattle.backtrack_encoder.proofs.first_fit.Goals as goal

pub returns-then-fits : goal.returns-then-fits
returns-then-fits c = try_fits _ _ _ _ _ _ c.requires.text_ready _ c.loop-token.invariant c.loop-token-test.true _ c.if-fits.true c.fits.ensures

pub loop-token-preserved : goal.loop-token-preserved
loop-token-preserved c = try_next _ _ _ _ _ _ c.requires.text_ready _ c.loop-token.invariant c.loop-token-test.true _ c.if-fits.false c.fits.ensures

pub returns : goal.returns
returns c = try_end _ _ _ _ _ _ c.requires.text_ready _ c.loop-token.invariant c.loop-token-test.false
