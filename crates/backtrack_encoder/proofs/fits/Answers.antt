-- `backtrack_encoder::fits` meets its contract, by the cases of `Fitting`. Assumes nothing.
use borrow.Author.Tests.{not-true, not-false}
use mathlib.Core.Path.{sym, ◌∙◌}
use native.Mathlib.Omega.{arith}
use Rattle.backtrack_encoder.proofs.Sizes.{count-text}
use Rattle.backtrack_encoder.proofs.Fitting.{fits_outside, fits-dead, fits-alone, fits-pair}
use Rattle.backtrack_encoder.proofs.fits.Goals as goal

pub returns-then-text-end : goal.returns-then-text-end
returns-then-text-end c = fits_outside _ _ _ _ _ _ _ _ c.requires.rows_ready.0 c.requires.encoder_ready.0 c.requires.encoder_ready.1 c.length_of.ensures c.if-text-end.true

pub returns-then-not-is_set : goal.returns-then-not-is_set
returns-then-not-is_set c = fits-dead _ _ _ _ _ _ _ _ c.requires.rows_ready.0 c.requires.encoder_ready.0 c.requires.encoder_ready.1 c.length_of.ensures c.if-text-end.false (sym c.is_set.ensures ∙ not-true _ c.if-not-is_set.true-raw)

pub returns-then-encoder-eq0 : goal.returns-then-encoder-eq0
returns-then-encoder-eq0 c = fits-alone _ _ _ _ _ _ _ _ c.requires.rows_ready.0 c.requires.encoder_ready.0 c.requires.encoder_ready.1 c.length_of.ensures c.if-text-end.false (sym c.is_set.ensures ∙ not-false _ c.if-not-is_set.false-raw) c.if-encoder-eq0.true

pub offset_bounds-work-at : goal.offset_bounds-work-at
offset_bounds-work-at c = omega (arith, count-text _ _ _ c.requires.rows_ready.0.places_ready _ _ _ c.requires.encoder_ready.0, c.requires.rows_ready.0.short)

pub bounds-work-at : goal.bounds-work-at
bounds-work-at c = omega (arith, count-text _ _ _ c.requires.rows_ready.0.places_ready _ _ _ c.requires.encoder_ready.0, c.requires.rows_ready.0.room, c.if-encoder-eq0.false)

pub returns : goal.returns
returns c = fits-pair _ _ _ _ _ _ _ _ c.requires.rows_ready.0 c.requires.encoder_ready.0 c.requires.encoder_ready.1 c.length_of.ensures _ c.if-text-end.false (sym c.is_set.ensures ∙ not-false _ c.if-not-is_set.false-raw) c.if-encoder-eq0.false c.is_valid_pair.ensures
