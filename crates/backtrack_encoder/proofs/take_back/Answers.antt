-- `backtrack_encoder::take_back` meets its contract, by the cases of `Moves`. Assumes nothing.
use native.Mathlib.Omega.{arith}
use Rattle.backtrack_encoder.proofs.Sizes.{count-text}
use Rattle.backtrack_encoder.proofs.Moves.{back_none, back_pos, back_last}
use Rattle.backtrack_encoder.proofs.take_back.Goals as goal

pub returns-then-encoder-eq0 : goal.returns-then-encoder-eq0
returns-then-encoder-eq0 c = back_none _ _ _ _ _ _ _ _ c.requires.places_ready.0 c.requires.encoder_ready c.clear_bit.ensures.bits c.if-encoder-eq0.true

pub offset_bounds-work-count : goal.offset_bounds-work-count
offset_bounds-work-count c = omega (arith, count-text _ _ _ c.requires.places_ready.0 _ _ _ c.requires.encoder_ready, c.requires.places_ready.1, c.well_formed)

pub bounds-work-count : goal.bounds-work-count
bounds-work-count c = omega (arith, count-text _ _ _ c.requires.places_ready.0 _ _ _ c.requires.encoder_ready, c.requires.places_ready.1, c.if-encoder-eq0.false)

pub overflow_sub-pos : goal.overflow_sub-pos
overflow_sub-pos c = back_pos _ _ _ _ _ _ _ _ c.requires.places_ready.0 c.requires.encoder_ready c.clear_bit.ensures.bits c.if-encoder-eq0.false _ c.length_of.ensures

pub returns : goal.returns
returns c = back_last _ _ _ _ _ _ _ _ c.requires.places_ready.0 c.requires.encoder_ready c.clear_bit.ensures.bits c.if-encoder-eq0.false _ c.length_of.ensures
