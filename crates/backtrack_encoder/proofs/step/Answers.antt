-- `backtrack_encoder::step` meets its contract, by the cases of `Stepping`. Assumes nothing.
use Rattle.backtrack_encoder.proofs.Stepping.{step-none, step-taken, step_added}
use Rattle.backtrack_encoder.proofs.step.Goals as goal

pub returns-then-encoder-eq-NONE : goal.returns-then-encoder-eq-NONE
returns-then-encoder-eq-NONE c = step-none _ _ _ _ _ _ c.requires.encoder_ready c.if-encoder-eq-NONE.true

pub returns-then-token : goal.returns-then-token
returns-then-token c = step-taken _ _ _ _ _ _ c.requires.encoder_ready (λ i. (c.type_inv.text i).fits) c.if-encoder-eq-NONE.false _ c.first_fit-token.ensures _ _ c.if-token.true c.take_back.ensures

pub returns : goal.returns
returns c = step_added _ _ _ _ _ _ c.requires.encoder_ready (λ i. (c.type_inv.text i).fits) c.if-encoder-eq-NONE.false _ c.first_fit-token.ensures _ _ c.if-token.false c.add.ensures
