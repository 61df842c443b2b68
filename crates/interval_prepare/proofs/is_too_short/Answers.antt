-- The answers are the cases of the definition. Assumes nothing.
use Rattle.interval_prepare.proofs.Answers.{short-codes, short_work, short-numbers, short-ends, short_depths}
use Rattle.interval_prepare.proofs.is_too_short.Goals as goal

pub returns-then-last_codes-text : goal.returns-then-last_codes-text
returns-then-last_codes-text c = short-codes _ _ _ _ _ _ c.if-last_codes-text.true

pub returns-then-work-text : goal.returns-then-work-text
returns-then-work-text c = short_work _ _ _ _ _ _ c.if-last_codes-text.false c.if-work-text.true

pub returns-then-numbers-text : goal.returns-then-numbers-text
returns-then-numbers-text c = short-numbers _ _ _ _ _ _ c.if-last_codes-text.false c.if-work-text.false c.if-numbers-text.true

pub returns-then-ends-text : goal.returns-then-ends-text
returns-then-ends-text c = short-ends _ _ _ _ _ _ c.if-last_codes-text.false c.if-work-text.false c.if-numbers-text.false c.if-ends-text.true

pub returns : goal.returns
returns c = short_depths _ _ _ _ _ _ c.if-last_codes-text.false c.if-work-text.false c.if-numbers-text.false c.if-ends-text.false
