-- The loop's invariant: the first i entries are the last codes, and the rest is as before. Assumes nothing.
use Rattle.table_encoder.proofs.Filling.{filling_end, filling_more}
use Rattle.table_encoder.proofs.encode_all_prefixes.Goals as goal

pub loop-i-preserved : goal.loop-i-preserved
loop-i-preserved c = filling_more _ _ _ _ _ _ c.loop-i.invariant c.loop-i-test.true _ c.end_code_at-code.ensures

pub returns : goal.returns
returns c = filling_end _ _ _ _ _ _ c.loop-i.invariant c.loop-i-test.false
