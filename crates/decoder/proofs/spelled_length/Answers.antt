-- `decoder::spelled_length` meets its contract: before each code the bytes of those passed are counted. Assumes nothing.
use mathlib.Core.Path.{ap, ◌∙◌}
use lib.ListN.{length}
use Rattle.decoder.proofs.Spelling.{code_row, counted-more}
use Rattle.decoder.proofs.spelled_length.Goals as goal

pub loop-token-preserved : goal.loop-token-preserved
loop-token-preserved c =
    let row = code_row _ _ _ _ c.requires _ c.loop-token-test.true in
    counted-more _ _ _ _ c.loop-token.invariant c.loop-token-test.true _ c.length_of-sum.ensures.below (c.length_of-sum.ensures.is ∙ ap length row.bytes)
