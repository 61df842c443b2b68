-- `decoder::write_spelled` meets its contract: before each code the bytes of those passed stand at the front of the output. Assumes nothing.
use mathlib.Core.Path.{ap, ◌∙◌}
use lib.ListN.{length}
use Rattle.decoder.proofs.Spelling.{code_row, copy_ready, written-more}
use Rattle.decoder.proofs.write_spelled.Goals as goal

pub copy_row-requires : goal.copy_row-requires
copy_row-requires c =
    let row = code_row _ _ _ _ c.requires.codes_ready _ c.loop-token-test.true in
    copy_ready _ _ _ c.requires.exact _ _ _ c.loop-token.invariant c.loop-token-test.true _ (c.length_of-size.ensures.is ∙ ap length row.bytes) _ _ row.bytes c.file_from.ensures

pub loop-token-preserved : goal.loop-token-preserved
loop-token-preserved c =
    let row = code_row _ _ _ _ c.requires.codes_ready _ c.loop-token-test.true in
    written-more _ _ _ c.requires.exact _ _ _ c.loop-token.invariant c.loop-token-test.true _ (c.length_of-size.ensures.is ∙ ap length row.bytes) _ _ row.bytes c.file_from.ensures _ c.copy_row.ensures
