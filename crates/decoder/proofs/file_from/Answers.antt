-- `decoder::file_from` meets its contract: the row lies in the file, and begins what is left of it there. Assumes nothing.
use Rattle.decoder.proofs.Spelling.{row-ahead}
use Rattle.decoder.proofs.file_from.Goals as goal

pub returns : goal.returns
returns c = row-ahead _ _ _ _ c.args.rows.now.placed c.requires
