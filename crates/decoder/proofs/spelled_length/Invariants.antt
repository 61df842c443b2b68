-- `decoder::spelled_length` meets its contract: before each code the bytes of those passed are counted. Assumes nothing.
use Rattle.built_tables.specs.Built.{dictionary_of}
use Rattle.decoder.proofs.Spelling.{Counted}
use Rattle.decoder.proofs.spelled_length.Given as goal

abbrev pub invariant-loop-token : goal.invariant-loop-token
invariant-loop-token l = Counted (dictionary_of l.rows.file.now) l.tokens l.sum l.token-index
