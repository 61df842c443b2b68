-- `decoder::write_spelled` meets its contract: before each code the bytes of those passed stand at the front of the output. Assumes nothing.
use Rattle.built_tables.specs.Built.{dictionary_of}
use Rattle.decoder.proofs.Spelling.{Written}
use Rattle.decoder.proofs.write_spelled.Given as goal

abbrev pub invariant-loop-token : goal.invariant-loop-token
invariant-loop-token l = Written (dictionary_of l.rows.file.now) l.tokens l.initial.out l.at l.token-index l.out
