-- `decoder::copy_bytes` meets its contract: each turn is one of `Copying`. Assumes nothing.
use Rattle.decoder.proofs.Copying.{Copying}
use Rattle.decoder.proofs.copy_bytes.Given as goal

abbrev pub invariant-loop-j : goal.invariant-loop-j
invariant-loop-j l = Copying l.source l.count l.initial.out l.j l.out
