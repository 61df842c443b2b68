-- `fnv::fnv1a` meets its contract. The loop's invariant: going on from `hash` over the bytes that are left gives the whole's value. Assumes nothing.
use Rattle.std.proofs.Common.{arith}
use Rattle.fnv.proofs.Laws.{fnv-drop, fnv-done}
use Rattle.fnv.proofs.fnv1a.Goals as goal

pub loop-octet-preserved : goal.loop-octet-preserved
loop-octet-preserved c = cc (fnv-drop c.loop-octet.hash c.loop-octet.octet-index c.args.bytes.now (omega arith))

pub returns : goal.returns
returns c = cc (fnv-done c.loop-octet.hash c.loop-octet.octet-index c.args.bytes.now (omega arith))
