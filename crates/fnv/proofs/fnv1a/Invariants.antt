-- `fnv::fnv1a` meets its contract. The loop's invariant: going on from `hash` over the bytes that are left gives the whole's value. Assumes nothing.
use Rattle.std.proofs.Common.{◌≡◌, drop}
use Rattle.fnv.specs.Fnv.{fnv}
use Rattle.fnv.proofs.fnv1a.Given as goal

abbrev pub invariant-loop-octet : goal.invariant-loop-octet
invariant-loop-octet l = fnv l.hash (drop l.octet-index l.bytes) ≡ fnv l.start l.bytes
