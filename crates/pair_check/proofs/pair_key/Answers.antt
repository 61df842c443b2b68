-- Rests on the hash of the two codes. Assumes nothing.
use mathlib.Core.Path.{ap}
use Prim.Native.Nat.{ℕ, ◌/◌}
use Rattle.pair_check.specs.Pair.{pair_key}
use Rattle.pair_check.proofs.pair_key.Goals as goal

pub returns : goal.returns
unfolding pair_key
returns c = ap (λ (h : ℕ). h / 4096) c.pair_hash.ensures
