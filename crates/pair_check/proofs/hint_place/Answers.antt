-- Rests on the hash of the two codes, which has 32 bits. Assumes nothing.
use mathlib.Core.Path.{ap}
use Prim.Native.Nat.{ℕ, ◌*◌, ◌/◌}
use native.Mathlib.Omega.{arith}
use Rattle.pair_check.specs.Pair.{hint_place}
use Rattle.pair_check.proofs.Keys.{hash_below}
use Rattle.pair_check.proofs.hint_place.Goals as goal

pub overflow_mul-result : goal.overflow_mul-result
overflow_mul-result c = omega (arith, c.pair_hash.ensures, hash_below c.args.left c.args.right)

pub returns : goal.returns
unfolding hint_place
returns c = ap (λ (h : ℕ). h * 4608 / 4294967296) c.pair_hash.ensures
