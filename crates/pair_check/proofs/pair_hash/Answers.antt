-- `pair_check::pair_hash` meets its contract: the numbers are those of the definition. Assumes nothing.
use Rattle.pair_check.specs.Pair.{pair_hash}
use mathlib.Core.Path.{refl}
use Rattle.pair_check.proofs.pair_hash.Goals as goal

pub returns : goal.returns
unfolding pair_hash
returns c = refl
