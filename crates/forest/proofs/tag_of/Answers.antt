-- By the definition of the tag; where the row has one byte more, the next one is 0. Assumes nothing.
use mathlib.Core.Path.{◌≡◌, refl}
use mathlib.Core.List.{List, [], ◌∷◌}
use Prim.Native.Nat.{ℕ, zero, suc, ◌+◌, ◌≤◌}
use native.Mathlib.Omega.{arith}
use lib.ListN.{length, get_or}
use Rattle.forest.specs.Words.{tag_at}
use Rattle.forest.proofs.tag_of.Goals as goal

-- beyond the end there is 0
beyond-end : (t : List ℕ) (i : ℕ) → length t ≤ i → get_or t i 0 ≡ 0
beyond-end [] i h = refl
beyond-end (x ∷ t) zero h = absurd (omega arith)
beyond-end (x ∷ t) (suc i) h = beyond-end t i (omega arith)

pub returns-then-bytes-k-eq1 : goal.returns-then-bytes-k-eq1
unfolding tag_at
returns-then-bytes-k-eq1 c = let a = c.args in omega (arith, beyond-end a.bytes.now (a.k + 1) (omega (arith, c.if-bytes-k-eq1.true)))

pub returns : goal.returns
unfolding tag_at
returns c = refl
