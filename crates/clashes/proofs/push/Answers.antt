-- `clashes::push` meets its contract: its three stores are those of the definition. Assumes nothing.
use mathlib.Core.Path.{ap}
use Prim.Native.Nat.{ℕ, ◌+◌}
use native.Mathlib.Omega.{arith}
use lib.ListN.{get_or, set, length-set}
use Rattle.clashes.specs.Buckets.{pushed}
use Rattle.clashes.proofs.push.Goals as goal

pub bounds-scratch-row-2 : goal.bounds-scratch-row-2
bounds-scratch-row-2 c = simp length-set (omega arith)

pub bounds-scratch-at-2 : goal.bounds-scratch-at-2
bounds-scratch-at-2 c = simp length-set (omega arith)

pub returns : goal.returns
unfolding pushed
returns c =
    let a = c.args in
    let s = set a.scratch.now (8192 + a.row) a.hash in
    ap (λ (b : ℕ). set (set s (4096 + a.row) (get_or a.scratch.now b 0)) b a.row) c.bucket-at.ensures.is
