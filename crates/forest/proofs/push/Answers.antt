-- By the definition of the area with one more word. Assumes nothing.
use mathlib.Core.Path.{ap}
use Prim.Native.Nat.{ℕ}
use Rattle.forest.specs.Growth.{put}
use Rattle.forest.proofs.push.Goals as goal

pub returns : goal.returns
unfolding put
returns c =
    let a = c.args in
    ap (λ (i : ℕ). put a.area.now i a.c a.w) c.place-at.ensures.is
