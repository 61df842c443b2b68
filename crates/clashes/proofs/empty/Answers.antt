-- `clashes::empty` meets its contract. Assumes nothing.
use mathlib.Core.Path.{◌≡◌, sym, ap, ◌∙◌}
use mathlib.Core.List.{List, ◌++◌}
use Prim.Native.Nat.{ℕ}
use native.Mathlib.Omega.{arith}
use lib.ListN.{length, take, drop, replicate}
use lib.Seq.{length-take-le}
use Rattle.theory.specs.Dictionary.{none}
use Rattle.clashes.specs.Buckets.{emptied}
use Rattle.clashes.proofs.empty.Goals as goal

pub slice_bounds-fill-end-2 : goal.slice_bounds-fill-end-2
slice_bounds-fill-end-2 c = sym (length-take-le 4096 c.args.scratch.now (omega arith))

pub returns : goal.returns
unfolding emptied
returns c =
    let s = c.args.scratch.now in
    let size : length (take 4096 s) ≡ 4096 = length-take-le 4096 s (omega arith) in
    ap (λ (l : List ℕ). l ++ drop 4096 s) (c.fill.ensures.after (λ y e. e) ∙ ap (λ (k : ℕ). replicate k none) size)
