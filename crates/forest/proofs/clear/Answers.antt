-- By the definition of the empty area. Assumes nothing.
use mathlib.Core.Path.{sym, ap, ◌∙◌}
use mathlib.Core.List.{List, ◌++◌}
use Prim.Native.Nat.{ℕ}
use native.Mathlib.Omega.{arith}
use lib.ListN.{drop, replicate}
use lib.Seq.{length-take-le}
use Rattle.theory.specs.Dictionary.{none}
use Rattle.forest.specs.Growth.{cleared}
use Rattle.forest.proofs.clear.Goals as goal

pub slice_bounds-fill-end-2 : goal.slice_bounds-fill-end-2
slice_bounds-fill-end-2 c = sym (length-take-le 8448 c.args.area.now (omega (arith, c.requires)))

pub returns : goal.returns
unfolding cleared
returns c = ap (λ (t : List ℕ). t ++ drop 8448 c.args.area.now) (c.fill.ensures.after (λ y e. e) ∙ ap (λ (k : ℕ). replicate k none) (length-take-le 8448 c.args.area.now (omega (arith, c.requires))))
