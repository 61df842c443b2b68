-- The first entries are filled with none. Assumes nothing.
use mathlib.Core.Path.{◌≡◌, ap, ◌∙◌}
use mathlib.Core.List.{List, ◌++◌}
use Prim.Native.Nat.{ℕ}
use lib.ListN.{length, take, drop, replicate}
use lib.Seq.{length-take-le}
use Rattle.theory.specs.Dictionary.{none}
use Rattle.dictionary.specs.Build.{cleared}
use Rattle.dictionary.proofs.clear.Goals as goal

pub returns : goal.returns
unfolding cleared
returns c =
    let t = c.args.table.now in
    let size : length (take c.args.size t) ≡ c.args.size = length-take-le c.args.size t c.requires in
    ap (λ (l : List ℕ). l ++ drop c.args.size t) (c.fill.ensures.after (λ y e. e) ∙ ap (λ (k : ℕ). replicate k none) size)
