-- The hints and the marks are filled, and nothing else has changed. Assumes nothing.
use mathlib.Core.Path.{◌≡◌, ◌∙◌, ap}
use Prim.Native.Nat.{ℕ}
use native.Mathlib.Omega.{arith}
use lib.ListN.{length, length-take, length-drop, take, drop, replicate}
use Rattle.theory.specs.Dictionary.{none}
use Rattle.parts.proofs.Marking.{pairs-emptied}
use Rattle.parts.proofs.empty_pairs.Goals as goal

pub returns : goal.returns
returns c =
    let size : length (take 3840 (drop 12544 c.args.area.now)) ≡ 3840 = simp (length-take, length-drop) (omega arith) in
    pairs-emptied _ _ c.requires (c.fill.ensures.after (λ y e. e) ∙ ap (λ (k : ℕ). replicate k none) size)
