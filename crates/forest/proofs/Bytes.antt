-- The row that is one byte alone stands first in its bucket. Assumes nothing.
use mathlib.Core.Path.{◌≡◌, sym, ap, ◌∙◌}
use mathlib.Core.List.{List, [], ◌∷◌}
use mathlib.Core.Logic.{⊎_elim}
use mathlib.Core.Bool.{Bool}
use Prim.Native.Nat.{ℕ}
use native.Mathlib.Omega.{arith}
use lib.ListN.{length, get_or}
use Rattle.theory.specs.Dictionary.{none}
use Rattle.forest.specs.Words.{row_of, bucket_of, In, byte_of, word_of, Indexed}
use Rattle.forest.proofs.NoChild.{filled}
use Rattle.forest.proofs.Packing.{word_row}

module _ (R : ℕ → List ℕ) (n : ℕ) (area : List ℕ) (b w : ℕ) (stood : w ≡ get_or area (bucket_of none b) 0)
    (S : ℕ → Bool) (I : Indexed R n area S) (d : ℕ) (s : In S d) (e : R d ≡ b ∷ []) where
  at-root : I.par d ≡ none
  at-root = ⊎_elim
      (λ z. z)
      (λ t. absurd (omega (arith, filled R I.par (In S) I.forest (I.par d) t, (I.forest.prefix d s).shorter, ap length e)))
      (I.forest.prefix d s).known

  byte_is : byte_of R I.par d ≡ b
  byte_is =
      let z : length (R (I.par d)) ≡ 0 = ap (λ (q : ℕ). length (R q)) at-root ∙ ap length I.forest.root in
      ap (λ (k : ℕ). get_or (R d) k 0) z ∙ ap (λ (t : List ℕ). get_or t 0 0) e

  pub row_is : row_of w ≡ d
  row_is =
      let l = I.below d s in
      let f = I.few in
      let v : w ≡ word_of R I.par d = stood ∙ (λ i. get_or area (bucket_of (sym at-root i) (sym byte_is i)) 0) ∙ I.single d s (ap length e) in
      ap (λ (x : ℕ). row_of x) v ∙ word_row d _ _ (omega arith)
