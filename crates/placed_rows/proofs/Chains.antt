-- Rows of other lengths differ, and rows of the same bytes are the same. Assumes nothing.
use mathlib.Core.Path.{◌≡◌, sym, ap, ◌∙◌}
use mathlib.Core.List.{List, []}
use mathlib.Core.Logic.{inl, inr}
use Prim.Native.Nat.{ℕ, ◌<◌}
use native.Mathlib.Omega.{arith}
use lib.ListN.{length}
use Rattle.theory.specs.Dictionary.{none}
use Rattle.placed_rows.specs.Longest.{Known}

-- a row of another length is another row
pub other : (R : ℕ → List ℕ) (c d : ℕ) → length (R c) < length (R d) → c ≡ d → ⊥
other R c d h e = omega (arith, ap (λ (i : ℕ). length (R i)) e)

-- where rows have bytes, and no two the same
module _ (R : ℕ → List ℕ) (K : ℕ → Type 0) (root : R none ≡ []) (filled : (d : ℕ) → K d → 0 < length (R d))
    (distinct : (c d : ℕ) → K c → K d → R c ≡ R d → c ≡ d) where
  pub root-length : (p : ℕ) → p ≡ none → length (R p) ≡ 0
  root-length p e = ap (λ (x : ℕ). length (R x)) e ∙ ap length root

  pub same_row : (p q : ℕ) → Known K p → Known K q → R p ≡ R q → p ≡ q
  same_row p q (inl a) (inl b) e = a ∙ sym b
  same_row p q (inl a) (inr b) e = absurd (omega (arith, filled q b, root-length p a, ap length e))
  same_row p q (inr a) (inl b) e = absurd (omega (arith, filled p a, root-length q b, ap length e))
  same_row p q (inr a) (inr b) e = distinct p q a b e
