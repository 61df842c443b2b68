-- The count with a limit: which answer a final count gets.
use mathlib.Core.Path.{◌≡◌, sym, ◌∙◌}
use mathlib.Core.Logic.{⊎_elim}
use Prim.Native.Nat.{ℕ, ◌≤◌, ◌<◌}
use native.Mathlib.Omega.{arith}
use borrow.Author.Tests.{lt-ltb, le-ltb}
use Rattle.theory.specs.CountLimit.{counted, over, final}
use Rattle.theory.proofs.Lists.{lt_or_ge}

-- a count is not "over"
pub over-counted : (k : ℕ) → over ≡ counted k → ⊥
over-counted k e = let z : ◌≡◌ {A = ℕ} 0 1 = cc in omega arith

module _ (limit n : ℕ) where
  pub final-over : limit < n → final limit n ≡ over
  unfolding final
  final-over h = rw (lt-ltb limit n h, final)

  pub final-count : n ≤ limit → final limit n ≡ counted n
  unfolding final
  final-count h = rw (le-ltb limit n h, final)

  -- "over" is given in no other case
  pub over-only : final limit n ≡ over → limit < n
  over-only e = ⊎_elim (λ h. h) (λ h. absurd (over-counted n (sym e ∙ final-count h))) (lt_or_ge limit n)

  -- a count that is given is the final one, and does not exceed the limit
  pub counted_is : (k : ℕ) → final limit n ≡ counted k → (k ≡ n) × (k ≤ limit)
  counted_is k e = ⊎_elim
      (λ h. absurd (over-counted k (sym (final-over h) ∙ e)))
      (λ h.
      let i : counted n ≡ counted k = sym (final-count h) ∙ e in
      let j : k ≡ n = cc in
      (j, omega arith))
      (lt_or_ge limit n)
