-- A set without one of its bits. Assumes nothing.
use mathlib.Core.Path.{◌≡◌, refl, fun_ext}
use mathlib.Core.Bool.{Bool, false}
use Prim.Native.Nat.{ℕ}
use native.Mathlib.Decide.{ℕ_discrete}
use borrow.Author.Tests.{eq-eqb, ne_eqb}
use Rattle.bitfield.specs.Bits.{without}

module _ (bits : ℕ → Bool) (p : ℕ) where
  pub without-same : without bits p p ≡ false
  unfolding without
  without-same = rw (eq-eqb p p refl)

  pub without_other : (q : ℕ) → (q ≡ p → ⊥) → without bits p q ≡ bits q
  unfolding without
  without_other q n = rw (ne_eqb q p n)

  -- without a bit that is not set it is the same set
  pub without-clear : bits p ≡ false → bits ≡ without bits p
  without-clear h = fun_ext (λ q. go q (ℕ_discrete q p))
    where
      go : (q : ℕ) → Dec (q ≡ p) → bits q ≡ without bits p q
      go q (yes e) = rw (e, without-same, h)
      go q (no n) = rw (without_other q n)
