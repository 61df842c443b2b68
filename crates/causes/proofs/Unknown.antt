-- The first code that is not below n, step by step. Assumes nothing.
use mathlib.Core.Path.{◌≡◌, refl}
use mathlib.Core.List.{List, [], ◌∷◌}
use Prim.Native.Nat.{ℕ, suc, ◌≤◌, ◌<◌}
use borrow.Author.Tests.{lt-ltb, le-ltb}
use Rattle.causes.specs.Order.{first_unknown}

module _ (n c : ℕ) (codes : List ℕ) where
  pub unknown-first : n ≤ c → first_unknown n (c ∷ codes) ≡ 0
  unfolding first_unknown
  unknown-first h = rw (le-ltb c n h, first_unknown)

  pub unknown-behind : c < n → first_unknown n (c ∷ codes) ≡ suc (first_unknown n codes)
  unfolding first_unknown
  unknown-behind h = rw (lt-ltb c n h, first_unknown)

-- no code is unknown where there is none
pub unknown-none : (n : ℕ) → first_unknown n [] ≡ 0
unfolding first_unknown
unknown-none n = refl
