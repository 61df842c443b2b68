-- The codes that are left stand at the live places, which are the set bits of a bit set.
use Rattle.std.specs.Prelude.{◌≡◌, List, [], ◌∷◌, Bool, true, false, ℕ, zero, suc, ◌≤◌, ◌<◌, get_or, Option, None, Some}

abbrev pub kept : Bool → ℕ → List ℕ → List ℕ
kept true x s = x ∷ s
kept false x s = s

-- the codes at the live ones of the k places from i on
abbrev pub live : (ℕ → Bool) → List ℕ → ℕ → ℕ → List ℕ
live bits work zero i = []
live bits work (suc k) i = kept (bits i) (get_or work i 0) (live bits work k (suc i))

-- r is the live place next after a place, or the end
pub record NextLive (bits : ℕ → Bool) (at end r : ℕ) : Type 0 where
  pub after : at < r
  pub most : r ≤ end
  pub clear : (i : ℕ) → at < i → i < r → bits i ≡ false
  pub here : r < end → bits r ≡ true

-- r is the last live place before a place, or the place itself where there is none
pub record LastLive (bits : ℕ → Bool) (at r : ℕ) : Type 0 where
  pub most : r ≤ at
  pub clear : (i : ℕ) → i < at → (r < at → r < i) → bits i ≡ false
  pub here : r < at → bits r ≡ true

-- the live place next after a place and below the end, or none
abbrev pub NextIs : (ℕ → Bool) → ℕ → ℕ → Option ℕ → Type 0
NextIs bits at end None = NextLive bits at end end
NextIs bits at end (Some r) = (r < end) × NextLive bits at end r

-- the last live place before a place, or none
abbrev pub LastIs : (ℕ → Bool) → ℕ → Option ℕ → Type 0
LastIs bits at None = LastLive bits at at
LastIs bits at (Some r) = (r < at) × LastLive bits at r
