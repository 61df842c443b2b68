-- Laws of the lowest number below n that passes a test. Assumes nothing.
use mathlib.Core.Path.{◌≡◌, refl, ap}
use mathlib.Core.Bool.{Bool, true, false}
use Prim.Native.Nat.{ℕ, zero, suc, ◌<◌}
use native.Mathlib.Omega.{arith}
use Rattle.clashes.specs.Clashes.{lowest}

-- the lowest number that passes, by the numbers below it that do not
pub lowest-at : (test : ℕ → Bool) (n i : ℕ) → i < n → test i ≡ true → ((j : ℕ) → j < i → test j ≡ false) → lowest test n ≡ i
unfolding lowest
lowest-at test zero i l e f = absurd (omega arith)
lowest-at test (suc n) zero l e f = rw (e, lowest)
lowest-at test (suc n) (suc i) l e f = rw (f 0 (omega arith), lowest) (ap suc (lowest-at (λ k. test (suc k)) n i (omega arith) e (λ j h. f (suc j) (omega arith))))

pub lowest-none : (test : ℕ → Bool) (n : ℕ) → ((j : ℕ) → j < n → test j ≡ false) → lowest test n ≡ n
unfolding lowest
lowest-none test zero f = refl
lowest-none test (suc n) f = rw (f 0 (omega arith), lowest) (ap suc (lowest-none (λ k. test (suc k)) n (λ j h. f (suc j) (omega arith))))

-- tests that agree have the same lowest number
pub lowest-same : (test test' : ℕ → Bool) (n : ℕ) → ((j : ℕ) → j < n → test j ≡ test' j) → lowest test n ≡ lowest test' n
unfolding lowest
lowest-same test test' zero f = refl
lowest-same test test' (suc n) f =
    go (test' 0) refl (lowest-same (λ k. test (suc k)) (λ k. test' (suc k)) n (λ j h. f (suc j) (omega arith)))
  where
    go : (b : Bool) → test' 0 ≡ b → lowest (λ k. test (suc k)) n ≡ lowest (λ k. test' (suc k)) n → lowest test (suc n) ≡ lowest test' (suc n)
    go true e ih = rw (f 0 (omega arith), e, lowest)
    go false e ih = rw (f 0 (omega arith), e, lowest) (ap suc ih)

-- no number below the lowest passes
pub below-lowest : (test : ℕ → Bool) (n j : ℕ) → j < lowest test n → test j ≡ false
unfolding lowest
below-lowest test zero j h = absurd (omega arith)
below-lowest test (suc n) j h = go (test 0) refl j h (below-lowest (λ k. test (suc k)) n)
  where
    go : (b : Bool) → test 0 ≡ b → (j : ℕ) → j < lowest test (suc n) → ((j : ℕ) → j < lowest (λ k. test (suc k)) n → test (suc j) ≡ false) → test j ≡ false
    go true e j h ih = let z : j < 0 = rw (e, lowest) at h in absurd (omega arith)
    go false e zero h ih = e
    go false e (suc j) h ih = let z : suc j < suc (lowest (λ k. test (suc k)) n) = rw (e, lowest) at h in ih j (omega arith)
