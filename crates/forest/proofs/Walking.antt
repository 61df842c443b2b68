-- Laws of the walk along a bucket, and of the number of rows in a set. Assumes nothing.
use mathlib.Core.Path.{◌≡◌, refl}
use mathlib.Core.List.{List, [], ◌∷◌}
use mathlib.Core.Logic.{◌⊎◌, inl, inr, ⊎_elim}
use mathlib.Core.Bool.{Bool, true, false}
use Prim.Native.Nat.{ℕ, zero, suc, ◌+◌, ◌-◌, ◌%◌, ◌≤◌, ◌<◌}
use native.Mathlib.Decide.{dec_lt}
use native.Mathlib.Omega.{arith}
use lib.ListN.{get_or}
use lib.Dec.{ltb}
use borrow.Author.Tests.{lt-ltb, le-ltb}
use Rattle.forest.specs.Words.{walk, Mem, count}

module _ (n : ℕ) (area : List ℕ) where
  -- the walk from the word after x
  abbrev next : ℕ → ℕ → List ℕ
  next k x = walk n area k (get_or area (8448 + x % 8192) 0)

  pub walk_out : (k x : ℕ) → n ≤ x % 8192 → walk n area k x ≡ []
  unfolding walk
  walk_out zero x h = refl
  walk_out (suc k) x h = rw (le-ltb (x % 8192) n h, walk)

  pub walk_in : (k x : ℕ) → x % 8192 < n → walk n area (suc k) x ≡ x ∷ next k x
  unfolding walk
  walk_in k x h = rw (lt-ltb (x % 8192) n h, walk)

  pub walk-left : (k x : ℕ) → 0 < k → x % 8192 < n → walk n area k x ≡ x ∷ next (k - 1) x
  walk-left zero x h l = absurd (omega arith)
  walk-left (suc k) x h l = let e : suc k - 1 ≡ k = omega arith in rw e (walk_in k x l)

  pub walk-zero : (k x : ℕ) → k ≡ 0 → walk n area k x ≡ []
  unfolding walk
  walk-zero k x e = rw e

  -- a longer walk meets what a shorter one does
  pub walk_more : (k m x w : ℕ) → k ≤ m → Mem w (walk n area k x) → Mem w (walk n area m x)
  unfolding walk
  walk_more zero m x w h y = absurd y
  walk_more (suc k) zero x w h y = absurd (omega arith)
  walk_more (suc k) (suc m) x w h y = go (ltb (x % 8192) n) refl (walk_more k m (get_or area (8448 + x % 8192) 0) w (omega arith))
    where
      go : (b : Bool) → ltb (x % 8192) n ≡ b → (Mem w (next k x) → Mem w (next m x)) → Mem w (walk n area (suc m) x)
      go true e ih =
          let z : Mem w (x ∷ next k x) = rw (e, walk) at y in
          rw (e, walk) (⊎_elim (λ p. inl p) (λ p. inr (ih p)) z)
      go false e ih = absurd (let z : Mem w [] = rw (e, walk) at y in z)

  -- a walk meets its first word, and what the walk from the next one meets
  pub met : (k x v : ℕ) → Mem v (walk n area (suc k) x) → (x % 8192 < n) × ((v ≡ x) ⊎ Mem v (next k x))
  met k x v m = go (dec_lt (x % 8192) n)
    where
      go : Dec (x % 8192 < n) → (x % 8192 < n) × ((v ≡ x) ⊎ Mem v (next k x))
      go (yes l) = (l, rw (walk_in k x l) at m)
      go (no l) = absurd (let z : Mem v [] = rw (walk_out (suc k) x (omega arith)) at m in z)

  pub meet-first : (k x : ℕ) → x % 8192 < n → Mem x (walk n area (suc k) x)
  meet-first k x l = rw (walk_in k x l) (inl refl)

  pub meet-next : (k x v : ℕ) → x % 8192 < n → Mem v (next k x) → Mem v (walk n area (suc k) x)
  meet-next k x v l m = rw (walk_in k x l) (inr m)

pub count-le : (S : ℕ → Bool) (n : ℕ) → count S n ≤ n
count-le S zero = omega arith
count-le S (suc n) = go (S n) refl (count-le S n)
  where
    go : (b : Bool) → S n ≡ b → count S n ≤ n → count S (suc n) ≤ suc n
    go true e ih = rw (e, count) (omega arith)
    go false e ih = rw (e, count) (omega arith)
