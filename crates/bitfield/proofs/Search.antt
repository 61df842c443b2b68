-- What the searches of specs/Bits.antt answer: their answers are as described here, and no other answer is. Assumes nothing.
use mathlib.Core.Path.{◌≡◌, refl, ap}
use mathlib.Core.Bool.{Bool, true, false, cond}
use Rattle.std.specs.Prelude.{Option, None, Some}
use Prim.Native.Nat.{ℕ, zero, suc, ◌-◌, ◌<◌, ◌≤◌}
use native.Mathlib.Decide.{ℕ_discrete}
use native.Mathlib.Omega.{arith}
use Rattle.bitfield.specs.Bits.{lowest, highest, successor, predecessor}

-- q is the first set bit, in the order in which `Before` says what comes before, of those that are `In`
pub record First (bits : ℕ → Bool) (In : ℕ → Type 0) (Before : ℕ → ℕ → Type 0) (q : ℕ) : Type 0 where
  pub inside : In q
  pub here : bits q ≡ true
  pub clear : (j : ℕ) → In j → Before j q → bits j ≡ false

-- an answer of a search: the first set bit, or none where none is set
abbrev pub Answer : (ℕ → Bool) → (ℕ → Type 0) → (ℕ → ℕ → Type 0) → Option ℕ → Type 0
Answer bits In Before None = (j : ℕ) → In j → bits j ≡ false
Answer bits In Before (Some q) = First bits In Before q

-- of a search upwards through the bits from p on below e, and of one downwards through those below e
abbrev pub Lowest : (ℕ → Bool) → ℕ → ℕ → Option ℕ → Type 0
Lowest bits p e = Answer bits (λ j. (p ≤ j) × (j < e)) (λ j q. j < q)

abbrev pub Highest : (ℕ → Bool) → ℕ → Option ℕ → Type 0
Highest bits e = Answer bits (λ j. j < e) (λ j q. q < j)

-- the answer is the only one, where of two bits one comes before the other
module _ (bits : ℕ → Bool) (In : ℕ → Type 0) (Before : ℕ → ℕ → Type 0)
    (total : (q r : ℕ) → (Before q r → ⊥) → (Before r q → ⊥) → q ≡ r) where
  clash : (q : ℕ) → bits q ≡ true → bits q ≡ false → ⊥
  clash q s c = let z : ◌≡◌ {A = ℕ} 0 1 = cc in omega arith

  only : (a b : Option ℕ) → Answer bits In Before a → Answer bits In Before b → a ≡ b
  only None None x y = refl
  only None (Some r) x y = absurd (clash r y.here (x r y.inside))
  only (Some q) None x y = absurd (clash q x.here (y q x.inside))
  only (Some q) (Some r) x y =
      ap Some (total q r (λ b. clash q x.here (y.clear q x.inside b)) (λ b. clash r y.here (x.clear r y.inside b)))

-- a search looks at bit p first, and then goes on through the rest
module _ (bits : ℕ → Bool) (In Rest : ℕ → Type 0) (Before : ℕ → ℕ → Type 0) (p : ℕ) (inside : In p)
    (first : (j : ℕ) → In j → Before j p → ⊥) (rest : (j : ℕ) → In j → (j ≡ p → ⊥) → Rest j) (more : (j : ℕ) → Rest j → In j) where
  step : (o : Option ℕ) → Answer bits Rest Before o → Answer bits In Before (cond (bits p) (Some p) o)
  step o = go (bits p) refl o
    where
      passed : bits p ≡ false → (j : ℕ) → In j → (Rest j → bits j ≡ false) → bits j ≡ false
      passed s j i f = at (ℕ_discrete j p)
        where
          at : Dec (j ≡ p) → bits j ≡ false
          at (yes e) = rw e s
          at (no n) = f (rest j i n)

      go : (b : Bool) → bits p ≡ b → (o : Option ℕ) → Answer bits Rest Before o → Answer bits In Before (cond b (Some p) o)
      go true s o r = record { inside = inside; here = s; clear = λ j i b. absurd (first j i b) }
      go false s None r = λ j i. passed s j i (r j)
      go false s (Some q) r =
          record { inside = more q r.inside; here = r.here; clear = λ j i b. passed s j i (λ t. r.clear j t b) }

module _ (bits : ℕ → Bool) where
  lowest-found : (n p e : ℕ) → n ≡ e - p → Lowest bits p e (lowest bits n p)
  unfolding lowest
  lowest-found zero p e h = λ j i. absurd (omega arith)
  lowest-found (suc n) p e h =
      step bits (λ j. (p ≤ j) × (j < e)) (λ j. (suc p ≤ j) × (j < e)) (λ j q. j < q) p (omega arith, omega arith)
      (λ j i b. omega arith) (λ j i m. (omega arith, i.1)) (λ j r. (omega arith, r.1)) (lowest bits n (suc p))
      (lowest-found n (suc p) e (omega arith))

  highest-found : (e : ℕ) → Highest bits e (highest bits e)
  unfolding highest
  highest-found zero = λ j i. absurd (omega arith)
  highest-found (suc n) =
      step bits (λ j. j < suc n) (λ j. j < n) (λ j q. q < j) n (omega arith)
      (λ j i b. omega arith) (λ j i m. omega arith) (λ j r. omega arith) (highest bits n) (highest-found n)

  -- an answer is as described, and what is as described is the answer
  pub lowest-is : (p e : ℕ) (a : Option ℕ) → a ≡ lowest bits (e - p) p → Lowest bits p e a
  lowest-is p e a h = rw h (lowest-found (e - p) p e refl)

  pub lowest-only : (p e : ℕ) (a : Option ℕ) → Lowest bits p e a → a ≡ lowest bits (e - p) p
  lowest-only p e a x =
      only bits (λ j. (p ≤ j) × (j < e)) (λ j q. j < q) (λ q r m n. omega arith) a (lowest bits (e - p) p) x (lowest-is p e _ refl)

  pub highest-is : (e : ℕ) (a : Option ℕ) → a ≡ highest bits e → Highest bits e a
  highest-is e a h = rw h (highest-found e)

  pub highest-only : (e : ℕ) (a : Option ℕ) → Highest bits e a → a ≡ highest bits e
  highest-only e a x = only bits (λ j. j < e) (λ j q. q < j) (λ q r m n. omega arith) a (highest bits e) x (highest-found e)

  pub successor-is : (p : ℕ) (a : Option ℕ) → a ≡ successor bits p → Lowest bits p 4097 a
  unfolding successor
  successor-is p = lowest-is p 4097

  pub successor-only : (p : ℕ) (a : Option ℕ) → Lowest bits p 4097 a → a ≡ successor bits p
  unfolding successor
  successor-only p = lowest-only p 4097

  pub predecessor-is : (p : ℕ) (a : Option ℕ) → a ≡ predecessor bits p → Highest bits (suc p) a
  unfolding predecessor
  predecessor-is p = highest-is (suc p)

  pub predecessor-only : (p : ℕ) (a : Option ℕ) → Highest bits (suc p) a → a ≡ predecessor bits p
  unfolding predecessor
  predecessor-only p = highest-only (suc p)
