-- Where a call is not refused, none of its conditions applies. Assumes nothing.
use mathlib.Core.Path.{◌≡◌, refl}
use mathlib.Core.Option.{Option, none, some}
use mathlib.Core.List.{List, [], ◌∷◌}
use mathlib.Core.Bool.{Bool, true, false, cond, ◌&&◌, ◌||◌}
use Prim.Native.Nat.{ℕ}
use native.Mathlib.Omega.{arith}
use lib.Dec.{eqb}
use Rattle.causes.specs.declared.Cause.{Cause}
use Rattle.causes.specs.Causes.{refusal_of}
use Rattle.causes.specs.Order.{Condition, numbered, first_of}

-- whether a number stands in an order
abbrev pub among : ℕ → List ℕ → Bool
among number [] = false
among number (k ∷ order) = eqb number k || among number order

-- no condition applies whose cause stands in the order
abbrev pub AllFail : List ℕ → List Condition → Type 0
AllFail order [] = record {}
AllFail order (c ∷ cs) = (among (refusal_of c.cause).number order ≡ true → c.applies ≡ false) × AllFail order cs

abbrev FailAt : ℕ → List Condition → Type 0
FailAt k [] = record {}
FailAt k (c ∷ cs) = (eqb (refusal_of c.cause).number k ≡ true → c.applies ≡ false) × FailAt k cs

fail_at : (k : ℕ) (cs : List Condition) (later : Option Cause) → numbered k cs later ≡ none → FailAt k cs × (later ≡ none)
fail_at k [] later e = (record {}, e)
fail_at k (c ∷ cs) later e = go (eqb (refusal_of c.cause).number k) c.applies (fail_at k cs later) e
  where
    go : (a b : Bool) → (numbered k cs later ≡ none → FailAt k cs × (later ≡ none))
        → cond (a && b) (some c.cause) (numbered k cs later) ≡ none → ((a ≡ true → b ≡ false) × FailAt k cs) × (later ≡ none)
    go true true rest f = absurd (let z : ◌≡◌ {A = ℕ} 0 1 = cc in omega arith)
    go true false rest f = let r = rest f in ((λ _. refl, r.0), r.1)
    go false b rest f = let r = rest f in ((λ z. absurd (let y : ◌≡◌ {A = ℕ} 0 1 = cc in omega arith), r.0), r.1)

none-at : (cs : List Condition) → AllFail [] cs
none-at [] = record {}
none-at (c ∷ cs) = (λ z. absurd (let y : ◌≡◌ {A = ℕ} 0 1 = cc in omega arith), none-at cs)

both : (k : ℕ) (order : List ℕ) (cs : List Condition) → FailAt k cs → AllFail order cs → AllFail (k ∷ order) cs
both k order [] f g = record {}
both k order (c ∷ cs) f g = (go (eqb (refusal_of c.cause).number k) f.0, both k order cs f.1 g.1)
  where
    go : (a : Bool) → (a ≡ true → c.applies ≡ false) → a || among (refusal_of c.cause).number order ≡ true → c.applies ≡ false
    go true h e = h refl
    go false h e = g.0 e

pub none-applies : (order : List ℕ) (cs : List Condition) → first_of order cs ≡ none → AllFail order cs
none-applies [] cs e = none-at cs
none-applies (k ∷ order) cs e =
    let r = fail_at k cs (first_of order cs) e in
    both k order cs r.0 (none-applies order cs r.1)

-- a condition of two parts fails only if both do
pub neither : (a b : Bool) → a || b ≡ false → (a ≡ false) × (b ≡ false)
neither true b e = absurd (let z : ◌≡◌ {A = ℕ} 0 1 = cc in omega arith)
neither false b e = (refl, e)
