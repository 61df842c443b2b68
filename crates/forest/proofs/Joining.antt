-- A set of rows with one more row. Assumes nothing.
use mathlib.Core.Path.{◌≡◌, refl, ap, ◌∙◌}
use mathlib.Core.Logic.{◌⊎◌, inl, inr, ⊎_elim}
use mathlib.Core.Bool.{Bool, true, false, ◌||◌}
use Prim.Native.Nat.{ℕ, zero, suc, ◌≤◌, ◌<◌}
use native.Mathlib.Decide.{dec_lt}
use native.Mathlib.Omega.{arith}
use lib.Dec.{eqb}
use borrow.Author.Tests.{eq-eqb, ne_eqb, eqb-true}
use Rattle.forest.specs.Words.{In, count}
use Rattle.forest.specs.Growth.{with_row}

or_cases : (a b : Bool) → a || b ≡ true → (a ≡ true) ⊎ (b ≡ true)
or_cases true b e = inl refl
or_cases false b e = inr e

or_right : (a b : Bool) → b ≡ true → a || b ≡ true
or_right true b e = refl
or_right false b e = e

module _ (S : ℕ → Bool) (c : ℕ) where
  pub with_in : (d : ℕ) → In (with_row S c) d → (d ≡ c) ⊎ In S d
  with_in d e = ⊎_elim (λ z. inl (eqb-true d c z)) (λ z. inr z) (or_cases (eqb d c) (S d) e)

  pub with_old : (d : ℕ) → In S d → In (with_row S c) d
  with_old d s = or_right (eqb d c) (S d) s

  pub with_new : In (with_row S c) c
  with_new = rw (eq-eqb c c refl)

  with_other : (d : ℕ) → (d ≡ c → ⊥) → with_row S c d ≡ S d
  with_other d h = rw (ne_eqb d c h)

  count_same : (n : ℕ) → n ≤ c → count (with_row S c) n ≡ count S n
  count_same zero h = refl
  count_same (suc n) h = go (S n) refl (count_same n (omega arith)) (with_other n (λ e. omega arith))
    where
      go : (b : Bool) → S n ≡ b → count (with_row S c) n ≡ count S n → with_row S c n ≡ S n → count (with_row S c) (suc n) ≡ count S (suc n)
      go true e ih w = rw (w ∙ e, e, count) (ap suc ih)
      go false e ih w = rw (w ∙ e, e, count) ih

  pub count-more : (n : ℕ) → c < n → S c ≡ false → count (with_row S c) n ≡ suc (count S n)
  count-more zero h f = absurd (omega arith)
  count-more (suc n) h f = go (dec_lt c n) (S n) refl (λ l. count-more n l f)
    where
      go : Dec (c < n) → (b : Bool) → S n ≡ b → (c < n → count (with_row S c) n ≡ suc (count S n)) → count (with_row S c) (suc n) ≡ suc (count S (suc n))
      go (yes l) true e ih = rw (with_other n (λ z. omega arith) ∙ e, e, count) (ap suc (ih l))
      go (yes l) false e ih = rw (with_other n (λ z. omega arith) ∙ e, e, count) (ih l)
      go (no l) b e ih =
          let z : n ≡ c = omega arith in
          let w : with_row S c n ≡ true = ap (with_row S c) z ∙ with_new in
          let v : S n ≡ false = ap S z ∙ f in
          rw (w, v, count) (ap suc (count_same n (omega arith)))
