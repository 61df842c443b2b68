-- Laws of the tests over whole lists: two lists are equal, a test holds of every number below n. Assumes nothing.
use mathlib.Core.Path.{◌≡◌, refl, sym, ap, ◌∙◌}
use mathlib.Core.List.{List}
use mathlib.Core.Bool.{Bool, true, false}
use mathlib.Core.Logic.{⊎_elim}
use Prim.Native.Nat.{ℕ, zero, suc, ◌+◌, ◌≤◌, ◌<◌}
use native.Mathlib.Nat.{eq-or-lt_of_le}
use native.Mathlib.Numerals.{add-one}
use native.Mathlib.Omega.{arith}
use Rattle.placed_rows.proofs.Beginning.{and_both, no_true, true-false}
use Rattle.theory.specs.Lists.{equal}
use Rattle.theory.proofs.Lists.{equal_refl}
use Rattle.tables.specs.InForm.{all_below}

pub equal-same : (s t : List ℕ) → s ≡ t → equal s t ≡ true
equal-same s t e = rw e (equal_refl t)

module _ (test : ℕ → Bool) where
  pub all_more : (i : ℕ) → all_below i test ≡ true → test i ≡ true → all_below (i + 1) test ≡ true
  unfolding all_below
  all_more i e f = rw (add-one, e) f

  pub all-each : (n : ℕ) → all_below n test ≡ true → (i : ℕ) → i < n → test i ≡ true
  unfolding all_below
  all-each zero e i h = absurd (omega arith)
  all-each (suc n) e i h =
      let q = and_both (all_below n test) (test n) e in
      let l : i ≤ n = omega arith in
      ⊎_elim (λ z. rw z q.1) (λ k. all-each n q.0 i k) (eq-or-lt_of_le l)

  pub each_all : (n : ℕ) → ((i : ℕ) → i < n → test i ≡ true) → all_below n test ≡ true
  unfolding all_below
  each_all zero h = refl
  each_all (suc n) h = rw (each_all n (λ i l. h i (omega arith))) (h n (omega arith))

  pub all_done : (n i : ℕ) → i ≤ n → n ≤ i → all_below i test ≡ true → true ≡ all_below n test
  all_done n i l h e = let z : n ≡ i = omega arith in sym (ap (λ (k : ℕ). all_below k test) z ∙ e)

  pub all-fails : (n i : ℕ) → i < n → test i ≡ false → false ≡ all_below n test
  all-fails n i h e = sym (no_true (all_below n test) (λ a. true-false (sym (all-each n a i h) ∙ e)))

pub all_same : (f g : ℕ → Bool) (n : ℕ) → ((i : ℕ) → i < n → f i ≡ g i) → all_below n f ≡ all_below n g
unfolding all_below
all_same f g zero h = refl
all_same f g (suc n) h = rw (all_same f g n (λ i l. h i (omega arith)), h n (omega arith))
