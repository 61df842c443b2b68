-- The cases of a row's prefix and parts in form, and of both. Assumes nothing.
use mathlib.Core.Path.{◌≡◌}
use mathlib.Core.List.{List}
use mathlib.Core.Bool.{true, false, and-false, or-false}
use mathlib.Core.Logic.{◌⊎◌, inl, inr, ⊎_elim}
use Prim.Native.Nat.{ℕ, ◌+◌, ◌≤◌, ◌<◌}
use native.Mathlib.Decide.{dec_lt}
use native.Mathlib.Omega.{arith}
use lib.ListN.{get_or}
use lib.Dec.{ltb, eqb}
use borrow.Author.Tests.{eq-eqb, ne_eqb, lt-ltb, le-ltb}
use Rattle.theory.specs.Dictionary.{none}
use Rattle.tables.specs.InForm.{all_below, prefix_in_form, parts_in_form, row_in_form}
use Rattle.tables.proofs.Sweeps.{all_same}

module _ (n : ℕ) (size : ℕ → ℕ) (i p : ℕ) where
  pub prefix-beyond : n ≤ p → eqb p none ≡ prefix_in_form n size i p
  unfolding prefix_in_form
  prefix-beyond h = rw (le-ltb p n h, or-false)

  pub prefix-row : n ≤ 4096 → p < n → ltb (size p) (size i) ≡ prefix_in_form n size i p
  unfolding prefix_in_form
  prefix-row few h = rw (ne_eqb p none (λ e. omega arith), lt-ltb p n h)

module _ (size : ℕ → ℕ) (i l r : ℕ) where
  module _ (h : l < i) where
    pub right-high : i ≤ r → false ≡ parts_in_form size i l r
    unfolding parts_in_form
    right-high k = rw (ne_eqb l i (λ e. omega arith), lt-ltb l i h, le-ltb r i k)

    pub lower-parts : r < i → eqb (size l + size r) (size i) ≡ parts_in_form size i l r
    unfolding parts_in_form
    lower-parts k = rw (ne_eqb l i (λ e. omega arith), lt-ltb l i h, lt-ltb r i k)

  module _ (h : i ≤ l) where
    pub left_other : (l ≡ i → ⊥) → false ≡ parts_in_form size i l r
    unfolding parts_in_form
    left_other e = rw (ne_eqb l i e, le-ltb l i h)

    module _ (e : l ≡ i) where
      pub right-other : (r ≡ i → ⊥) → false ≡ parts_in_form size i l r
      unfolding parts_in_form
      right-other f = rw (eq-eqb l i e, ne_eqb r i f, le-ltb l i h)

      pub row_twice : r ≡ i → eqb (size i) 1 ≡ parts_in_form size i l r
      unfolding parts_in_form
      row_twice f = rw (eq-eqb l i e, eq-eqb r i f, le-ltb l i h, or-false)

module _ (n : ℕ) (size : ℕ → ℕ) (lefts rights prefixes : List ℕ) (i : ℕ) where
  pub prefix_out : false ≡ prefix_in_form n size i (get_or prefixes i 0) → row_in_form n size lefts rights prefixes i ≡ false
  unfolding row_in_form
  prefix_out e = rw (← e)

  pub parts_out : false ≡ parts_in_form size i (get_or lefts i 0) (get_or rights i 0) → row_in_form n size lefts rights prefixes i ≡ false
  unfolding row_in_form
  parts_out e = rw (← e, and-false)

  pub row_in : true ≡ prefix_in_form n size i (get_or prefixes i 0) → true ≡ parts_in_form size i (get_or lefts i 0) (get_or rights i 0)
      → row_in_form n size lefts rights prefixes i ≡ true
  unfolding row_in_form
  row_in e f = rw (← e, ← f)

lt_or_ge : (a b : ℕ) → (a < b) ⊎ (b ≤ a)
lt_or_ge a b = go (dec_lt a b)
  where
    go : Dec (a < b) → (a < b) ⊎ (b ≤ a)
    go (yes l) = inl l
    go (no g) = inr (omega arith)

-- only the lengths of the n rows count
module _ (n : ℕ) (f g : ℕ → ℕ) (same : (j : ℕ) → j < n → f j ≡ g j) where
  prefix_same : (i p : ℕ) → i < n → prefix_in_form n f i p ≡ prefix_in_form n g i p
  unfolding prefix_in_form
  prefix_same i p h = ⊎_elim (λ l. rw (same p l, same i h)) (λ l. rw (le-ltb p n l)) (lt_or_ge p n)

  parts_same : (i l r : ℕ) → i < n → parts_in_form f i l r ≡ parts_in_form g i l r
  unfolding parts_in_form
  parts_same i l r h =
      ⊎_elim
      (λ x. ⊎_elim (λ y. rw (same i h, same l (omega arith), same r (omega arith))) (λ y. rw (same i h, le-ltb r i y)) (lt_or_ge r i))
      (λ x. rw (same i h, le-ltb l i x))
      (lt_or_ge l i)

  pub rows_same : (lefts rights prefixes : List ℕ) → all_below n (row_in_form n f lefts rights prefixes) ≡ all_below n (row_in_form n g lefts rights prefixes)
  unfolding row_in_form
  rows_same lefts rights prefixes =
      all_same (row_in_form n f lefts rights prefixes) (row_in_form n g lefts rights prefixes) n
      (λ i h. rw (prefix_same i (get_or prefixes i 0) h, parts_same i (get_or lefts i 0) (get_or rights i 0) h))
