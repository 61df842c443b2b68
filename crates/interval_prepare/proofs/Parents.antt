-- The parent of each prefix by a table of rows: it is shorter, and behind true last codes it is the definition's. Two trees whose parents
-- agree up to m have the same numbers and ends. Assumes nothing.
use mathlib.Core.Path.{◌≡◌, refl, ap, ap₂, ◌∙◌}
use mathlib.Core.Logic.{⊎_elim}
use mathlib.Core.List.{List}
use Prim.Native.Nat.{ℕ, zero, suc, ◌+◌, ◌-◌, ◌≤◌, ◌<◌}
use native.Mathlib.Omega.{arith}
use lib.ListN.{length, get_or, take}
use lib.Dec.{eqb}
use Rattle.theory.specs.Table.{last_code}
use Rattle.theory.specs.Tree.{above_in, size_below, children_below, number_in, number, end, parent_of}
use Rattle.theory.proofs.Lists.{lt_or_ge, bool_cases, ltb_lt, ltb_ge}
use Rattle.built_tables.specs.Built.{dictionary_of}
use Rattle.end_code.specs.Tables.{RowReady}
use Rattle.end_code.proofs.Sizes.{row-some}
use Rattle.interval_prepare.specs.Steps.{parent_in, RowTable}

module _ (file places : List ℕ) (n m : ℕ) (codes : List ℕ) (R : RowTable file places n m codes) where
  pub row-ready : (i : ℕ) → 0 < i → i ≤ m → RowReady file places n (get_or codes (i - 1) 0)
  row-ready i z h = record { places_ready = R.places_ready; row = R.rows.rows (i - 1) (omega arith) }

  pub lower : (i : ℕ) → 0 < i → i ≤ m → parent_in file codes i < i
  unfolding parent_in
  lower i z h = omega (arith, row-some file places n (get_or codes (i - 1) 0) (row-ready i z h))

-- behind true last codes
pub parent-true : (file text codes : List ℕ) → ((i : ℕ) → i < length text → get_or codes i 0 ≡ last_code (dictionary_of file) (take (suc i) text))
    → (i : ℕ) → 0 < i → i ≤ length text → parent_in file codes i ≡ parent_of (dictionary_of file) text i
unfolding parent_in parent_of
parent-true file text codes true-codes i z h =
    let k : suc (i - 1) ≡ i = omega arith in
    ap (λ (c : ℕ). i - length ((dictionary_of file).bytes c)) (true-codes (i - 1) (omega arith) ∙ ap (λ (j : ℕ). last_code (dictionary_of file) (take j text)) k)

-- two trees whose parents agree up to m
module _ (f g : ℕ → ℕ) (m : ℕ) (low : (i : ℕ) → 0 < i → i ≤ m → f i < i) (same : (i : ℕ) → 0 < i → i ≤ m → f i ≡ g i) where
  above_same : (k p i : ℕ) → i ≤ m → above_in f k p i ≡ above_in g k p i
  above_same zero p i h = refl
  above_same (suc k) p i h = ⊎_elim
      (λ z. let w = low i z h in rw (above_same k p (f i) (omega arith), same i z h))
      (λ z. rw (ltb_ge 0 i z))
      (lt_or_ge 0 i)

  size_same : (p e : ℕ) → e ≤ suc m → size_below f p e ≡ size_below g p e
  size_same p zero h = refl
  size_same p (suc e) h = rw (size_same p e (omega arith), above_same e p e (omega arith))

  children_same : (q i : ℕ) → i ≤ suc m → children_below f m q i ≡ children_below g m q i
  children_same q zero h = refl
  children_same q (suc i) h = ⊎_elim
      (λ z. rw (children_same q i (omega arith), same i z (omega arith), ltb_lt 0 i z) (bool_cases (eqb (g i) q)
      (λ t. rw t (ap (λ (x : ℕ). children_below g m q i + x) (size_same i (suc m) (omega arith))))
      (λ t. rw t)))
      (λ z. rw (children_same q i (omega arith), ltb_ge 0 i z))
      (lt_or_ge 0 i)

  number_in_same : (k i : ℕ) → i ≤ m → number_in f m k i ≡ number_in g m k i
  number_in_same zero i h = refl
  number_in_same (suc k) zero h = refl
  number_in_same (suc k) (suc i) h =
      let w = low (suc i) (omega arith) h in
      let e = same (suc i) (omega arith) h in
      ap₂ (λ (x y : ℕ). x + 1 + y) (number_in_same k (f (suc i)) (omega arith)) (children_same (f (suc i)) (suc i) (omega arith))
      ∙ ap (λ (x : ℕ). number_in g m k x + 1 + children_below g m x (suc i)) e

  pub number_same : (i : ℕ) → i ≤ m → number f m i ≡ number g m i
  number_same i h = number_in_same i i h

  pub end_same : (i : ℕ) → i ≤ m → end f m i ≡ end g m i
  end_same i h = ap₂ (λ (x y : ℕ). x + y) (number_same i h) (size_same i (suc m) (omega arith))
