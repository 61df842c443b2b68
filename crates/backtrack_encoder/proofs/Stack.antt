-- The codes so far as a stack, and the rows to try. Assumes nothing.
use mathlib.Core.Path.{◌≡◌, refl, sym, ap, ap₂, ◌∙◌}
use mathlib.Core.List.{List, [], ◌∷◌, ◌++◌}
use mathlib.Core.Option.{some}
use mathlib.Core.Option as Option
use Prim.Native.Nat.{ℕ, zero, suc, ◌+◌, ◌-◌, ◌≤◌, ◌<◌}
use native.Mathlib.Numerals.{add-one}
use native.Mathlib.Omega.{arith}
use lib.ListN.{length, get_or, take, set}
use lib.Seq.{take-suc, get_or-set_same, get_or-set_other}
use borrow.Author.Tests.{ne_eqb}
use Rattle.theory.specs.Dictionary.{Dictionary, none}
use Rattle.theory.specs.Parts as Parts
use Rattle.theory.specs.Backtracking.{codes}
use Rattle.backtrack_encoder.specs.Encoder.{stack_of, to_try}
use Rattle.backtrack_encoder.specs.Steps.{row_or}

module _ (work : List ℕ) where
  pub stack-nil : stack_of work 0 ≡ []
  unfolding stack_of
  stack-nil = refl

  stack-cons : (k : ℕ) → stack_of work (suc k) ≡ get_or work k 0 ∷ stack_of work k
  unfolding stack_of
  stack-cons k = refl

  pub stack-last : (k : ℕ) → (k ≡ 0 → ⊥) → stack_of work k ≡ get_or work (k - 1) 0 ∷ stack_of work (k - 1)
  stack-last k h = let e : k ≡ suc (k - 1) = omega arith in ap (stack_of work) e ∙ stack-cons (k - 1)

  pub stack-length : (k : ℕ) → length (stack_of work k) ≡ k
  stack-length zero = ap length stack-nil
  stack-length (suc k) = ap length (stack-cons k) ∙ ap suc (stack-length k)

  -- in the text's order they are the first numbers of the work buffer
  pub stack-codes : (k : ℕ) → k ≤ length work → codes (stack_of work k) ≡ take k work
  stack-codes zero h = ap codes stack-nil
  stack-codes (suc k) h =
      ap codes (stack-cons k) ∙ ap (λ (l : List ℕ). l ++ get_or work k 0 ∷ []) (stack-codes k (omega arith)) ∙ sym (take-suc work k 0 (omega arith))

-- what is written behind the codes does not matter
pub stack_set : (work : List ℕ) (i c k : ℕ) → k ≤ i → stack_of (set work i c) k ≡ stack_of work k
stack_set work i c zero h = stack-nil (set work i c) ∙ sym (stack-nil work)
stack_set work i c (suc k) h =
    stack-cons (set work i c) k
    ∙ ap₂ (λ (x : ℕ) (l : List ℕ). x ∷ l) (get_or-set_other work i k c 0 (λ e. omega arith)) (stack_set work i c k (omega arith))
    ∙ sym (stack-cons work k)

-- a code is written behind them
pub stack_push : (work : List ℕ) (c k : ℕ) → k < length work → stack_of (set work k c) (k + 1) ≡ c ∷ stack_of work k
stack_push work c k h =
    ap (stack_of (set work k c)) (add-one k)
    ∙ stack-cons (set work k c) k
    ∙ ap₂ (λ (x : ℕ) (l : List ℕ). x ∷ l) (get_or-set_same work k c 0 h) (stack_set work k c k (omega arith))

pub try_none : (D : Dictionary) → to_try D none ≡ []
unfolding to_try
try_none D = refl

pub try_row : (D : Dictionary) (c : ℕ) → (c ≡ none → ⊥) → to_try D c ≡ c ∷ Parts.prefixes D c
unfolding to_try
try_row D c h = rw (ne_eqb c none h, to_try)

pub row-none : row_or none ≡ Option.none
unfolding row_or
row-none = refl

pub row-some : (c : ℕ) → (c ≡ none → ⊥) → row_or c ≡ some c
unfolding row_or
row-some c h = rw (ne_eqb c none h, row_or)
