-- Lists and tests: what the laws of the table and of typing need and the library lacks.
use mathlib.Core.Path.{◌≡◌, refl, sym, ap, ◌∙◌}
use mathlib.Core.Logic.{◌⊎◌, inl, inr, ⊎_elim}
use mathlib.Core.List.{List, [], ◌∷◌, ◌++◌}
use mathlib.Core.Bool.{Bool, true, false, ◌&&◌, ◌||◌}
use Prim.Native.Nat.{ℕ, zero, suc, ◌-◌, ◌<◌}
use native.Mathlib.Nat.{eq-or-lt_of_le}
use native.Mathlib.Omega.{arith}
use lib.ListN.{length, get_or, take, drop, length-append, get_or-append}
use lib.Seq.{get_or_at, take_at, drop_at}
use Rattle.theory.specs.Lists.{tabulate}
use Rattle.theory.proofs.Lists.{true-false}

pub length-tabulate : (n : ℕ) (f : ℕ → ℕ) → length (tabulate n f) ≡ n
length-tabulate zero f = refl
length-tabulate (suc n) f = let h = length-tabulate n f in omega (arith, length-append (tabulate n f) (f n ∷ []))

pub get_d_tabulate : (n : ℕ) (f : ℕ → ℕ) (i d : ℕ) → i < n → get_or (tabulate n f) i d ≡ f i
get_d_tabulate zero f i d h = absurd (omega arith)
get_d_tabulate (suc n) f i d h = ⊎_elim at_last (λ l. before (omega arith) (get_d_tabulate n f i d (omega arith))) (eq-or-lt_of_le h)
  where
    at_last : suc i ≡ suc n → get_or (tabulate (suc n) f) i d ≡ f i
    at_last e = let n-is : n ≡ i = omega arith in rw n-is (get_or_at (tabulate i f) (f i) [] d i (length-tabulate i f))

    before : i < n → get_or (tabulate n f) i d ≡ f i → get_or (tabulate (suc n) f) i d ≡ f i
    before l ih = get_or-append (tabulate n f) (f n ∷ []) d i (omega (arith, length-tabulate n f)) ∙ ih

pub and-true : {a b : Bool} → a ≡ true → b ≡ true → a && b ≡ true
and-true e f = rw (e, f)

pub or_either : (a b : Bool) → a || b ≡ true → (a ≡ true) ⊎ (b ≡ true)
or_either true b e = inl refl
or_either false b e = inr e

pub or-true : (a b : Bool) → (a ≡ true) ⊎ (b ≡ true) → a || b ≡ true
or-true true b e = refl
or-true false b (inl e) = absurd (true-false (sym e))
or-true false b (inr e) = e

-- a list that is a and then b, cut where b begins
pub cut_left : (l a b : List ℕ) → l ≡ a ++ b → take (length l - length b) l ≡ a
cut_left l a b e = ap (λ (s : List ℕ). take (length s - length b) s) e ∙ take_at a b (length (a ++ b) - length b) (omega (arith, length-append a b))

pub cut_right : (l a b : List ℕ) → l ≡ a ++ b → drop (length l - length b) l ≡ b
cut_right l a b e = ap (λ (s : List ℕ). drop (length s - length b) s) e ∙ drop_at a b (length (a ++ b) - length b) (omega (arith, length-append a b))
