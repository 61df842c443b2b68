-- Lists: what the theory needs and the library lacks.
use mathlib.Core.Path.{◌≡◌, refl, sym, ap, ◌∙◌}
use mathlib.Core.List.{List, [], ◌∷◌, ◌++◌}
use mathlib.Core.Bool.{Bool, true, false, ◌&&◌}
use lib.Dec.{eqb, eqb_refl, eqb→eq, ltb, ltb→lt, lt→ltb, T}
use Prim.Native.Nat.{ℕ, ◌≤◌, ◌<◌}
use mathlib.Core.Logic.{◌⊎◌, inl, inr}
use native.Mathlib.Decide.{dec_lt}
use native.Mathlib.Omega.{arith}
use Rattle.theory.specs.Lists.{last_or, equal}

pub cons_head : {x y : ℕ} {s t : List ℕ} → x ∷ s ≡ y ∷ t → x ≡ y
cons_head e = cc

pub cons_tail : {x y : ℕ} {s t : List ℕ} → x ∷ s ≡ y ∷ t → s ≡ t
cons_tail e = cc

pub nil-cons : {x : ℕ} {s : List ℕ} → [] ≡ x ∷ s → ⊥
nil-cons e = let z : ◌≡◌ {A = ℕ} 0 1 = cc in omega arith

pub true-false : true ≡ false → ⊥
true-false e = let z : ◌≡◌ {A = ℕ} 0 1 = cc in omega arith

pub last_or_append : (d e : ℕ) (A B : List ℕ) → (B ≡ [] → ⊥) → last_or d (A ++ B) ≡ last_or e B
last_or_append d e [] [] h = absurd (h refl)
last_or_append d e [] (y ∷ B) h = refl
last_or_append d e (x ∷ A) B h = last_or_append x e A B h

pub snoc_last : (X Y : List ℕ) (c d : ℕ) → X ++ c ∷ [] ≡ Y ++ d ∷ [] → c ≡ d
snoc_last X Y c d e = sym (last_or_append 0 0 X (c ∷ []) (λ z. nil-cons (sym z))) ∙ ap (last_or 0) e ∙ last_or_append 0 0 Y (d ∷ []) (λ z. nil-cons (sym z))

pub lt_or_ge : (a b : ℕ) → (a < b) ⊎ (b ≤ a)
lt_or_ge a b = go (dec_lt a b)
  where
    go : Dec (a < b) → (a < b) ⊎ (b ≤ a)
    go (yes h) = inl h
    go (no h) = inr (omega arith)

pub bool_cases : {A : Type 0} (b : Bool) → (b ≡ true → A) → (b ≡ false → A) → A
bool_cases true f g = f refl
bool_cases false f g = g refl

pub snoc_view : (X : List ℕ) → (X ≡ []) ⊎ ((Y : List ℕ) × (x : ℕ) × (X ≡ Y ++ x ∷ []))
snoc_view [] = inl refl
snoc_view (z ∷ X) = inr (go (snoc_view X))
  where
    go : (X ≡ []) ⊎ ((Y : List ℕ) × (x : ℕ) × (X ≡ Y ++ x ∷ [])) → (Y : List ℕ) × (x : ℕ) × (z ∷ X ≡ Y ++ x ∷ [])
    go (inl e) = ([], z, ap {B = List ℕ} (λ l. z ∷ l) e)
    go (inr r) = (z ∷ r.0, r.1, ap {B = List ℕ} (λ l. z ∷ l) r.2)

pub two_snoc : (l r b : ℕ) (S : List ℕ) → l ∷ r ∷ [] ≡ S ++ b ∷ [] → (S ≡ l ∷ []) × (b ≡ r)
two_snoc l r b [] e = absurd (nil-cons (sym (cons_tail e)))
two_snoc l r b (s ∷ []) e = (ap (λ (z : ℕ). z ∷ []) (sym (cons_head e)), sym (cons_head (cons_tail e)))
two_snoc l r b (s ∷ s' ∷ []) e = absurd (nil-cons (cons_tail (cons_tail e)))
two_snoc l r b (s ∷ s' ∷ s'' ∷ S) e = absurd (nil-cons (cons_tail (cons_tail e)))

pub of_T : (b : Bool) → T b → b ≡ true
of_T true t = refl
of_T false t = absurd t

pub to-T : (b : Bool) → b ≡ true → T b
to-T true e = tt
to-T false e = absurd (true-false (sym e))

pub and_both : (a b : Bool) → a && b ≡ true → (a ≡ true) × (b ≡ true)
and_both true b e = (refl, e)
and_both false b e = absurd (true-false (sym e))

pub equal_eq : (s t : List ℕ) → equal s t ≡ true → s ≡ t
equal_eq [] [] e = refl
equal_eq [] (y ∷ t) e = absurd (true-false (sym e))
equal_eq (x ∷ s) [] e = absurd (true-false (sym e))
equal_eq (x ∷ s) (y ∷ t) e = let q = and_both (eqb x y) (equal s t) e in λ i. eqb→eq x y (to-T (eqb x y) q.0) i ∷ equal_eq s t q.1 i

pub equal_refl : (s : List ℕ) → equal s s ≡ true
equal_refl [] = refl
equal_refl (x ∷ s) = rw (of_T (eqb x x) (eqb_refl x), equal_refl s)

pub eqb_eq : (m n : ℕ) → m ≡ n → eqb m n ≡ true
eqb_eq m n e = rw e (of_T (eqb n n) (eqb_refl n))

pub eqb_ne : (m n : ℕ) → (m ≡ n → ⊥) → eqb m n ≡ false
eqb_ne m n h = bool_cases (eqb m n) (λ e. absurd (h (eqb→eq m n (to-T (eqb m n) e)))) (λ e. e)

pub ltb_lt : (m n : ℕ) → m < n → ltb m n ≡ true
ltb_lt m n h = of_T (ltb m n) (lt→ltb m n h)

pub ltb_ge : (m n : ℕ) → n ≤ m → ltb m n ≡ false
ltb_ge m n h = bool_cases (ltb m n) (λ e. let l = ltb→lt m n (to-T (ltb m n) e) in absurd (omega arith)) (λ e. e)
