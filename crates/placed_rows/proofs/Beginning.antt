-- Laws of texts that begin others. Assumes nothing.
use mathlib.Core.Path.{◌≡◌, refl, sym, ap, ◌∙◌}
use mathlib.Core.List.{List, [], ◌∷◌, ◌++◌, append_assoc, append-nil}
use mathlib.Core.Bool.{Bool, true, false, ◌&&◌}
use Prim.Native.Nat.{ℕ, ◌+◌, ◌≤◌, ◌<◌}
use native.Mathlib.Numerals.{add-one}
use native.Mathlib.Omega.{arith}
use lib.ListN.{length, length-append, get_or, drop, drop_of_length-le, take}
use lib.Seq.{drop-cons, drop-append_seam}
use lib.Dec.{eqb}
use lib.Pointwise.{pointwise}
use borrow.Author.Tests.{eq-eqb, ne_eqb, eqb-true}
use Rattle.placed_rows.specs.Texts.{Begins, begins}

pub true-false : true ≡ false → ⊥
true-false e = let z : ◌≡◌ {A = ℕ} 0 1 = cc in omega arith

pub and_both : (a b : Bool) → a && b ≡ true → (a ≡ true) × (b ≡ true)
and_both true b e = (refl, e)
and_both false b e = absurd (true-false (sym e))

-- two tests that hold together are the same
pub iff : (p q : Bool) → (p ≡ true → q ≡ true) → (q ≡ true → p ≡ true) → p ≡ q
iff true q f g = sym (f refl)
iff false true f g = g refl
iff false false f g = refl

pub no_true : (p : Bool) → (p ≡ true → ⊥) → p ≡ false
no_true true f = absurd (f refl)
no_true false f = refl

-- the test and the split
pub begins-split : (p t : List ℕ) → begins p t ≡ true → Begins p t
unfolding begins
begins-split [] t e = record { rest = t; split = refl }
begins-split (x ∷ p) [] e = absurd (true-false (sym e))
begins-split (x ∷ p) (y ∷ t) e =
    let q = and_both (eqb x y) (begins p t) e in
    let b = begins-split p t q.1 in
    let h = eqb-true x y q.0 in
    record { rest = b.rest; split = λ i. sym h i ∷ b.split i }

pub begins-append : (p s : List ℕ) → begins p (p ++ s) ≡ true
unfolding begins
begins-append [] s = refl
begins-append (x ∷ p) s = rw (eq-eqb x x refl) (begins-append p s)

pub split-begins : (p t : List ℕ) → Begins p t → begins p t ≡ true
split-begins p t b = rw b.split (begins-append p b.rest)

pub begins-length : (p t : List ℕ) → Begins p t → length p ≤ length t
begins-length p t b = omega (arith, ap length b.split, length-append p b.rest)

pub begins-long : (p t : List ℕ) → length t < length p → begins p t ≡ false
begins-long p t h = no_true (begins p t) (λ e. let k = begins-length p t (begins-split p t e) in omega arith)

-- the test, byte by byte
pub begins-more : (p t : List ℕ) (j : ℕ) → j < length p → j < length t → get_or p j 0 ≡ get_or t j 0
    → begins (drop j p) (drop j t) ≡ begins (drop (j + 1) p) (drop (j + 1) t)
unfolding begins
begins-more p t j h k e = rw (add-one, drop-cons p j 0 h, drop-cons t j 0 k) (rw (eq-eqb (get_or p j 0) (get_or t j 0) e))

pub begins_miss : (p t : List ℕ) (j : ℕ) → j < length p → j < length t → (get_or p j 0 ≡ get_or t j 0 → ⊥)
    → begins (drop j p) (drop j t) ≡ false
unfolding begins
begins_miss p t j h k e = rw (drop-cons p j 0 h, drop-cons t j 0 k) (rw (ne_eqb (get_or p j 0) (get_or t j 0) e))

pub begins-end : (p t : List ℕ) (j : ℕ) → length p ≤ j → begins (drop j p) t ≡ true
unfolding begins
begins-end p t j h = rw (drop_of_length-le p {i = j} h)

-- the library's test of the slice that p begins
pub begins-pointwise : (p t : List ℕ) → pointwise eqb p (take (length p) t) ≡ begins p t
unfolding begins
begins-pointwise [] t = refl
begins-pointwise (x ∷ p) [] = refl
begins-pointwise (x ∷ p) (y ∷ t) = ap (λ (b : Bool). eqb x y && b) (begins-pointwise p t)

-- one byte decides where there is one
pub begins-first : (p t : List ℕ) → length p ≡ 1 → 0 < length t → get_or p 0 0 ≡ get_or t 0 0 → begins p t ≡ true
unfolding begins
begins-first [] t l h e = absurd (omega arith)
begins-first (x ∷ []) [] l h e = absurd (omega arith)
begins-first (x ∷ []) (y ∷ t) l h e = rw (eq-eqb x y e)
begins-first (x ∷ x' ∷ p) t l h e = absurd (omega arith)

pub through : (a b c : List ℕ) → Begins a b → Begins b c → Begins a c
through a b c x y = record { rest = x.rest ++ y.rest; split = y.split ∙ ap (λ (l : List ℕ). l ++ y.rest) x.split ∙ append_assoc a x.rest y.rest }

both-split : (a b s u : List ℕ) → a ++ s ≡ b ++ u → length a ≤ length b → Begins a b
both-split [] b s u e h = record { rest = b; split = refl }
both-split (x ∷ a) [] s u e h = absurd (omega arith)
both-split (x ∷ a) (y ∷ b) s u e h =
    let r = both-split a b s u (cc) (omega arith) in
    let q : y ≡ x = cc in
    record { rest = r.rest; split = λ i. q i ∷ r.split i }

-- of two that begin one text, the shorter begins the longer
pub both : (a b t : List ℕ) → Begins a t → Begins b t → length a ≤ length b → Begins a b
both a b t x y h = both-split a b x.rest y.rest (sym x.split ∙ y.split) h

pub empty : (l : List ℕ) → length l ≡ 0 → l ≡ []
empty [] e = refl
empty (x ∷ l) e = absurd (omega arith)

pub same_length : (a b : List ℕ) → Begins a b → length a ≡ length b → a ≡ b
same_length a b x h =
    let k : length x.rest ≡ 0 = omega (arith, ap length x.split, length-append a x.rest) in
    sym (x.split ∙ ap (λ (l : List ℕ). a ++ l) (empty x.rest k) ∙ append-nil a)

pub whole : (a : List ℕ) → Begins a a
whole a = record { rest = []; split = sym (append-nil a) }

-- what is left of b beyond a
pub beyond : (a b : List ℕ) (x : Begins a b) → drop (length a) b ≡ x.rest
beyond a b x = ap (λ (l : List ℕ). drop (length a) l) x.split ∙ drop-append_seam a x.rest

pub cancel : (a s t : List ℕ) → a ++ s ≡ a ++ t → s ≡ t
cancel [] s t e = e
cancel (x ∷ a) s t e = cancel a s t (cc)
