-- Which code ends a text where bytes are typed, C2 with the side as a parameter: it is the one row that ends the typed bytes and passes
-- beside the end code of the bytes before it, and the codes are those of the bytes before it and this one.
use mathlib.Core.Path.{◌≡◌, refl, sym, ap, subst, ◌∙◌}
use mathlib.Core.Logic.{◌⊎◌, inl, inr, ⊎_elim}
use mathlib.Core.List.{List, [], ◌∷◌, ◌++◌, reverse, reverse-cons, reverse-append, reverse-reverse}
use mathlib.Core.Bool.{true}
use Prim.Native.Nat.{ℕ, suc, ◌<◌}
use native.Mathlib.Omega.{arith}
use lib.ListN.{length, take, drop, length-append, length-reverse, take-append-drop}
use Rattle.theory.specs.Lists.{first_or, last_or}
use Rattle.theory.specs.Dictionary.{Dictionary, none, spell, AllRows, KnownText}
use Rattle.theory.specs.Merge.{encode}
use Rattle.theory.specs.PairCheck.{AllPass}
use Rattle.theory.specs.Typing.{Side, append, prepend, in_order, end_code, passes_beside, Ends}
use Rattle.theory.proofs.Lists.{nil-cons, last_or_append, snoc_view}
use Rattle.theory.proofs.PairCheck.{Lawful}
use Rattle.theory.proofs.Neighbours.{spell_snoc}
use Rattle.theory.proofs.Encode.{encode-passes, encode-spells, encode-rows, encode-nil, encode-parts, encode-append, encode-prepend}

-- a code list with one more code where bytes are typed
abbrev pub with_code : Side → List ℕ → ℕ → List ℕ
with_code append X c = X ++ c ∷ []
with_code prepend X c = c ∷ X

pub end_code_with : (side : Side) (X : List ℕ) (c : ℕ) → end_code side (with_code side X c) ≡ c
end_code_with append X c = last_or_append none none X (c ∷ []) (λ e. nil-cons (sym e))
end_code_with prepend X c = refl

pub length_with : (side : Side) (X : List ℕ) (c : ℕ) → length (with_code side X c) ≡ suc (length X)
length_with append X c = omega (arith, length-append X (c ∷ []))
length_with prepend X c = refl

-- a list that has a code has one there
pub with_view : (side : Side) (X : List ℕ) → (X ≡ []) ⊎ ((Y : List ℕ) × (c : ℕ) × (X ≡ with_code side Y c))
with_view append X = snoc_view X
with_view prepend [] = inl refl
with_view prepend (c ∷ Y) = inr (Y, c, refl)

pub in_order_twice : (side : Side) (s : List ℕ) → in_order side (in_order side s) ≡ s
in_order_twice append s = refl
in_order_twice prepend s = reverse-reverse s

pub in_order-nil : (side : Side) → in_order side [] ≡ []
in_order-nil append = refl
in_order-nil prepend = refl

pub length-in_order : (side : Side) (s : List ℕ) → length (in_order side s) ≡ length s
length-in_order append s = refl
length-in_order prepend s = length-reverse s

-- the end code of a list that has one does not depend on the default
abbrev end_or : Side → ℕ → List ℕ → ℕ
end_or append d L = last_or d L
end_or prepend d L = first_or d L

any_default : (side : Side) (d : ℕ) (L : List ℕ) → (L ≡ []) ⊎ (end_code side L ≡ end_or side d L)
any_default append d [] = inl refl
any_default append d (x ∷ L) = inr refl
any_default prepend d [] = inl refl
any_default prepend d (x ∷ L) = inr refl

module _ (D : Dictionary) where
  known-append : (s u : List ℕ) → KnownText D s → KnownText D u → KnownText D (s ++ u)
  known-append [] u h k = k
  known-append (b ∷ s) u h k = (h.0, known-append s u h.1 k)

  known-left : (s u : List ℕ) → KnownText D (s ++ u) → KnownText D s
  known-left [] u h = tt
  known-left (b ∷ s) u h = (h.0, known-left s u h.1)

  pub known-take : (n : ℕ) (s : List ℕ) → KnownText D s → KnownText D (take n s)
  known-take n s h = known-left (take n s) (drop n s) (rw take-append-drop h)

  pub known-in_order : (side : Side) (s : List ℕ) → KnownText D s → KnownText D (in_order side s)
  known-in_order append s h = h
  known-in_order prepend [] h = tt
  known-in_order prepend (b ∷ s) h = rw reverse-cons (known-append (reverse s) (b ∷ []) (known-in_order prepend s h.1) (h.0, tt))

  -- what the code there is known to be
  row_with : (side : Side) (Y : List ℕ) (c : ℕ) → AllRows D (with_code side Y c) → c < D.count
  row_with append [] c a = a.0
  row_with append (y ∷ Y) c a = row_with append Y c a.1
  row_with prepend Y c a = a.0

  passes_with : (side : Side) (Y : List ℕ) (c : ℕ) → AllPass D (with_code side Y c) → (Y ≡ []) ⊎ (passes_beside D side (end_code side Y) c ≡ true)
  passes_with append [] c a = inl refl
  passes_with append (x ∷ []) c a = inr a.1
  passes_with append (x ∷ y ∷ Y) c a = ⊎_elim (λ e. absurd (nil-cons (sym e))) inr (passes_with append (y ∷ Y) c a.2)
  passes_with prepend [] c a = inl refl
  passes_with prepend (y ∷ Y) c a = inr a.1

  spell_with : (side : Side) (Y : List ℕ) (c : ℕ) → in_order side (spell D (with_code side Y c)) ≡ in_order side (spell D Y) ++ in_order side (D.bytes c)
  spell_with append Y c = spell_snoc D Y c
  spell_with prepend Y c = reverse-append (D.bytes c) (spell D Y)

  module _ (A : Lawful D) where
    -- a row has one byte or more
    pub empty-text : (t : List ℕ) → encode D t ≡ [] → t ≡ []
    empty-text t e = sym (encode-spells D A t) ∙ ap (spell D) e

    parts_with : (side : Side) (t Y : List ℕ) (c : ℕ) → encode D t ≡ with_code side Y c → encode D (spell D Y) ≡ Y
    parts_with append t Y c e = (encode-parts D A t Y (c ∷ []) e).0
    parts_with prepend t Y c e = (encode-parts D A t (c ∷ []) Y e).1

    -- C2 and its mirror
    one_more : (side : Side) (a : List ℕ) (c : ℕ) → KnownText D (in_order side a) → c < D.count
        → (in_order side a ≡ []) ⊎ (passes_beside D side (end_or side c (encode D (in_order side a))) c ≡ true)
        → encode D (in_order side (a ++ in_order side (D.bytes c))) ≡ with_code side (encode D (in_order side a)) c
    one_more append a c k h f = encode-append D A a c k h f
    one_more prepend a c k h f = rw (reverse-append, reverse-reverse) (encode-prepend D A c (reverse a) k h f)

    -- the codes are those of the typed bytes before the row, and the row
    pub codes_with_lem : (side : Side) (s : List ℕ) (c : ℕ) → KnownText D s → (e : Ends D side s c) → encode D (in_order side s) ≡ with_code side (encode D (in_order side e.before)) c
    codes_with_lem side s c k e = ap (λ (l : List ℕ). encode D (in_order side l)) e.text ∙ one_more side a c (known-in_order side a known) e.row (⊎_elim none_before beside e.follows)
      where
        a : List ℕ
        a = e.before

        known : KnownText D a
        known = known-left a (in_order side (D.bytes c)) (subst (λ (l : List ℕ). KnownText D l) e.text k)

        Premise : Type 0
        Premise = (in_order side a ≡ []) ⊎ (passes_beside D side (end_or side c (encode D (in_order side a))) c ≡ true)

        none_before : a ≡ [] → Premise
        none_before z = inl (ap (in_order side) z ∙ in_order-nil side)

        beside : passes_beside D side (end_code side (encode D (in_order side a))) c ≡ true → Premise
        beside p = ⊎_elim (λ z. inl (empty-text (in_order side a) z)) (λ z. inr (rw (← z) p)) (any_default side c (encode D (in_order side a)))

    -- uniqueness
    pub one_end : (side : Side) (s : List ℕ) (c : ℕ) → KnownText D s → Ends D side s c → c ≡ end_code side (encode D (in_order side s))
    one_end side s c k e = sym (ap (end_code side) (codes_with_lem side s c k e) ∙ end_code_with side (encode D (in_order side e.before)) c)

    -- the count: one more than that of the bytes before, which is 1 where there are none
    pub one_more_code : (side : Side) (s : List ℕ) (c : ℕ) → KnownText D s → (e : Ends D side s c) → length (encode D (in_order side s)) ≡ suc (length (encode D (in_order side e.before)))
    one_more_code side s c k e = ap (length {A = ℕ}) (codes_with_lem side s c k e) ∙ length_with side (encode D (in_order side e.before)) c

    pub one_code : (side : Side) (s : List ℕ) (c : ℕ) → KnownText D s → (e : Ends D side s c) → e.before ≡ [] → length (encode D (in_order side s)) ≡ 1
    one_code side s c k e z = one_more_code side s c k e ∙ (rw (z, in_order-nil side, encode-nil D A))

    -- existence
    pub end-code : (side : Side) (s : List ℕ) → KnownText D s → (s ≡ [] → ⊥) → Ends D side s (end_code side (encode D (in_order side s)))
    end-code side s k h = ⊎_elim nothing found (with_view side (encode D (in_order side s)))
      where
        t : List ℕ
        t = in_order side s

        nothing : encode D t ≡ [] → Ends D side s (end_code side (encode D t))
        nothing e = absurd (h (sym (in_order_twice side s) ∙ ap (in_order side) (empty-text t e) ∙ in_order-nil side))

        found : (Y : List ℕ) × (c : ℕ) × (encode D t ≡ with_code side Y c) → Ends D side s (end_code side (encode D t))
        found r = subst (λ (c : ℕ). Ends D side s c) (sym (ap (end_code side) e ∙ end_code_with side Y c)) ended
          where
            Y : List ℕ
            Y = r.0

            c : ℕ
            c = r.1

            e : encode D t ≡ with_code side Y c
            e = r.2

            checked : AllPass D (with_code side Y c)
            checked = subst (λ (L : List ℕ). AllPass D L) e (encode-passes D A t (known-in_order side s k))

            codes-before : encode D (in_order side (in_order side (spell D Y))) ≡ Y
            codes-before = ap (encode D) (in_order_twice side (spell D Y)) ∙ parts_with side t Y c e

            ended : Ends D side s c
            ended = record {
              before = in_order side (spell D Y);
              row = row_with side Y c (subst (λ (L : List ℕ). AllRows D L) e (encode-rows D A t (known-in_order side s k)));
              text = sym (in_order_twice side s) ∙ ap (in_order side) (sym (encode-spells D A t) ∙ ap (spell D) e) ∙ spell_with side Y c;
              follows = ⊎_elim (λ z. inl (ap (λ (L : List ℕ). in_order side (spell D L)) z ∙ in_order-nil side)) (λ p. inr (rw codes-before p)) (passes_with side Y c checked);
            }
