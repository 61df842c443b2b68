-- One left-to-right pass, over any test of two neighbours.
use mathlib.Core.Path.{◌≡◌, refl, sym, ap, ◌∙◌}
use mathlib.Core.List.{List, [], ◌∷◌, ◌++◌}
use mathlib.Core.Bool.{Bool, true, false}
use Prim.Native.Nat.{ℕ}
use Rattle.theory.proofs.Lists.{cons_head, cons_tail, nil-cons, true-false}
use Rattle.theory.specs.Lists.{last_or}
use Rattle.theory.specs.Paper.{pass}

module _ (p : ℕ) (meets : ℕ → ℕ → Bool) where
  pub pass-hit : (x y : ℕ) (t : List ℕ) → meets x y ≡ true → pass p meets (x ∷ y ∷ t) ≡ p ∷ pass p meets t
  pass-hit x y t e = rw (e, pass)

  pub pass_miss : (x y : ℕ) (t : List ℕ) → meets x y ≡ false → pass p meets (x ∷ y ∷ t) ≡ x ∷ pass p meets (y ∷ t)
  pass_miss x y t e = rw (e, pass)

  pub record Split (S X Y : List ℕ) : Type 0 where
    pub fst : List ℕ
    pub snd : List ℕ
    pub cut : S ≡ fst ++ snd
    pub left : pass p meets fst ≡ X
    pub right : pass p meets snd ≡ Y

  keep : (s s' : ℕ) (t A B : List ℕ) → s' ∷ t ≡ A ++ B → meets s s' ≡ false → pass p meets (s ∷ A) ≡ s ∷ pass p meets A
  keep s s' t [] B e h = refl
  keep s s' t (a ∷ A) B e h = pass_miss s a A (ap (meets s) (sym (cons_head e)) ∙ h)

  -- L2, L3: a split of the pass p meets is a split of what it passed over
  pub split : (S X Y : List ℕ) → pass p meets S ≡ X ++ Y → Split S X Y
  split S [] Y e = record { fst = []; snd = S; cut = refl; left = refl; right = e }
  split [] (x ∷ X) Y e = absurd (nil-cons e)
  split (s ∷ []) (x ∷ []) Y e = record { fst = s ∷ []; snd = []; cut = refl; left = ap (λ (z : ℕ). z ∷ []) (cons_head e); right = cons_tail e }
  split (s ∷ []) (x ∷ x' ∷ X) Y e = absurd (nil-cons (cons_tail e))
  split (s ∷ s' ∷ t) (x ∷ X) Y e = go (meets s s') refl (λ e. split t X Y e) (λ e. split (s' ∷ t) X Y e)
    where
      go : (b : Bool) → meets s s' ≡ b → (pass p meets t ≡ X ++ Y → Split t X Y) → (pass p meets (s' ∷ t) ≡ X ++ Y → Split (s' ∷ t) X Y) → Split (s ∷ s' ∷ t) (x ∷ X) Y
      go true h f g =
          let e' : p ∷ pass p meets t ≡ x ∷ (X ++ Y) = sym (pass-hit s s' t h) ∙ e in
          let q = f (cons_tail e') in
          record { fst = s ∷ s' ∷ q.fst; snd = q.snd; cut = ap {B = List ℕ} (λ l. s ∷ s' ∷ l) q.cut; left = pass-hit s s' q.fst h ∙ (λ i. cons_head e' i ∷ q.left i); right = q.right }
      go false h f g =
          let e' : s ∷ pass p meets (s' ∷ t) ≡ x ∷ (X ++ Y) = sym (pass_miss s s' t h) ∙ e in
          let q = g (cons_tail e') in
          record { fst = s ∷ q.fst; snd = q.snd; cut = ap {B = List ℕ} (λ l. s ∷ l) q.cut; left = keep s s' t q.fst q.snd q.cut h ∙ (λ i. cons_head e' i ∷ q.left i); right = q.right }

  -- the test at the seam of two lists: the last of the one, the first of the other
  abbrev pub meet : ℕ → List ℕ → Bool
  meet x [] = false
  meet x (y ∷ B) = meets x y

  abbrev pub seam : List ℕ → List ℕ → Bool
  seam X B = meet (last_or p X) B

  last-pass : (d d' y : ℕ) (t : List ℕ) → last_or d (pass p meets (y ∷ t)) ≡ last_or d' (pass p meets (y ∷ t))
  last-pass d d' y [] = refl
  last-pass d d' y (z ∷ t) = go (meets y z) refl
    where
      go : (b : Bool) → meets y z ≡ b → last_or d (pass p meets (y ∷ z ∷ t)) ≡ last_or d' (pass p meets (y ∷ z ∷ t))
      go true h = rw (pass-hit y z t h)
      go false h = rw (pass_miss y z t h)

  -- L2, conversely
  pub join-pass : (A B : List ℕ) → seam (pass p meets A) B ≡ false → pass p meets (A ++ B) ≡ pass p meets A ++ pass p meets B
  join-pass [] B e = refl
  join-pass (x ∷ []) [] e = refl
  join-pass (x ∷ []) (y ∷ B) e = pass_miss x y B e
  join-pass (x ∷ y ∷ t) B e = go (meets x y) refl (join-pass t B) (join-pass (y ∷ t) B)
    where
      go : (b : Bool) → meets x y ≡ b → (seam (pass p meets t) B ≡ false → pass p meets (t ++ B) ≡ pass p meets t ++ pass p meets B)
          → (seam (pass p meets (y ∷ t)) B ≡ false → pass p meets (y ∷ (t ++ B)) ≡ pass p meets (y ∷ t) ++ pass p meets B) → pass p meets (x ∷ y ∷ (t ++ B)) ≡ pass p meets (x ∷ y ∷ t) ++ pass p meets B
      go true h f g = rw (pass-hit x y t h, pass-hit x y (t ++ B) h) (ap {B = List ℕ} (λ l. p ∷ l) (f (rw (pass-hit x y t h) at e)))
      go false h f g = rw (pass_miss x y t h, pass_miss x y (t ++ B) h) (ap {B = List ℕ} (λ l. x ∷ l) (g (rw (last-pass p x y t) (rw (pass_miss x y t h) at e))))

  -- the pass joins the last of a list and one more
  pub record JoinLast (A : List ℕ) (s : ℕ) : Type 0 where
    pub front : List ℕ
    pub last : ℕ
    pub before : pass p meets A ≡ front ++ last ∷ []
    pub meet_last : meets last s ≡ true
    pub after : pass p meets (A ++ s ∷ []) ≡ front ++ p ∷ []

  module _ (apart : (y : ℕ) → meets p y ≡ false) where
    -- L2, the second: where the seam meets the two are joined
    pub join_last : (A : List ℕ) (s : ℕ) → seam (pass p meets A) (s ∷ []) ≡ true → JoinLast A s
    join_last [] s e = absurd (true-false (sym e ∙ apart s))
    join_last (x ∷ []) s e = record { front = []; last = x; before = refl; meet_last = e; after = pass-hit x s [] e }
    join_last (x ∷ y ∷ t) s e = go (meets x y) refl (join_last t s) (join_last (y ∷ t) s)
      where
        go : (b : Bool) → meets x y ≡ b → (seam (pass p meets t) (s ∷ []) ≡ true → JoinLast t s) → (seam (pass p meets (y ∷ t)) (s ∷ []) ≡ true → JoinLast (y ∷ t) s) → JoinLast (x ∷ y ∷ t) s
        go true h f g =
            let q = f (rw (pass-hit x y t h) at e) in
            record {
              front = p ∷ q.front;
              last = q.last;
              before = pass-hit x y t h ∙ ap {B = List ℕ} (λ l. p ∷ l) q.before;
              meet_last = q.meet_last;
              after = pass-hit x y (t ++ s ∷ []) h ∙ ap {B = List ℕ} (λ l. p ∷ l) q.after;
            }
        go false h f g =
            let q = g (rw (last-pass p x y t) (rw (pass_miss x y t h) at e)) in
            record {
              front = x ∷ q.front;
              last = q.last;
              before = pass_miss x y t h ∙ ap {B = List ℕ} (λ l. x ∷ l) q.before;
              meet_last = q.meet_last;
              after = pass_miss x y (t ++ s ∷ []) h ∙ ap {B = List ℕ} (λ l. x ∷ l) q.after;
            }

    -- L2, the third: where the seam meets there is no split
    pub no_cross : (A B : List ℕ) → pass p meets (A ++ B) ≡ pass p meets A ++ pass p meets B → seam (pass p meets A) B ≡ false
    no_cross [] [] e = refl
    no_cross [] (y ∷ B) e = apart y
    no_cross (x ∷ []) [] e = refl
    no_cross (x ∷ []) (y ∷ B) e = go (meets x y) refl
      where
        go : (b : Bool) → meets x y ≡ b → meets x y ≡ false
        go true h = ap (λ (z : ℕ). meets z y) (sym (cons_head (sym (pass-hit x y B h) ∙ e))) ∙ apart y
        go false h = h
    no_cross (x ∷ y ∷ t) B e = go (meets x y) refl (no_cross t B) (no_cross (y ∷ t) B)
      where
        go : (b : Bool) → meets x y ≡ b → (pass p meets (t ++ B) ≡ pass p meets t ++ pass p meets B → seam (pass p meets t) B ≡ false)
            → (pass p meets (y ∷ (t ++ B)) ≡ pass p meets (y ∷ t) ++ pass p meets B → seam (pass p meets (y ∷ t)) B ≡ false) → seam (pass p meets (x ∷ y ∷ t)) B ≡ false
        go true h f g = rw (pass-hit x y t h) (f (cons_tail (rw (pass-hit x y t h, pass-hit x y (t ++ B) h) at e)))
        go false h f g = rw (pass_miss x y t h, last-pass x p y t) (g (cons_tail (rw (pass_miss x y t h, pass_miss x y (t ++ B) h) at e)))
