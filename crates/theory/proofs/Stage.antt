-- What the stages of the paper's passes are made of: where they split, and which code lists they leave as they are.
use mathlib.Core.Path.{◌≡◌, refl, sym, ap, ◌∙◌}
use mathlib.Core.List.{List, [], ◌∷◌, ◌++◌, append-nil, append_assoc}
use mathlib.Core.Bool.{Bool, true, false, ◌&&◌}
use Prim.Native.Nat.{ℕ, zero, suc, ◌≤◌, ◌<◌}
use native.Mathlib.Decide.{le_ind}
use native.Mathlib.Omega.{arith}
use lib.Dec.{eqb, eqb→eq, T}
use Rattle.theory.proofs.Lists.{cons_head, cons_tail, nil-cons, true-false}
use Rattle.theory.specs.Lists.{last_or}
use Rattle.theory.proofs.Pass as Pass
use Rattle.theory.specs.Paper.{pass}
use Rattle.theory.proofs.Pass.{seam}
use Rattle.theory.specs.Dictionary.{Dictionary, spell}
use Rattle.theory.specs.Merge.{byte_codes}
use Rattle.theory.specs.Paper.{listed, stage}

module _ (D : Dictionary) where
  abbrev pub StayApart : ℕ → ℕ → ℕ → Type 0
  StayApart q u v = stage D q (D.bytes u ++ D.bytes v) ≡ u ∷ v ∷ []

  abbrev pub AllApart : ℕ → List ℕ → Type 0
  AllApart q [] = Unit {0}
  AllApart q (u ∷ []) = stage D q (D.bytes u) ≡ u ∷ []
  AllApart q (u ∷ v ∷ M) = StayApart q u v × AllApart q (v ∷ M)

  pub record Laws : Type 0 where
    pub byte : (b : ℕ) → D.bytes (D.code b) ≡ b ∷ []
    pub filled : (u : ℕ) → D.bytes u ≡ [] → ⊥
    pub single : (u : ℕ) → u < D.count → D.long u ≡ false → byte_codes D (D.bytes u) ≡ u ∷ []
    pub known : (p : ℕ) → D.long p ≡ true → p < D.count
    pub left_below : (p : ℕ) → D.long p ≡ true → D.left p < p
    pub right_below : (p : ℕ) → D.long p ≡ true → D.right p < p
    pub parts : (p : ℕ) → D.long p ≡ true → D.bytes (D.left p) ++ D.bytes (D.right p) ≡ D.bytes p

  pub record Listed (p x y : ℕ) : Type 0 where
    pub long : D.long p ≡ true
    pub left : x ≡ D.left p
    pub right : y ≡ D.right p

  and_left : (a b : Bool) → a && b ≡ true → a ≡ true
  and_left true b e = refl
  and_left false b e = e

  and_right : (a b : Bool) → a && b ≡ true → b ≡ true
  and_right true b e = e
  and_right false b e = absurd (true-false (sym e))

  pub T_of : (b : Bool) → b ≡ true → T b
  T_of true e = tt
  T_of false e = absurd (true-false (sym e))

  pub listed-is : (p x y : ℕ) → listed D p x y ≡ true → Listed p x y
  listed-is p x y e =
      let e' = and_right (D.long p) (eqb x (D.left p) && eqb y (D.right p)) e in
      record {
        long = and_left (D.long p) (eqb x (D.left p) && eqb y (D.right p)) e;
        left = eqb→eq x (D.left p) (T_of (eqb x (D.left p)) (and_left (eqb x (D.left p)) (eqb y (D.right p)) e'));
        right = eqb→eq y (D.right p) (T_of (eqb y (D.right p)) (and_right (eqb x (D.left p)) (eqb y (D.right p)) e'));
      }

  pub spell-append : (A B : List ℕ) → spell D (A ++ B) ≡ spell D A ++ spell D B
  spell-append [] B = refl
  spell-append (x ∷ A) B = rw (spell-append A B, append_assoc (D.bytes x) (spell D A) (spell D B))

  module _ (L : Laws) where
    pub apart : (p y : ℕ) → listed D p p y ≡ false
    apart p y = go (listed D p p y) refl
      where
        go : (b : Bool) → listed D p p y ≡ b → listed D p p y ≡ false
        go true e = let h = listed-is p p y e in let q = L.left_below p h.long in absurd (omega (arith, h.left, q))
        go false e = e

    pub spell-hit : (p x y : ℕ) → listed D p x y ≡ true → D.bytes x ++ D.bytes y ≡ D.bytes p
    spell-hit p x y e = let h = listed-is p x y e in rw (h.left, h.right) (L.parts p h.long)

    -- L1
    pub spell-pass : (p : ℕ) (S : List ℕ) → spell D (pass p (listed D p) S) ≡ spell D S
    spell-pass p [] = refl
    spell-pass p (x ∷ []) = refl
    spell-pass p (x ∷ y ∷ t) = go (listed D p x y) refl (spell-pass p t) (spell-pass p (y ∷ t))
      where
        go : (b : Bool) → listed D p x y ≡ b → spell D (pass p (listed D p) t) ≡ spell D t → spell D (pass p (listed D p) (y ∷ t)) ≡ spell D (y ∷ t)
            → spell D (pass p (listed D p) (x ∷ y ∷ t)) ≡ spell D (x ∷ y ∷ t)
        go true h f g = rw (Pass.pass-hit p (listed D p) x y t h, f, ← spell-hit p x y h) (append_assoc (D.bytes x) (D.bytes y) (spell D t))
        go false h f g = rw (Pass.pass_miss p (listed D p) x y t h, g)

    pub spell_unit : (t : List ℕ) → spell D (byte_codes D t) ≡ t
    spell_unit [] = refl
    spell_unit (b ∷ t) = rw (L.byte b, spell_unit t)

    pub spell-stage : (p : ℕ) (t : List ℕ) → spell D (stage D p t) ≡ t
    spell-stage zero t = spell_unit t
    spell-stage (suc p) t = spell-pass p (stage D p t) ∙ spell-stage p t

    unit_split : (t X Y : List ℕ) → byte_codes D t ≡ X ++ Y → (byte_codes D (spell D X) ≡ X) × (byte_codes D (spell D Y) ≡ Y)
    unit_split t [] Y e = (refl, ap (λ (l : List ℕ). byte_codes D (spell D l)) (sym e) ∙ ap (byte_codes D) (spell_unit t) ∙ e)
    unit_split [] (x ∷ X) Y e = absurd (nil-cons e)
    unit_split (b ∷ t) (x ∷ X) Y e =
        let q = unit_split t X Y (cons_tail e) in
        (rw (← cons_head e, L.byte b, q.0), q.1)

    -- L4
    pub project : (p : ℕ) (t X Y : List ℕ) → stage D p t ≡ X ++ Y → (stage D p (spell D X) ≡ X) × (stage D p (spell D Y) ≡ Y)
    project zero t X Y e = unit_split t X Y e
    project (suc p) t X Y e =
        let q = Pass.split p (listed D p) (stage D p t) X Y e in
        let r = project p t q.fst q.snd q.cut in
        (lift X q.fst q.left r.0, lift Y q.snd q.right r.1)
      where
        lift : (X A : List ℕ) → pass p (listed D p) A ≡ X → stage D p (spell D A) ≡ A → pass p (listed D p) (stage D p (spell D X)) ≡ X
        lift X A e f = rw (← e, spell-pass p A, f)

    -- a split of a later stage D is a split of an earlier one
    pub down : (q p : ℕ) (t X Y : List ℕ) → p ≤ q → stage D q t ≡ X ++ Y → stage D p t ≡ stage D p (spell D X) ++ stage D p (spell D Y)
    down q p t X Y h e = le_ind {n = p} (λ q. (X Y : List ℕ) → stage D q t ≡ X ++ Y → stage D p t ≡ stage D p (spell D X) ++ stage D p (spell D Y)) base step q h X Y e
      where
        base : (X Y : List ℕ) → stage D p t ≡ X ++ Y → stage D p t ≡ stage D p (spell D X) ++ stage D p (spell D Y)
        base X Y e = let r = project p t X Y e in rw (r.0, r.1) e

        same : (m : ℕ) (A X : List ℕ) → pass m (listed D m) A ≡ X → spell D A ≡ spell D X
        same m A X e = sym (spell-pass m A) ∙ ap (spell D) e

        step : (m : ℕ) → p ≤ m → ((X Y : List ℕ) → stage D m t ≡ X ++ Y → stage D p t ≡ stage D p (spell D X) ++ stage D p (spell D Y))
            → (X Y : List ℕ) → stage D (suc m) t ≡ X ++ Y → stage D p t ≡ stage D p (spell D X) ++ stage D p (spell D Y)
        step m hm ih X Y e =
            let r = Pass.split m (listed D m) (stage D m t) X Y e in
            rw (← same m r.fst X r.left, ← same m r.snd Y r.right) (ih r.fst r.snd r.cut)

    unit_append : (a b : List ℕ) → byte_codes D (a ++ b) ≡ byte_codes D a ++ byte_codes D b
    unit_append [] b = refl
    unit_append (x ∷ a) b = ap {B = List ℕ} (λ l. D.code x ∷ l) (unit_append a b)

    -- L5
    pub stage-append : (q : ℕ) (a b : List ℕ) → ((p : ℕ) → p < q → seam p (listed D p) (stage D (suc p) a) (stage D p b) ≡ false) → stage D q (a ++ b) ≡ stage D q a ++ stage D q b
    stage-append zero a b h = unit_append a b
    stage-append (suc q) a b h =
        rw (stage-append q a b (λ p hp. h p (omega arith))) (Pass.join-pass q (listed D q) (stage D q a) (stage D q b) (h q (omega arith)))

    -- L5, conversely
    pub crossless : (q : ℕ) (t X Y : List ℕ) → stage D q t ≡ X ++ Y → (p : ℕ) → p < q → seam p (listed D p) (stage D (suc p) (spell D X)) (stage D p (spell D Y)) ≡ false
    crossless q t X Y e p hp =
        Pass.no_cross p (listed D p) (apart p) (stage D p (spell D X)) (stage D p (spell D Y))
        (ap (pass p (listed D p)) (sym (down q p t X Y (omega arith) e)) ∙ down q (suc p) t X Y hp e)

    pub stage-nil : (p : ℕ) → stage D p [] ≡ []
    stage-nil zero = refl
    stage-nil (suc p) = rw (stage-nil p)

    pub stage-filled : (p u : ℕ) → stage D p (D.bytes u) ≡ [] → ⊥
    stage-filled p u e = L.filled u (sym (spell-stage p (D.bytes u)) ∙ ap (spell D) e)

    pub meet-append : (p x : ℕ) (B C : List ℕ) → (B ≡ [] → ⊥) → Pass.meet p (listed D p) x (B ++ C) ≡ Pass.meet p (listed D p) x B
    meet-append p x [] C h = absurd (h refl)
    meet-append p x (y ∷ B) C h = refl

    pub pair-cut : (q u v : ℕ) → StayApart q u v → (stage D q (D.bytes u) ≡ u ∷ []) × ((p : ℕ) → p < q → seam p (listed D p) (stage D (suc p) (D.bytes u)) (stage D p (D.bytes v)) ≡ false)
    pair-cut q u v e = (
      rw append-nil at (project q (D.bytes u ++ D.bytes v) (u ∷ []) (v ∷ []) e).0,
      λ p hp. simp append-nil at (crossless q (D.bytes u ++ D.bytes v) (u ∷ []) (v ∷ []) e p hp),
    )

    -- T1
    pub unique : (q : ℕ) (M : List ℕ) → AllApart q M → stage D q (spell D M) ≡ M
    unique q [] c = stage-nil q
    unique q (u ∷ []) c = rw append-nil c
    unique q (u ∷ v ∷ M) c = go (unique q (v ∷ M) c.1) (pair-cut q u v c.0)
      where
        go : stage D q (spell D (v ∷ M)) ≡ v ∷ M → (stage D q (D.bytes u) ≡ u ∷ []) × ((p : ℕ) → p < q → seam p (listed D p) (stage D (suc p) (D.bytes u)) (stage D p (D.bytes v)) ≡ false)
            → stage D q (spell D (u ∷ v ∷ M)) ≡ u ∷ v ∷ M
        go ih k = stage-append q (D.bytes u) (spell D (v ∷ M)) clear ∙ rw (ih, k.0)
          where
            clear : (p : ℕ) → p < q → seam p (listed D p) (stage D (suc p) (D.bytes u)) (stage D p (spell D (v ∷ M))) ≡ false
            clear p hp =
                rw (down q p (spell D (v ∷ M)) (v ∷ []) M (omega arith) ih, append-nil (D.bytes v))
                (meet-append p (last_or p (stage D (suc p) (D.bytes u))) (stage D p (D.bytes v)) (stage D p (spell D M)) (stage-filled p v) ∙ k.1 p hp)

    -- T2
    pub neighbours : (q : ℕ) (S : List ℕ) → stage D q (spell D S) ≡ S → AllApart q S
    neighbours q [] e = tt
    neighbours q (u ∷ []) e = rw append-nil at e
    neighbours q (u ∷ v ∷ M) e = (
      rw append-nil at (project q (spell D (u ∷ v ∷ M)) (u ∷ v ∷ []) M e).0,
      neighbours q (v ∷ M) (project q (spell D (u ∷ v ∷ M)) (u ∷ []) (v ∷ M) e).1,
    )

    pub exists : (q : ℕ) (t : List ℕ) → AllApart q (stage D q t)
    exists q t = neighbours q (stage D q t) (ap (stage D q) (spell-stage q t))
