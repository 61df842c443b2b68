-- The pair check, and that it decides whether two codes are their own encoding.
use mathlib.Core.Path.{◌≡◌, refl, sym, ap, ◌∙◌}
use mathlib.Core.Logic.{◌⊎◌, inl, inr, ⊎_elim, ◌↔◌}
use mathlib.Core.List.{List, [], ◌∷◌, ◌++◌, append-nil}
use mathlib.Core.Bool.{Bool, true, false, ◌||◌}
use Prim.Native.Nat.{ℕ, zero, suc, ◌+◌, ◌≤◌, ◌<◌}
use native.Mathlib.Decide.{le_ind}
use native.Mathlib.Nat.{eq-or-lt_of_le}
use native.Mathlib.Omega.{arith}
use lib.Dec.{eqb, eqb_refl, ltb, ltb→lt, nltb→le, T, not_T}
use Rattle.theory.proofs.Lists.{true-false, last_or_append, lt_or_ge}
use Rattle.theory.specs.Lists.{last_or}
use Rattle.theory.specs.Paper.{pass, listed, stage}
use Rattle.theory.proofs.Pass.{seam, meet, pass-hit, pass_miss}
use Rattle.theory.specs.Dictionary.{Dictionary, spell}
use Rattle.theory.proofs.Stage.{Laws, Listed, listed-is, T_of, StayApart, AllApart}
use Rattle.theory.proofs.Stage as St
use Rattle.theory.specs.Dictionary.{AllRows, KnownText}
use Rattle.theory.specs.PairCheck.{Turn, stop, undo_left, undo_right, turn_by, turn, listed_below, walk, passes, AllPass}

module _ (D : Dictionary) where
  pub record Lawful : Type 0 where
    pub laws : Laws D
    pub pairs : (w : ℕ) → D.long w ≡ true → passes D w (D.left w) (D.right w) ≡ true

  pub record Left (u v : ℕ) : Type 0 where
    pub long : D.long u ≡ true
    pub higher : D.long v ≡ true → v < u

  pub record Right (u v : ℕ) : Type 0 where
    pub long : D.long v ≡ true
    pub higher : D.long u ≡ true → u ≤ v

  abbrev pub Turned : Turn → ℕ → ℕ → Type 0
  Turned stop u v = (D.long u ≡ false) × (D.long v ≡ false)
  Turned undo_left u v = Left u v
  Turned undo_right u v = Right u v

  pub turned : (u v : ℕ) → Turned (turn D u v) u v
  turned u v = go (D.long u) (D.long v) (ltb v u) refl refl refl
    where
      go : (a b c : Bool) → D.long u ≡ a → D.long v ≡ b → ltb v u ≡ c → Turned (turn_by a b c) u v
      go false false c e f g = (e, f)
      go false true c e f g = record { long = f; higher = λ h. absurd (true-false (sym h ∙ e)) }
      go true false c e f g = record { long = e; higher = λ h. absurd (true-false (sym h ∙ f)) }
      go true true true e f g = record { long = e; higher = λ h. ltb→lt v u (T_of D (ltb v u) g) }
      go true true false e f g = record { long = f; higher = λ h. nltb→le v u (not_T (ltb v u) (λ t. rw g at t)) }

  of_T : (b : Bool) → T b → b ≡ true
  of_T true t = refl
  of_T false t = absurd t

  pub listed-own : (p : ℕ) → D.long p ≡ true → listed D p (D.left p) (D.right p) ≡ true
  listed-own p h = rw (h, of_T (eqb (D.left p) (D.left p)) (eqb_refl (D.left p)), of_T (eqb (D.right p) (D.right p)) (eqb_refl (D.right p)))

  or-false : (a b : Bool) → a || b ≡ false → (a ≡ false) × (b ≡ false)
  or-false true b e = absurd (true-false e)
  or-false false b e = (refl, e)

  listed_below-none : (m u v : ℕ) → listed_below D m u v ≡ false → (p : ℕ) → p < m → listed D p u v ≡ false
  listed_below-none zero u v e p h = absurd (omega arith)
  listed_below-none (suc m) u v e p h = go (or-false (listed D m u v) (listed_below D m u v) e) (λ f. listed_below-none m u v f p) (eq-or-lt_of_le h)
    where
      go : (listed D m u v ≡ false) × (listed_below D m u v ≡ false) → (listed_below D m u v ≡ false → p < m → listed D p u v ≡ false) → (suc p ≡ suc m) ⊎ (suc p < suc m) → listed D p u v ≡ false
      go a ih (inl e) = let e' : p ≡ m = omega arith in rw e' a.0
      go a ih (inr l) = ih a.1 (omega arith)

  pub listed_below-some : (m u v : ℕ) → listed_below D m u v ≡ true → (w : ℕ) × (w < m) × (listed D w u v ≡ true)
  listed_below-some zero u v e = absurd (true-false (sym e))
  listed_below-some (suc m) u v e = go (listed D m u v) refl (listed_below-some m u v)
    where
      go : (b : Bool) → listed D m u v ≡ b → (listed_below D m u v ≡ true → (w : ℕ) × (w < m) × (listed D w u v ≡ true)) → (w : ℕ) × (w < suc m) × (listed D w u v ≡ true)
      go true h ih = (m, (omega arith), h)
      go false h ih = let q = ih (rw h at e) in (q.0, (omega (arith, q.1)), q.2)

  -- nothing joins across the seam of u and v in the passes D below m
  abbrev pub Clean : ℕ → ℕ → ℕ → Type 0
  Clean u v m = (p : ℕ) → p < m → seam p (listed D p) (stage D (suc p) (D.bytes u)) (stage D p (D.bytes v)) ≡ false

  abbrev pub Own : ℕ → Type 0
  Own q = (w : ℕ) → w < q → D.long w ≡ true → stage D w (D.bytes w) ≡ D.left w ∷ D.right w ∷ []

  -- a code that is short, or long and below q
  pub record Under (q u : ℕ) : Type 0 where
    pub code : u < D.count
    pub below : D.long u ≡ true → u < q

  module _ (L : Laws D) (q : ℕ) (own : Own q) where
    stays : (u k : ℕ) (t : List ℕ) (j : ℕ) → k ≤ j → stage D k t ≡ u ∷ [] → stage D j t ≡ u ∷ []
    stays u k t j h e = le_ind {n = k} (λ j. stage D j t ≡ u ∷ []) e (λ m hm ih. rw ih) j h

    -- L6
    pub settled : (u k : ℕ) → Under q u → (D.long u ≡ true → u < k) → stage D k (D.bytes u) ≡ u ∷ []
    settled u k c h = go (D.long u) refl
      where
        go : (b : Bool) → D.long u ≡ b → stage D k (D.bytes u) ≡ u ∷ []
        go true e = stays u (suc u) (D.bytes u) k (h e) (rw (own u (c.below e) e) (pass-hit u (listed D u) (D.left u) (D.right u) [] (listed-own u e)))
        go false e = stays u 0 (D.bytes u) k (omega arith) (L.single u c.code e)

    -- L7, a step along each spine
    pub seam-left : (u p : ℕ) (B : List ℕ) → D.long u ≡ true → u < q → p < u
        → seam p (listed D p) (stage D (suc p) (D.bytes u)) B ≡ seam p (listed D p) (stage D (suc p) (D.bytes (D.right u))) B
    seam-left u p B e hq h =
        let d : stage D (suc p) (D.bytes u) ≡ stage D (suc p) (D.bytes (D.left u)) ++ stage D (suc p) (D.bytes (D.right u)) =
        simp append-nil at (St.down D L u (suc p) (D.bytes u) (D.left u ∷ []) (D.right u ∷ []) h (own u hq e)) in
        ap (λ (x : ℕ). meet p (listed D p) x B) (ap (last_or p) d ∙ last_or_append p p (stage D (suc p) (D.bytes (D.left u))) (stage D (suc p) (D.bytes (D.right u))) (St.stage-filled D L (suc p) (D.right u)))

    pub seam-right : (v p : ℕ) (X : List ℕ) → D.long v ≡ true → v < q → p ≤ v
        → seam p (listed D p) X (stage D p (D.bytes v)) ≡ seam p (listed D p) X (stage D p (D.bytes (D.left v)))
    seam-right v p X e hq h =
        let d : stage D p (D.bytes v) ≡ stage D p (D.bytes (D.left v)) ++ stage D p (D.bytes (D.right v)) =
        simp append-nil at (St.down D L v p (D.bytes v) (D.left v ∷ []) (D.right v ∷ []) h (own v hq e)) in
        ap (meet p (listed D p) (last_or p X)) d ∙ St.meet-append D L p (last_or p X) (stage D p (D.bytes (D.left v))) (stage D p (D.bytes (D.right v))) (St.stage-filled D L p (D.left v))

    under_left : (v : ℕ) → Under q v → D.long v ≡ true → Under q (D.left v)
    under_left v c e = let h = L.left_below v e in record { code = omega (arith, c.code); below = λ _. omega (arith, c.below e) }

    under-right : (v : ℕ) → Under q v → D.long v ≡ true → Under q (D.right v)
    under-right v c e = let h = L.right_below v e in record { code = omega (arith, c.code); below = λ _. omega (arith, c.below e) }

    settled-seam : (u v p : ℕ) → Under q u → Under q v → (D.long u ≡ true → u ≤ p) → (D.long v ≡ true → v < p)
        → seam p (listed D p) (stage D (suc p) (D.bytes u)) (stage D p (D.bytes v)) ≡ listed D p u v
    settled-seam u v p cu cv hu hv = rw (settled u (suc p) cu (λ e. omega (arith, hu e)), settled v p cv hv)

    -- L8: a check that passes
    pub sound : (k u v m : ℕ) → Under q u → Under q v → walk D (listed_below D) k u v m ≡ true → Clean u v m
    sound zero u v m cu cv e = absurd (true-false (sym e))
    sound (suc k) u v m cu cv e = go (listed_below D m u v) refl (turn D u v) refl (turned u v) (λ c. sound k (D.right u) v u c cv) (λ c. sound k u (D.left v) (suc v) cu c)
      where
        go : (b : Bool) → listed_below D m u v ≡ b → (t : Turn) → turn D u v ≡ t → Turned t u v
            → (Under q (D.right u) → walk D (listed_below D) k (D.right u) v u ≡ true → Clean (D.right u) v u)
            → (Under q (D.left v) → walk D (listed_below D) k u (D.left v) (suc v) ≡ true → Clean u (D.left v) (suc v)) → Clean u v m
        go true f t g d ihl ihr = absurd (true-false (sym (rw (f, walk) at e)))
        go false f stop g d ihl ihr =
            λ p hp. settled-seam u v p cu cv (λ h. absurd (true-false (sym h ∙ d.0))) (λ h. absurd (true-false (sym h ∙ d.1))) ∙ listed_below-none m u v f p hp
        go false f undo_left g d ihl ihr = λ p hp. ⊎_elim
            (λ h. seam-left u p (stage D p (D.bytes v)) d.long (cu.below d.long) h ∙ ihl (under-right u cu d.long) (rw (f, g, walk) at e) p h)
            (λ h. settled-seam u v p cu cv (λ _. h) (λ l. omega (arith, d.higher l)) ∙ listed_below-none m u v f p hp)
            (lt_or_ge p u)
        go false f undo_right g d ihl ihr = λ p hp. ⊎_elim
            (λ h. seam-right v p (stage D (suc p) (D.bytes u)) d.long (cv.below d.long) (omega arith) ∙ ihr (under_left v cv d.long) (rw (f, g, walk) at e) p h)
            (λ h. settled-seam u v p cu cv (λ l. omega (arith, d.higher l)) (λ _. h) ∙ listed_below-none m u v f p hp)
            (lt_or_ge p (suc v))

    -- L8: a check that fails
    pub complete : (k u v m : ℕ) → Under q u → Under q v → u + v < k → (D.long u ≡ true → u ≤ m) → (D.long v ≡ true → v < m) → Clean u v m → walk D (listed_below D) k u v m ≡ true
    complete zero u v m cu cv hk hu hv c = absurd (omega arith)
    complete (suc k) u v m cu cv hk hu hv c =
        go (listed_below D m u v) refl (turn D u v) refl (turned u v) (λ c. complete k (D.right u) v u c cv) (λ c. complete k u (D.left v) (suc v) cu c)
      where
        go : (b : Bool) → listed_below D m u v ≡ b → (t : Turn) → turn D u v ≡ t → Turned t u v
            → (Under q (D.right u) → D.right u + v < k → (D.long (D.right u) ≡ true → D.right u ≤ u) → (D.long v ≡ true → v < u) → Clean (D.right u) v u → walk D (listed_below D) k (D.right u) v u ≡ true)
            → (Under q (D.left v) → u + D.left v < k → (D.long u ≡ true → u ≤ suc v) → (D.long (D.left v) ≡ true → D.left v < suc v) → Clean u (D.left v) (suc v) → walk D (listed_below D) k u (D.left v) (suc v) ≡ true)
            → walk D (listed_below D) (suc k) u v m ≡ true
        go true f t g d ihl ihr =
            let w = listed_below-some m u v f in
            let h = listed-is D w.0 u v w.2 in
            let a = L.left_below w.0 h.long in
            let b = L.right_below w.0 h.long in
            let hl = h.left in
            let hr = h.right in
            absurd (true-false (sym w.2 ∙ sym (settled-seam u v w.0 cu cv (λ _. omega arith) (λ _. omega arith)) ∙ c w.0 w.1))
        go false f stop g d ihl ihr = rw (f, g, walk)
        go false f undo_left g d ihl ihr =
            let b = L.right_below u d.long in
            let hm = hu d.long in
            rw (f, g, walk) (ihl (under-right u cu d.long) (omega arith) (λ _. omega arith) d.higher
            (λ p h. sym (seam-left u p (stage D p (D.bytes v)) d.long (cu.below d.long) h) ∙ c p (omega arith)))
        go false f undo_right g d ihl ihr =
            let b = L.left_below v d.long in
            let hm = hv d.long in
            rw (f, g, walk) (ihr (under_left v cv d.long) (omega arith) (λ l. omega (arith, d.higher l)) (λ _. omega arith)
            (λ p h. sym (seam-right v p (stage D (suc p) (D.bytes u)) d.long (cv.below d.long) (omega arith)) ∙ c p (omega arith)))

    pub passes-pair : (u v : ℕ) → Under q u → Under q v → passes D q u v ≡ true → StayApart D q u v
    passes-pair u v cu cv e =
        St.stage-append D L q (D.bytes u) (D.bytes v) (sound (suc (u + v)) u v q cu cv e) ∙ rw (settled u q cu cu.below, settled v q cv cv.below)

    pub pair-passes : (u v : ℕ) → Under q u → Under q v → StayApart D q u v → passes D q u v ≡ true
    pair-passes u v cu cv e = complete (suc (u + v)) u v q cu cv (omega arith) (λ h. omega (arith, cu.below h)) cv.below (St.pair-cut D L q u v e).1

  module _ (A : Lawful) where
    pub own : (q : ℕ) → Own q
    own zero w h e = absurd (omega arith)
    own (suc q) w h e = ⊎_elim
        (λ i. let i' : w ≡ q = omega arith in rw i' (last (own q) (rw i' at e)))
        (λ l. own q w (omega arith) e)
        (eq-or-lt_of_le h)
      where
        last : Own q → D.long q ≡ true → stage D q (D.bytes q) ≡ D.left q ∷ D.right q ∷ []
        last ih e =
            let k = A.laws.known q e in
            let a = A.laws.left_below q e in
            let b = A.laws.right_below q e in
            rw (← A.laws.parts q e)
            (passes-pair A.laws q ih (D.left q) (D.right q)
            (record { code = omega arith; below = λ _. a })
            (record { code = omega arith; below = λ _. b })
            (A.pairs q e))

    -- L6
    pub halves : (w : ℕ) → D.long w ≡ true → stage D w (D.bytes w) ≡ D.left w ∷ D.right w ∷ []
    halves w e = own (suc w) w (omega arith) e

    under : (u : ℕ) → u < D.count → Under D.count u
    under u h = record { code = h; below = λ _. h }

    pub itself : (u k : ℕ) → u < D.count → (D.long u ≡ true → u < k) → stage D k (D.bytes u) ≡ u ∷ []
    itself u k h f = settled A.laws D.count (own D.count) u k (under u h) f

    -- L8 over all rows
    pub passes↔pair : (u v : ℕ) → u < D.count → v < D.count → (passes D D.count u v ≡ true) ↔ StayApart D D.count u v
    passes↔pair u v hu hv = (
      passes-pair A.laws D.count (own D.count) u v (under u hu) (under v hv),
      pair-passes A.laws D.count (own D.count) u v (under u hu) (under v hv),
    )

    -- L8 over the rows below q
    pub passes↔pair-below : (q u v : ℕ) → Under q u → Under q v → (passes D q u v ≡ true) ↔ StayApart D q u v
    passes↔pair-below q u v hu hv = (passes-pair A.laws q (own q) u v hu hv, pair-passes A.laws q (own q) u v hu hv)

    head-known : (v : ℕ) (M : List ℕ) → AllPass D (v ∷ M) → v < D.count
    head-known v [] c = c
    head-known v (w ∷ M) c = c.0

    checked-chain : (M : List ℕ) → AllPass D M → AllApart D D.count M
    checked-chain [] c = tt
    checked-chain (u ∷ []) c = itself u D.count c (λ _. c)
    checked-chain (u ∷ v ∷ M) c = ((passes↔pair u v c.0 (head-known v M c.2)).0 c.1, checked-chain (v ∷ M) c.2)

    -- T1 over the check
    pub checked-unique : (M : List ℕ) → AllPass D M → stage D D.count (spell D M) ≡ M
    checked-unique M c = St.unique D A.laws D.count M (checked-chain M c)

    pass-rows : (p : ℕ) (S : List ℕ) → AllRows D S → AllRows D (pass p (listed D p) S)
    pass-rows p [] a = tt
    pass-rows p (x ∷ []) a = a
    pass-rows p (x ∷ y ∷ t) a = go (listed D p x y) refl (pass-rows p t a.1.1) (pass-rows p (y ∷ t) a.1)
      where
        go : (b : Bool) → listed D p x y ≡ b → AllRows D (pass p (listed D p) t) → AllRows D (pass p (listed D p) (y ∷ t)) → AllRows D (pass p (listed D p) (x ∷ y ∷ t))
        go true h f g = rw (pass-hit p (listed D p) x y t h) (A.laws.known p (listed-is D p x y h).long, f)
        go false h f g = rw (pass_miss p (listed D p) x y t h) (a.0, g)

    pub stage-rows : (p : ℕ) (t : List ℕ) → KnownText D t → AllRows D (stage D p t)
    stage-rows zero [] k = tt
    stage-rows zero (b ∷ t) k = (k.0, stage-rows zero t k.1)
    stage-rows (suc p) t k = pass-rows p (stage D p t) (stage-rows p t k)

    chain-checked : (M : List ℕ) → AllRows D M → AllApart D D.count M → AllPass D M
    chain-checked [] a c = tt
    chain-checked (u ∷ []) a c = a.0
    chain-checked (u ∷ v ∷ M) a c = (a.0, (passes↔pair u v a.0 a.1.0).1 c.0, chain-checked (v ∷ M) a.1 c.1)

    -- T2 over the check
    pub stage-checked : (t : List ℕ) → KnownText D t → AllPass D (stage D D.count t)
    stage-checked t k = chain-checked (stage D D.count t) (stage-rows D.count t k) (St.exists D A.laws D.count t)
