-- What the encoders rest on: one more code at the end, one more at the front, the parts of a row are the only ones, and a check sees only lower rows.
use mathlib.Core.Path.{◌≡◌, refl, sym, ap, ◌∙◌}
use mathlib.Core.List.{List, [], ◌∷◌, ◌++◌, append-nil}
use mathlib.Core.Bool.{Bool, true, false}
use Prim.Native.Nat.{ℕ, zero, suc, ◌≤◌, ◌<◌}
use native.Mathlib.Omega.{arith}
use Rattle.theory.proofs.Lists.{cons_head, cons_tail}
use Rattle.theory.specs.Lists.{last_or}
use Rattle.theory.specs.Dictionary.{Dictionary, spell}
use Rattle.theory.proofs.Stage.{Laws, listed-is, StayApart, AllApart}
use Rattle.theory.specs.Paper.{stage}
use Rattle.theory.proofs.Stage as St
use Rattle.theory.proofs.PairCheck.{Lawful, turned, Turned, passes↔pair-below, halves}
use Rattle.theory.specs.PairCheck.{Turn, stop, undo_left, undo_right, listed_below, turn, walk, passes}

module _ (D : Dictionary) where
  abbrev pub Follows : ℕ → List ℕ → ℕ → Type 0
  Follows q [] c = Unit {0}
  Follows q (x ∷ X) c = StayApart D q (last_or x X) c

  abbrev pub Leads : ℕ → ℕ → List ℕ → Type 0
  Leads q c [] = Unit {0}
  Leads q c (x ∷ X) = StayApart D q c x

  chain_snoc : (q : ℕ) (X : List ℕ) (c : ℕ) → AllApart D q X → stage D q (D.bytes c) ≡ c ∷ [] → Follows q X c → AllApart D q (X ++ c ∷ [])
  chain_snoc q [] c h o f = o
  chain_snoc q (x ∷ []) c h o f = (f, o)
  chain_snoc q (x ∷ y ∷ X) c h o f = (h.0, chain_snoc q (y ∷ X) c h.1 o f)

  pub spell_snoc : (X : List ℕ) (c : ℕ) → spell D (X ++ c ∷ []) ≡ spell D X ++ D.bytes c
  spell_snoc X c = St.spell-append D X (c ∷ []) ∙ ap (λ (l : List ℕ). spell D X ++ l) (append-nil (D.bytes c))

  module _ (L : Laws D) (q : ℕ) where
    -- one more code at the end
    pub append-code : (a : List ℕ) (c : ℕ) → stage D q (D.bytes c) ≡ c ∷ [] → Follows q (stage D q a) c → stage D q (a ++ D.bytes c) ≡ stage D q a ++ c ∷ []
    append-code a c o f =
        ap (stage D q) (ap (λ (l : List ℕ). l ++ D.bytes c) (sym (St.spell-stage D L q a)) ∙ sym (spell_snoc (stage D q a) c))
        ∙ St.unique D L q (stage D q a ++ c ∷ []) (chain_snoc q (stage D q a) c (St.exists D L q a) o f)

    chain-cons : (c : ℕ) (X : List ℕ) → AllApart D q X → stage D q (D.bytes c) ≡ c ∷ [] → Leads q c X → AllApart D q (c ∷ X)
    chain-cons c [] h o f = o
    chain-cons c (x ∷ X) h o f = (f, h)

    -- one more code at the front
    pub prepend-code : (c : ℕ) (a : List ℕ) → stage D q (D.bytes c) ≡ c ∷ [] → Leads q c (stage D q a) → stage D q (D.bytes c ++ a) ≡ c ∷ stage D q a
    prepend-code c a o f =
        ap (λ (l : List ℕ). stage D q (D.bytes c ++ l)) (sym (St.spell-stage D L q a))
        ∙ St.unique D L q (c ∷ stage D q a) (chain-cons c (stage D q a) (St.exists D L q a) o f)

  module _ (A : Lawful D) where
    -- two parts that pass are the parts
    pub only_these : (w u v : ℕ) → D.long w ≡ true → u < w → v < w → D.bytes u ++ D.bytes v ≡ D.bytes w → passes D w u v ≡ true → (u ≡ D.left w) × (v ≡ D.right w)
    only_these w u v e hu hv f g =
        let n = A.laws.known w e in
        let p = (passes↔pair-below D A w u v (record { code = omega arith; below = λ _. hu }) (record { code = omega arith; below = λ _. hv })).0 g in
        let d : u ∷ v ∷ [] ≡ D.left w ∷ D.right w ∷ [] = sym p ∙ ap (stage D w) f ∙ halves D A w e in
        (cons_head d, cons_head (cons_tail d))

-- rows that agree below q
pub record Agree (D S : Dictionary) (q : ℕ) : Type 0 where
  pub long : (w : ℕ) → w < q → D.long w ≡ S.long w
  pub left : (w : ℕ) → w < q → D.left w ≡ S.left w
  pub right : (w : ℕ) → w < q → D.right w ≡ S.right w

module _ (D S : Dictionary) (q : ℕ) (a : Agree D S q) (rl : (w : ℕ) → w < q → D.long w ≡ true → D.left w < w) (rr : (w : ℕ) → w < q → D.long w ≡ true → D.right w < w) where
  listed_below_local : (m u v : ℕ) → m ≤ q → listed_below D m u v ≡ listed_below S m u v
  listed_below_local zero u v h = refl
  listed_below_local (suc m) u v h = rw (a.long m h, a.left m h, a.right m h, listed_below_local m u v (omega arith))

  -- a check of two rows below q, with a limit that is at most q, sees nothing but the rows below q
  pub check_local : (k u v m : ℕ) → u < q → v < q → m ≤ q → walk D (listed_below D) k u v m ≡ walk S (listed_below S) k u v m
  check_local zero u v m hu hv hm = refl
  check_local (suc k) u v m hu hv hm =
      go (listed_below D m u v) refl (turn D u v) refl (turned D u v) (λ h. check_local k (D.right u) v u h hv (omega arith)) (λ h. check_local k u (D.left v) (suc v) hu h hv)
    where
      turns : turn D u v ≡ turn S u v
      turns = rw (a.long u hu, a.long v hv)

      go : (b : Bool) → listed_below D m u v ≡ b → (t : Turn) → turn D u v ≡ t → Turned D t u v
          → (D.right u < q → walk D (listed_below D) k (D.right u) v u ≡ walk S (listed_below S) k (D.right u) v u)
          → (D.left v < q → walk D (listed_below D) k u (D.left v) (suc v) ≡ walk S (listed_below S) k u (D.left v) (suc v)) → walk D (listed_below D) (suc k) u v m ≡ walk S (listed_below S) (suc k) u v m
      go b f t g d ihl ihr = step b f (sym (listed_below_local m u v hm) ∙ f) t g (sym turns ∙ g) d
        where
          step : (b : Bool) → listed_below D m u v ≡ b → listed_below S m u v ≡ b → (t : Turn) → turn D u v ≡ t → turn S u v ≡ t → Turned D t u v → walk D (listed_below D) (suc k) u v m ≡ walk S (listed_below S) (suc k) u v m
          step true f f' t g g' d = rw (f, f', walk)
          step false f f' stop g g' d = rw (f, f', g, g', walk)
          step false f f' undo_left g g' d = rw (f, f', g, g', walk) (ihl (let h = rr u hu d.long in omega arith) ∙ ap (λ (z : ℕ). walk S (listed_below S) k z v u) (a.right u hu))
          step false f f' undo_right g g' d = rw (f, f', g, g', walk) (ihr (let h = rl v hv d.long in omega arith) ∙ ap (λ (z : ℕ). walk S (listed_below S) k u z (suc v)) (a.left v hv))
