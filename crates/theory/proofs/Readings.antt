-- Both readings of "join across the seam" are one on a lawful dictionary: a row that has the two as its parts, and any row that has their joined bytes.
use mathlib.Core.Path.{◌≡◌, refl, sym, ap, ap₂, ◌∙◌}
use mathlib.Core.List.{List, [], ◌∷◌, ◌++◌}
use mathlib.Core.Bool.{Bool, true, false}
use Prim.Native.Nat.{ℕ, zero, suc, ◌+◌, ◌≤◌, ◌<◌}
use native.Mathlib.Omega.{arith}
use borrow.Author.Tests.{ltb-true, lt-ltb}
use Rattle.theory.specs.Dictionary.{Dictionary}
use Rattle.theory.specs.Merge.{join}
use Rattle.theory.specs.Paper.{stage}
use Rattle.theory.specs.PairCheck.{Turn, stop, undo_left, undo_right, turn, listed_below, joined_below, walk, passes, passes_joined}
use Rattle.theory.proofs.Lists.{cons_tail, nil-cons, true-false, bool_cases}
use Rattle.theory.proofs.Stage as St
use Rattle.theory.proofs.PairCheck.{Lawful, Turned, turned, own, itself, sound, listed_below-some}
use Rattle.theory.proofs.Merge.{row_below-is, join_is}

module _ (D : Dictionary) (A : Lawful D) where
  -- a row with these parts has their joined bytes
  listed-joined : (m u v : ℕ) → listed_below D m u v ≡ true → joined_below D m u v ≡ true
  listed-joined m u v e =
      let w = listed_below-some D m u v e in
      let j = join_is D A w.0 u v (A.laws.known w.0 (St.listed-is D w.0 u v w.2).long) (St.spell-hit D A.laws w.0 u v w.2) in
      lt-ltb (join D u v) m (rw j w.1)

  not_listed : (m u v : ℕ) → joined_below D m u v ≡ false → listed_below D m u v ≡ false
  not_listed m u v e = bool_cases (listed_below D m u v) (λ f. absurd (true-false (sym (listed-joined m u v f) ∙ e))) (λ f. f)

  -- where nothing crosses below the limit, no row below it has the joined bytes
  none-joined : (k u v m : ℕ) → u < D.count → v < D.count → m ≤ D.count → (D.long u ≡ true → u < m) → (D.long v ≡ true → v < m)
      → walk D (listed_below D) k u v m ≡ true → joined_below D m u v ≡ false
  none-joined k u v m hu hv hm lu lv e = bool_cases (joined_below D m u v) (λ f. absurd (crossing (ltb-true (join D u v) m f))) (λ f. f)
    where
      apart : stage D m (D.bytes u ++ D.bytes v) ≡ u ∷ v ∷ []
      apart =
          St.stage-append D A.laws m (D.bytes u) (D.bytes v)
          (sound D A.laws D.count (own D A D.count) k u v m (record { code = hu; below = λ _. hu }) (record { code = hv; below = λ _. hv }) e)
          ∙ ap₂ (λ (x y : List ℕ). x ++ y) (itself D A u m hu lu) (itself D A v m hv lv)

      crossing : join D u v < m → ⊥
      crossing l =
          nil-cons (cons_tail (sym (itself D A (join D u v) m (omega arith) (λ _. l)) ∙ ap (stage D m) (row_below-is D D.count (D.bytes u ++ D.bytes v) (omega arith)) ∙ apart))

  joined-listed : (k u v m : ℕ) → walk D (joined_below D) k u v m ≡ true → walk D (listed_below D) k u v m ≡ true
  joined-listed zero u v m e = e
  joined-listed (suc k) u v m e = go (joined_below D m u v) refl (turn D u v) refl (joined-listed k (D.right u) v u) (joined-listed k u (D.left v) (suc v))
    where
      go : (b : Bool) → joined_below D m u v ≡ b → (t : Turn) → turn D u v ≡ t
          → (walk D (joined_below D) k (D.right u) v u ≡ true → walk D (listed_below D) k (D.right u) v u ≡ true)
          → (walk D (joined_below D) k u (D.left v) (suc v) ≡ true → walk D (listed_below D) k u (D.left v) (suc v) ≡ true)
          → walk D (listed_below D) (suc k) u v m ≡ true
      go true f t g ihl ihr = absurd (true-false (sym (rw (f, walk) at e)))
      go false f stop g ihl ihr = rw (not_listed m u v f, g, walk)
      go false f undo_left g ihl ihr = rw (not_listed m u v f, g, walk) (ihl (rw (f, g, walk) at e))
      go false f undo_right g ihl ihr = rw (not_listed m u v f, g, walk) (ihr (rw (f, g, walk) at e))

  listed_joined_walk : (k u v m : ℕ) → u < D.count → v < D.count → m ≤ D.count → (D.long u ≡ true → u < m) → (D.long v ≡ true → v < m)
      → walk D (listed_below D) k u v m ≡ true → walk D (joined_below D) k u v m ≡ true
  listed_joined_walk zero u v m hu hv hm lu lv e = e
  listed_joined_walk (suc k) u v m hu hv hm lu lv e =
      go (none-joined (suc k) u v m hu hv hm lu lv e) (listed_below D m u v) refl (turn D u v) refl (turned D u v)
      (λ h. listed_joined_walk k (D.right u) v u h hv (omega arith)) (λ h. listed_joined_walk k u (D.left v) (suc v) hu h hv)
    where
      go : joined_below D m u v ≡ false → (b : Bool) → listed_below D m u v ≡ b → (t : Turn) → turn D u v ≡ t → Turned D t u v
          → (D.right u < D.count → (D.long (D.right u) ≡ true → D.right u < u) → (D.long v ≡ true → v < u) → walk D (listed_below D) k (D.right u) v u ≡ true → walk D (joined_below D) k (D.right u) v u ≡ true)
          → (D.left v < D.count → (D.long u ≡ true → u < suc v) → (D.long (D.left v) ≡ true → D.left v < suc v) → walk D (listed_below D) k u (D.left v) (suc v) ≡ true → walk D (joined_below D) k u (D.left v) (suc v) ≡ true)
          → walk D (joined_below D) (suc k) u v m ≡ true
      go f true l t g d ihl ihr = absurd (true-false (sym (rw (l, walk) at e)))
      go f false l stop g d ihl ihr = rw (f, g, walk)
      go f false l undo_left g d ihl ihr =
          let b = A.laws.right_below u d.long in
          rw (f, g, walk) (ihl (omega arith) (λ _. b) d.higher (rw (l, g, walk) at e))
      go f false l undo_right g d ihl ihr =
          let b = A.laws.left_below v d.long in
          rw (f, g, walk) (ihr (omega arith) (λ h. omega (arith, d.higher h)) (λ _. omega arith) (rw (l, g, walk) at e))

  -- the two readings of the pair check agree, over the rows below any limit
  pub readings_agree : (q u v : ℕ) → q ≤ D.count → u < q → v < q → passes_joined D q u v ≡ passes D q u v
  readings_agree q u v h hu hv = bool_cases (passes D q u v)
      (λ e. listed_joined_walk (suc (u + v)) u v q (omega arith) (omega arith) h (λ _. hu) (λ _. hv) e ∙ sym e)
      (λ e. bool_cases (passes_joined D q u v) (λ f. absurd (true-false (sym (joined-listed (suc (u + v)) u v q f) ∙ e))) (λ f. f ∙ sym e))
