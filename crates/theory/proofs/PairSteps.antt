-- The pair check turn by turn: what a loop over it needs. Fuel beyond u + v does not matter, so that each turn is an equation.
use mathlib.Core.Path.{◌≡◌, refl}
use mathlib.Core.Logic.{⊎_elim}
use mathlib.Core.Bool.{Bool, true, false}
use Prim.Native.Nat.{ℕ, zero, suc, ◌+◌, ◌≤◌, ◌<◌}
use native.Mathlib.Nat.{eq-or-lt_of_le}
use native.Mathlib.Omega.{arith}
use borrow.Author.Tests.{lt-ltb, le-ltb}
use Rattle.theory.specs.Dictionary.{Dictionary}
use Rattle.theory.specs.Paper.{listed}
use Rattle.theory.specs.PairCheck.{Turn, stop, undo_left, undo_right, turn, listed_below, walk}
use Rattle.theory.proofs.Lists.{bool_cases}
use Rattle.theory.proofs.PairCheck.{Turned, turned, listed_below-some}

-- parts are lower rows, below q
pub record Falling (D : Dictionary) (q : ℕ) : Type 0 where
  pub left_below : (w : ℕ) → w < q → D.long w ≡ true → D.left w < w
  pub right_below : (w : ℕ) → w < q → D.long w ≡ true → D.right w < w

module _ (D : Dictionary) (across : ℕ → ℕ → ℕ → Bool) where
  -- the check of u and v with the limit m
  abbrev pub checks : ℕ → ℕ → ℕ → Bool
  checks u v m = walk D across (suc (u + v)) u v m

  module _ (q : ℕ) (P : Falling D q) where
    enough : (k j u v m : ℕ) → u < q → v < q → u + v < k → u + v < j → walk D across k u v m ≡ walk D across j u v m
    enough zero j u v m hu hv hk hj = absurd (omega arith)
    enough (suc k) zero u v m hu hv hk hj = absurd (omega arith)
    enough (suc k) (suc j) u v m hu hv hk hj =
        go (across m u v) refl (turn D u v) refl (turned D u v)
        (λ h. enough k j (D.right u) v u (omega arith) hv (omega arith) (omega arith))
        (λ h. enough k j u (D.left v) (suc v) hu (omega arith) (omega arith) (omega arith))
      where
        go : (b : Bool) → across m u v ≡ b → (t : Turn) → turn D u v ≡ t → Turned D t u v
            → (D.right u < u → walk D across k (D.right u) v u ≡ walk D across j (D.right u) v u)
            → (D.left v < v → walk D across k u (D.left v) (suc v) ≡ walk D across j u (D.left v) (suc v))
            → walk D across (suc k) u v m ≡ walk D across (suc j) u v m
        go true f t g d ihl ihr = rw (f, walk)
        go false f stop g d ihl ihr = rw (f, g, walk)
        go false f undo_left g d ihl ihr = rw (f, g, walk) (ihl (P.right_below u hu d.long))
        go false f undo_right g d ihl ihr = rw (f, g, walk) (ihr (P.left_below v hv d.long))

    pub check-fails : (u v m : ℕ) → across m u v ≡ true → checks u v m ≡ false
    check-fails u v m f = rw (f, walk)

    pub check-ends : (u v m : ℕ) → across m u v ≡ false → D.long u ≡ false → D.long v ≡ false → checks u v m ≡ true
    check-ends u v m f a b = rw (f, a, b, walk)

    turn-left : (u v : ℕ) → D.long u ≡ true → (D.long v ≡ true → v < u) → turn D u v ≡ undo_left
    turn-left u v a b = bool_cases (D.long v) (λ c. rw (a, c, lt-ltb v u (b c))) (λ c. rw (a, c))

    turn-right : (u v : ℕ) → D.long v ≡ true → (D.long u ≡ true → u ≤ v) → turn D u v ≡ undo_right
    turn-right u v a b = bool_cases (D.long u) (λ c. rw (a, c, le-ltb v u (b c))) (λ c. rw (a, c))

    -- the left one is undone
    pub check-left : (u v m : ℕ) → u < q → v < q → across m u v ≡ false → D.long u ≡ true → (D.long v ≡ true → v < u) → checks u v m ≡ checks (D.right u) v u
    check-left u v m hu hv f a b =
        let h = P.right_below u hu a in
        rw (f, turn-left u v a b, walk) (enough (u + v) (suc (D.right u + v)) (D.right u) v u (omega arith) hv (omega arith) (omega arith))

    -- the right one is undone
    pub check-right : (u v m : ℕ) → u < q → v < q → across m u v ≡ false → D.long v ≡ true → (D.long u ≡ true → u ≤ v) → checks u v m ≡ checks u (D.left v) (suc v)
    check-right u v m hu hv f a b =
        let h = P.left_below v hv a in
        rw (f, turn-right u v a b, walk) (enough (u + v) (suc (u + D.left v)) u (D.left v) (suc v) hu (omega arith) (omega arith) (omega arith))

module _ (D : Dictionary) where
  -- a row below m that has the two as its parts
  pub listed-one : (m u v w : ℕ) → w < m → listed D w u v ≡ true → listed_below D m u v ≡ true
  listed-one zero u v w h e = absurd (omega arith)
  listed-one (suc m) u v w h e = ⊎_elim (λ i. let i' : w ≡ m = omega arith in rw (← i', e)) (λ l. go (listed D m u v) refl (listed-one m u v w (omega arith) e)) (eq-or-lt_of_le h)
    where
      go : (b : Bool) → listed D m u v ≡ b → listed_below D m u v ≡ true → listed_below D (suc m) u v ≡ true
      go true f ih = rw f
      go false f ih = rw (f, ih)

  -- none of them has
  pub listed-none : (m u v : ℕ) → ((w : ℕ) → w < m → listed D w u v ≡ true → ⊥) → listed_below D m u v ≡ false
  listed-none m u v n = bool_cases (listed_below D m u v) (λ e. let w = listed_below-some D m u v e in absurd (n w.0 w.1 w.2)) (λ e. e)
