-- A turn of the pair check over tables. Assumes nothing.
use mathlib.Core.Path.{◌≡◌, sym, ◌∙◌}
use mathlib.Core.Logic.{◌⊎◌, inl, inr, ⊎_elim}
use mathlib.Core.List.{List, []}
use mathlib.Core.Bool.{Bool, true, false, ◌||◌}
use Prim.Native.Nat.{ℕ, ◌+◌, ◌≤◌, ◌<◌}
use native.Mathlib.Decide.{ℕ_discrete, dec_lt}
use native.Mathlib.Numerals.{add-one}
use native.Mathlib.Omega.{arith}
use lib.ListN.{length, get_or}
use lib.Dec.{ltb, eqb}
use borrow.Author.Tests.{lt-ltb, le-ltb, eq-eqb, eqb-true}
use Rattle.theory.specs.Dictionary.{Dictionary, none}
use Rattle.theory.proofs.Lists.{true-false}
use Rattle.theory.specs.PairCheck.{listed_below, passes}
use Rattle.theory.proofs.PairSteps.{listed-one, Falling, checks, check-fails, check-ends, check-left, check-right}
use Rattle.phrase_file.specs.Form.{rows}
use Rattle.tables.specs.Tables.{PairTables}
use Rattle.tables.specs.Ready.{PlacesReady, PartsReady}
use Rattle.search_area.specs.Area.{Finds}
use Rattle.pair_check.specs.Pair.{Distinct, Tells, PairsMarked, PairReady, JoinIs, PairIs}
use Rattle.pair_check.proofs.Joins as Joins

-- which of two rows is undone, the left one being longer
module _ (x y p : ℕ) (r : Bool) (e : r ≡ ltb y x || eqb p y) where
  pub undone_first : r ≡ true → (y < x) ⊎ (p ≡ y)
  undone_first t = go (dec_lt y x)
    where
      go : Dec (y < x) → (y < x) ⊎ (p ≡ y)
      go (yes h) = inl h
      go (no h) = inr (eqb-true p y (sym (rw (le-ltb y x (omega arith)) at e) ∙ t))

  pub undone_later : r ≡ false → (x ≤ y) × (p ≡ y → ⊥)
  undone_later f = go (dec_lt y x)
    where
      go : Dec (y < x) → (x ≤ y) × (p ≡ y → ⊥)
      go (yes h) = absurd (true-false (sym (rw (lt-ltb y x h) at e) ∙ f))
      go (no h) = (omega arith, λ z. true-false (sym (rw (le-ltb y x (omega arith), eq-eqb p y z) at e) ∙ f))

-- what stands still while two rows are undone
module _ (file places lefts rights : List ℕ) (n q : ℕ) (Q : PlacesReady file places n) (S : PartsReady file lefts rights q) (few : q ≤ n) where
  -- a part that differs from its row is that of a longer row, and is lower
  pub record Part (c part : ℕ) : Type 0 where
    pub lower : part < c
    pub longer : 1 < length (get_or (rows file) c [])

  sized : (c : ℕ) → c < q → (length (get_or (rows file) c []) ≡ 1) ⊎ (1 < length (get_or (rows file) c []))
  sized c h = go (ℕ_discrete (length (get_or (rows file) c [])) 1)
    where
      go : Dec (length (get_or (rows file) c []) ≡ 1) → (length (get_or (rows file) c []) ≡ 1) ⊎ (1 < length (get_or (rows file) c []))
      go (yes e) = inl e
      go (no e) = inr (let f = Q.filled c (omega arith) in omega arith)

  pub right-part : (c p : ℕ) → c < q → p ≡ get_or rights c 0 → (p ≡ c → ⊥) → Part c p
  right-part c p h e d = ⊎_elim (λ o. absurd (d (e ∙ (S.single c h o).1))) (λ l. record { lower = rw e (S.lower c h l).right; longer = l }) (sized c h)

  pub left-part : (c p : ℕ) → c < q → p ≡ get_or lefts c 0 → (p ≡ c → ⊥) → Part c p
  left-part c p h e d = ⊎_elim (λ o. absurd (d (e ∙ (S.single c h o).0))) (λ l. record { lower = rw e (S.lower c h l).left; longer = l }) (sized c h)

  pub right-single : (c p : ℕ) → c < q → p ≡ get_or rights c 0 → p ≡ c → length (get_or (rows file) c []) ≡ 1
  right-single c p h e d = ⊎_elim (λ o. o) (λ l. absurd (let z = (S.lower c h l).right in omega arith)) (sized c h)

  pub left-single : (c p : ℕ) → c < q → p ≡ get_or lefts c 0 → p ≡ c → length (get_or (rows file) c []) ≡ 1
  left-single c p h e d = ⊎_elim (λ o. o) (λ l. absurd (let z = (S.lower c h l).left in omega arith)) (sized c h)

  module _ (D : Dictionary) (T : Tells D file lefts rights q) where
    pub falling : Falling D q
    falling = record {
      left_below = λ w h e. rw (← T.left w h) (S.lower w h (Joins.longer file lefts rights q D T w h e)).left;
      right_below = λ w h e. rw (← T.right w h) (S.lower w h (Joins.longer file lefts rights q D T w h e)).right;
    }

    -- the answers of a turn over x and y below m, and what goes on
    module _ (x y m : ℕ) (hx : x < q) (hy : y < q) where
      pub fails : listed_below D m x y ≡ true → checks D (listed_below D) x y m ≡ false
      fails l = check-fails D (listed_below D) q falling x y m l

      module _ (clear : listed_below D m x y ≡ false) where
        pub ends : length (get_or (rows file) x []) ≡ 1 → length (get_or (rows file) y []) ≡ 1 → checks D (listed_below D) x y m ≡ true
        ends a b = check-ends D (listed_below D) q falling x y m clear (Joins.short file lefts rights q D T x hx a) (Joins.short file lefts rights q D T y hy b)

        pub undo_left : (p : ℕ) → p ≡ get_or rights x 0 → Part x p → (1 < length (get_or (rows file) y []) → y < x)
            → checks D (listed_below D) x y m ≡ checks D (listed_below D) p y x
        undo_left p e r h =
            rw (e, T.right x hx) (check-left D (listed_below D) q falling x y m hx hy clear (Joins.long file lefts rights q D T x hx r.longer) (λ l. h (Joins.longer file lefts rights q D T y hy l)))

        pub undo_right : (p : ℕ) → p ≡ get_or lefts y 0 → Part y p → (1 < length (get_or (rows file) x []) → x ≤ y)
            → checks D (listed_below D) x y m ≡ checks D (listed_below D) x p (y + 1)
        undo_right p e r h =
            rw (e, T.left y hy, add-one) (check-right D (listed_below D) q falling x y m hx hy clear (Joins.long file lefts rights q D T y hy r.longer) (λ l. h (Joins.longer file lefts rights q D T x hx l)))

-- the two rows and the limit at a turn of the loop, and that what is left to check decides the whole
pub record Walking (P : PairTables) (n q u v left right bound : ℕ) : Type 0 where
  pub ready : PairReady P n q u v
  pub left_below : left < q
  pub right_below : right < q
  pub bound_below : bound ≤ q
  pub same : (D : Dictionary) → Tells D P.file P.lefts P.rights q → Distinct P.file → Finds P.file P.places n P.area → PairsMarked P.lefts P.rights P.area q → checks D (listed_below D) left right bound ≡ passes D q u v

module _ (P : PairTables) (n q u v x y m : ℕ) (W : Walking P n q u v x y m) where
  here : PairReady P n q x y
  here = record {
    places_ready = W.ready.places_ready;
    parts_ready = W.ready.parts_ready;
    area_room = W.ready.area_room;
    few = W.ready.few;
    left_below = W.left_below;
    right_below = W.right_below;
  }

module _ (P : PairTables) (n q u v x y m b : ℕ) (W : Walking P n q u v x y m)
    (J : JoinIs P n q m x y b) where
  open P use {file, places, lefts, rights, area}

  some : (b ≡ none → ⊥) → (D : Dictionary) → Tells D file lefts rights q → Distinct file → Finds file places n area → listed_below D m x y ≡ true
  some z D T d F = listed-one D m x y b (⊎_elim (λ e. absurd (z e)) (λ h. h) J.bound) (J.is z (here P n q u v x y m W) D T d F)

  pub walk-fails : (b ≡ none → ⊥) → PairIs P n q u v false
  walk-fails l = record {
    passes_is = λ D T d F M.
        sym (fails file places lefts rights n q W.ready.places_ready W.ready.parts_ready W.ready.few D T x y m W.left_below W.right_below (some l D T d F))
        ∙ W.same D T d F M;
  }

  module _ (l : b ≡ none) where
    clear : (D : Dictionary) → Tells D file lefts rights q → Distinct file → Finds file places n area → PairsMarked lefts rights area q → listed_below D m x y ≡ false
    clear = J.nothing l (here P n q u v x y m W)

    pub walk_ends : (p r : ℕ) → p ≡ get_or rights x 0 → p ≡ x → r ≡ get_or lefts y 0 → r ≡ y → PairIs P n q u v true
    walk_ends p r ep dp er dr =
        let Q = W.ready.places_ready in
        let S = W.ready.parts_ready in
        let f = W.ready.few in
        record {
          passes_is = λ D T d F M.
              sym (ends file places lefts rights n q Q S f D T x y m W.left_below W.right_below (clear D T d F M)
              (right-single file places lefts rights n q Q S f x p W.left_below ep dp) (left-single file places lefts rights n q Q S f y r W.right_below er dr))
              ∙ W.same D T d F M;
        }

    -- the left one is undone: it is longer, and the right one is lower or a single byte
    pub walk-left : (p r : ℕ) → p ≡ get_or rights x 0 → (p ≡ x → ⊥) → r ≡ get_or lefts y 0 → (y < x) ⊎ (r ≡ y)
        → (p < x) × Walking P n q u v p y x
    walk-left p r ep dp er o =
        let Q = W.ready.places_ready in
        let S = W.ready.parts_ready in
        let f = W.ready.few in
        let a = right-part file places lefts rights n q Q S f x p W.left_below ep dp in
        let lo = a.lower in
        let hx = W.left_below in (
          lo,
          record {
            ready = W.ready;
            left_below = omega arith;
            right_below = W.right_below;
            bound_below = omega arith;
            same = λ D T d F M.
                sym (undo_left file places lefts rights n q Q S f D T x y m W.left_below W.right_below (clear D T d F M) p ep a
                (λ z. ⊎_elim (λ h. h) (λ e. absurd (let s = left-single file places lefts rights n q Q S f y r W.right_below er e in omega arith)) o))
                ∙ W.same D T d F M;
          },
        )

    pub walk-right : (p r : ℕ) → p ≡ get_or rights x 0 → r ≡ get_or lefts y 0 → (r ≡ y → ⊥) → (x ≤ y) ⊎ (p ≡ x)
        → (r < y) × Walking P n q u v x r (y + 1)
    walk-right p r ep er dr o =
        let Q = W.ready.places_ready in
        let S = W.ready.parts_ready in
        let f = W.ready.few in
        let a = left-part file places lefts rights n q Q S f y r W.right_below er dr in
        let lo = a.lower in
        let hy = W.right_below in (
          lo,
          record {
            ready = W.ready;
            left_below = W.left_below;
            right_below = omega arith;
            bound_below = omega arith;
            same = λ D T d F M.
                sym (undo_right file places lefts rights n q Q S f D T x y m W.left_below W.right_below (clear D T d F M) r er a
                (λ z. ⊎_elim (λ h. h) (λ e. absurd (let s = right-single file places lefts rights n q Q S f x p W.left_below ep e in omega arith)) o))
                ∙ W.same D T d F M;
          },
        )
