-- The rows go in by rising length. Assumes nothing.
use mathlib.Core.Path.{◌≡◌, refl, sym, ap, ◌∙◌, subst}
use mathlib.Core.List.{List}
use mathlib.Core.Logic.{◌⊎◌, inl, inr, ⊎_elim}
use mathlib.Core.Bool.{Bool}
use Prim.Native.Nat.{ℕ, ◌+◌, ◌*◌, ◌≤◌, ◌<◌}
use native.Mathlib.Decide.{dec_lt}
use native.Mathlib.Omega.{arith}
use lib.ListN.{length}
use lib.Dec.{ltb}
use borrow.Author.Tests.{lt-ltb, ltb-true}
use Rattle.placed_rows.specs.Rows.{row}
use Rattle.placed_rows.proofs.Beginning.{and_both, iff, no_true}
use Rattle.forest.specs.Words.{In}
use Rattle.forest.specs.Growth.{with_row, Fresh}
use Rattle.forest.proofs.Joining.{with_in, with_old, with_new}
use Rattle.search_area.specs.Area.{Holds, all_rows, Finds}
use Rattle.search_fill.specs.Filled.{Fillable, AreaFilled}
use Rattle.search_fill.specs.Steps.{emptied, RowIn, before, RowsIn}
use Rattle.search_fill.proofs.Parting.{emptied-length, emptied-beyond, emptied-holds}

module _ (R : ℕ → List ℕ) (n : ℕ) where
  abbrev time : ℕ → ℕ
  time d = length (R d) * 4096 + d

  before-is : (x d : ℕ) → In (before R n x) d → (d < n) × (time d < x)
  before-is x d e = let q = and_both (ltb d n) (ltb (time d) x) e in (ltb-true d n q.0, ltb-true (time d) x q.1)

  is-before : (x d : ℕ) → d < n → time d < x → In (before R n x) d
  is-before x d l h = rw (lt-ltb d n l, lt-ltb (time d) x h)

  -- no row goes in between: the set stays
  before_same : (x y : ℕ) → x ≤ y → ((d : ℕ) → d < n → time d < y → time d < x) → (d : ℕ) → before R n x d ≡ before R n y d
  before_same x y h k d = iff (before R n x d) (before R n y d)
      (λ e. let q = before-is x d e in is-before y d q.0 (let z = q.1 in omega arith))
      (λ e. let q = before-is y d e in is-before x d q.0 (k d q.0 q.1))

  module _ (N : n ≤ 4096) (len c : ℕ) (C : c < n) where
    -- what goes in at time 4096 * len + c is row c, if that has len bytes
    turn_of : (d : ℕ) → d < n → time d < len * 4096 + (c + 1) → (time d < len * 4096 + c) ⊎ ((d ≡ c) × (length (R d) ≡ len))
    turn_of d h k = go (dec_lt (time d) (len * 4096 + c))
      where
        go : Dec (time d < len * 4096 + c) → (time d < len * 4096 + c) ⊎ ((d ≡ c) × (length (R d) ≡ len))
        go (yes l) = inl l
        go (no l) = inr (omega arith, omega arith)

    skipped : (length (R c) ≡ len → ⊥) → (d : ℕ) → before R n (len * 4096 + c) d ≡ before R n (len * 4096 + (c + 1)) d
    skipped h = before_same (len * 4096 + c) (len * 4096 + (c + 1)) (omega arith)
        (λ d l k. ⊎_elim (λ e. e) (λ e. absurd (h (ap (λ (i : ℕ). length (R i)) (sym e.0) ∙ e.1))) (turn_of d l k))

    module _ (e : length (R c) ≡ len) where
      joined : (d : ℕ) → with_row (before R n (len * 4096 + c)) c d ≡ before R n (len * 4096 + (c + 1)) d
      joined d = iff (with_row (before R n (len * 4096 + c)) c d) (before R n (len * 4096 + (c + 1)) d)
          (λ w. ⊎_elim
          (λ z. let v = ap (λ (i : ℕ). length (R i)) z in is-before (len * 4096 + (c + 1)) d (omega arith) (omega arith))
          (λ z. let q = before-is (len * 4096 + c) d z in let b = q.1 in is-before (len * 4096 + (c + 1)) d q.0 (omega arith))
          (with_in (before R n (len * 4096 + c)) c d w))
          (λ w. let q = before-is (len * 4096 + (c + 1)) d w in
          ⊎_elim
          (λ z. with_old (before R n (len * 4096 + c)) c d (is-before (len * 4096 + c) d q.0 z))
          (λ z. ap (with_row (before R n (len * 4096 + c)) c) z.0 ∙ with_new (before R n (len * 4096 + c)) c)
          (turn_of d q.0 q.1))

      fresh : Fillable R n → Fresh R n (before R n (len * 4096 + c)) c
      fresh G = record {
        below = C;
        new = no_true (before R n (len * 4096 + c) c) (λ t. let q = (before-is (len * 4096 + c) c t).1 in omega arith);
        filled = G.filled c C;
        rising = λ d t. let q = before-is (len * 4096 + c) d t in let a = q.0 in let b = q.1 in omega arith;
        distinct = λ d t z.
            let q = before-is (len * 4096 + c) d t in
            let b = q.1 in
            let v = ap (λ (i : ℕ). length (R i)) (G.distinct d c q.0 C z) in
            let w = G.distinct d c q.0 C z in
            omega arith;
      }

module _ (file places : List ℕ) (n : ℕ) where
  abbrev R : ℕ → List ℕ
  R = row file places n

  holds_same : (area : List ℕ) (S U : ℕ → Bool) → ((d : ℕ) → S d ≡ U d) → Holds file places n area S → Holds file places n area U
  holds_same area S U e H = subst (λ (W : ℕ → Bool). Holds file places n area W) (λ i d. e d i) H

  -- no row goes in
  pub rows_same : (area : List ℕ) (x y : ℕ) → ((d : ℕ) → before R n x d ≡ before R n y d) → RowsIn file places n area x area y
  rows_same area x y e = record { area_length = refl; area_beyond = refl; holds = λ G H. holds_same area (before R n x) (before R n y) e H }

  pub rows_start : (area : List ℕ) (x y : ℕ) → x ≡ y → RowsIn file places n area x area y
  rows_start area x y e = rows_same area x y (λ d. ap (λ (z : ℕ). before R n z d) e)

  pub rows_join : (area : List ℕ) (x : ℕ) (area' : List ℕ) (y : ℕ) (area'' : List ℕ) (z : ℕ) → RowsIn file places n area x area' y → RowsIn file places n area' y area'' z
      → RowsIn file places n area x area'' z
  rows_join area x area' y area'' z f g = record {
    area_length = g.area_length ∙ f.area_length;
    area_beyond = g.area_beyond ∙ f.area_beyond;
    holds = λ G H. g.holds G (f.holds G H);
  }

  module _ (N : n ≤ 4096) (area : List ℕ) (len c : ℕ) where
    -- a row of another length, a row of this length, and no row any more
    pub rows_skip : c < n → (length (R c) ≡ len → ⊥) → RowsIn file places n area (len * 4096 + c) area (len * 4096 + (c + 1))
    rows_skip C h = rows_same area (len * 4096 + c) (len * 4096 + (c + 1)) (skipped R n N len c C h)

    pub rows-add : (area' : List ℕ) → c < n → length (R c) ≡ len → RowIn file places n area c area' → RowsIn file places n area (len * 4096 + c) area' (len * 4096 + (c + 1))
    rows-add area' C e I = record {
      area_length = I.area_length;
      area_beyond = I.area_beyond;
      holds = λ G H. holds_same area' (with_row (before R n (len * 4096 + c)) c) (before R n (len * 4096 + (c + 1))) (joined R n N len c C e)
          (I.holds (before R n (len * 4096 + c)) H (fresh R n N len c C e G));
    }

    pub rows_end : c ≡ n → RowsIn file places n area (len * 4096 + c) area ((len + 1) * 4096)
    rows_end e = rows_same area (len * 4096 + c) ((len + 1) * 4096) (before_same R n (len * 4096 + c) ((len + 1) * 4096) (omega arith) (λ d h k. omega arith))

  -- all rows are in
  pub area_filled : n ≤ 4096 → (area area' : List ℕ) → 16384 ≤ length area → RowsIn file places n (emptied area) 4096 area' (65 * 4096) → AreaFilled file places n area area'
  unfolding Finds
  area_filled N area area' A I = record {
    area_length = I.area_length ∙ emptied-length area A;
    area_beyond = I.area_beyond ∙ emptied-beyond area A;
    finds = λ G. (
      holds_same area' (before R n (65 * 4096)) (all_rows n) (every G)
          (I.holds G (emptied-holds area A file places n (before R n 4096) N (λ d s. let q = before-is R n 4096 d s in let b = q.1 in let f = G.filled d q.0 in omega arith))),
      G.whole,
    );
  }
    where
      every : Fillable R n → (d : ℕ) → before R n (65 * 4096) d ≡ all_rows n d
      every G d = iff (before R n (65 * 4096) d) (all_rows n d)
          (λ e. lt-ltb d n (before-is R n (65 * 4096) d e).0)
          (λ e. let l = ltb-true d n e in let s = G.whole.short d l in is-before R n (65 * 4096) d l (omega arith))
