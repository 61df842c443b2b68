-- Undoing keeps the last byte of the left row and the first byte of the right one. So where their seam is not marked, no row has two of the rows that are
-- met on the way as its parts, and the pair check passes. Assumes nothing.
use mathlib.Core.Path.{◌≡◌, refl, sym, ap, ap₂, ◌∙◌}
use mathlib.Core.List.{List, [], ◌++◌}
use mathlib.Core.Bool.{Bool, true, false}
use Prim.Native.Nat.{ℕ, zero, suc, ◌+◌, ◌-◌, ◌≤◌, ◌<◌}
use native.Mathlib.Omega.{arith}
use lib.ListN.{length, length-append, get_or, get_or-append}
use lib.Seq.{get_or-append-add}
use Rattle.theory.specs.Dictionary.{Dictionary}
use Rattle.theory.specs.PairCheck.{Turn, stop, undo_left, undo_right, turn, listed_below, walk}
use Rattle.theory.proofs.Lists.{true-false}
use Rattle.theory.proofs.Stage.{listed-is}
use Rattle.theory.proofs.PairCheck.{Turned, turned}
use Rattle.theory.proofs.PairSteps.{Falling, listed-none}
use Rattle.phrase_file.specs.Form.{rows}
use Rattle.placed_rows.specs.Rows.{row}
use Rattle.tables.specs.Tables.{PairTables}
use Rattle.tables.specs.Ready.{PlacesReady}
use Rattle.marks.specs.Marks.{marked}
use Rattle.pair_check.specs.Pair.{Tells, seam_key, first_byte, last_byte, seam_at, SeamsMarked, PairReady, PassIs}
use Rattle.pair_check.proofs.Turns.{falling}

-- the bytes of two joined texts at their cut, at the end and at the front
module _ (s t : List ℕ) where
  before-cut : 1 ≤ length s → get_or (s ++ t) (length s - 1) 0 ≡ get_or s (length s - 1) 0
  before-cut h = get_or-append s t 0 (length s - 1) (omega arith)

  at_cut : get_or (s ++ t) (length s) 0 ≡ get_or t 0 0
  at_cut = let e : length s ≡ length s + 0 = omega arith in ap (λ (k : ℕ). get_or (s ++ t) k 0) e ∙ get_or-append-add s t 0 0

  last-kept : 1 ≤ length t → get_or (s ++ t) (length (s ++ t) - 1) 0 ≡ get_or t (length t - 1) 0
  last-kept h =
      let e : length (s ++ t) - 1 ≡ length s + (length t - 1) = omega (arith, length-append s t) in
      ap (λ (k : ℕ). get_or (s ++ t) k 0) e ∙ get_or-append-add s t (length t - 1) 0

  first-kept : 1 ≤ length s → get_or (s ++ t) 0 0 ≡ get_or s 0 0
  first-kept h = get_or-append s t 0 0 (omega arith)

-- the bytes s that are read of row c, as an index x
module _ (file places : List ℕ) (n : ℕ) (Q : PlacesReady file places n) (c x : ℕ) (h : c < n) (i : x ≡ c) (s : List ℕ) (e : s ≡ row file places n x) where
  read_is : s ≡ get_or (rows file) c []
  read_is = e ∙ ap (row file places n) i ∙ Q.rows_are c h

  pub first_read : get_or s 0 0 ≡ first_byte file c
  unfolding first_byte
  first_read = ap (λ (t : List ℕ). get_or t 0 0) read_is

  pub last-read : get_or s (length s - 1) 0 ≡ last_byte file c
  unfolding last_byte
  last-read = ap (λ (t : List ℕ). get_or t (length t - 1) 0) read_is

-- row w is joined from x and y
module _ (file : List ℕ) (w x y : ℕ) (e : get_or (rows file) w [] ≡ get_or (rows file) x [] ++ get_or (rows file) y [])
    (fx : 1 ≤ length (get_or (rows file) x [])) (fy : 1 ≤ length (get_or (rows file) y [])) where
  -- its seam is that of the two
  seam-is : seam_at file w x ≡ seam_key (last_byte file x) (first_byte file y)
  unfolding seam_at last_byte first_byte
  seam-is = rw e (ap₂ seam_key (before-cut (get_or (rows file) x []) (get_or (rows file) y []) fx) (at_cut (get_or (rows file) x []) (get_or (rows file) y [])))

  last_is : last_byte file w ≡ last_byte file y
  unfolding last_byte
  last_is = rw e (last-kept (get_or (rows file) x []) (get_or (rows file) y []) fy)

  first-is : first_byte file w ≡ first_byte file x
  unfolding first_byte
  first-is = rw e (first-kept (get_or (rows file) x []) (get_or (rows file) y []) fx)

module _ (P : PairTables) (n q u v : ℕ) (R : PairReady P n q u v) where
  open P use {file, places, lefts, rights, area}

  -- the seam of the bytes a and b is not marked
  module _ (D : Dictionary) (T : Tells D file lefts rights q) (M : SeamsMarked file lefts area q) (a b : ℕ) (off : marked area 14848 (seam_key a b) ≡ false) where
    fall : Falling D q
    fall = falling file places lefts rights n q R.places_ready R.parts_ready R.few D T

    filled : (c : ℕ) → c < q → 1 ≤ length (get_or (rows file) c [])
    filled c h = let f = R.few in R.places_ready.filled c (omega arith)

    module _ (c : ℕ) (h : c < q) (long : D.long c ≡ true) where
      left_in : D.left c < q
      left_in = omega (arith, fall.left_below c h long)

      right_in : D.right c < q
      right_in = omega (arith, fall.right_below c h long)

      joined : get_or (rows file) c [] ≡ get_or (rows file) (D.left c) [] ++ get_or (rows file) (D.right c) []
      joined = sym (T.bytes c h) ∙ sym (T.joined c h long) ∙ ap₂ (λ (s t : List ℕ). s ++ t) (T.bytes (D.left c) left_in) (T.bytes (D.right c) right_in)

      seam_of_parts : seam_at file c (D.left c) ≡ seam_key (last_byte file (D.left c)) (first_byte file (D.right c))
      seam_of_parts = seam-is file c (D.left c) (D.right c) joined (filled (D.left c) left_in) (filled (D.right c) right_in)

      last_of_right : last_byte file c ≡ last_byte file (D.right c)
      last_of_right = last_is file c (D.left c) (D.right c) joined (filled (D.left c) left_in) (filled (D.right c) right_in)

      first_of_left : first_byte file c ≡ first_byte file (D.left c)
      first_of_left = first-is file c (D.left c) (D.right c) joined (filled (D.left c) left_in) (filled (D.right c) right_in)

      seam-marked : marked area 14848 (seam_key (last_byte file (D.left c)) (first_byte file (D.right c))) ≡ true
      seam-marked =
          let l = T.left c h in
          sym (ap (marked area 14848) (ap (seam_at file c) l ∙ seam_of_parts)) ∙ M c h (omega (arith, l, fall.left_below c h long))

    -- no row has x and y as its parts
    unlisted : (x y m : ℕ) → m ≤ q → last_byte file x ≡ a → first_byte file y ≡ b → listed_below D m x y ≡ false
    unlisted x y m hm ea eb = listed-none D m x y (λ w h e.
        let s = listed-is D w x y e in
        let k : w < q = omega arith in
        let f : seam_key (last_byte file (D.left w)) (first_byte file (D.right w)) ≡ seam_key a b = ap₂ seam_key (ap (last_byte file) (sym s.left) ∙ ea) (ap (first_byte file) (sym s.right) ∙ eb) in
        true-false (sym (seam-marked w k s.long) ∙ ap (marked area 14848) f ∙ off))

    walks : (k x y m : ℕ) → x < q → y < q → x + y < k → m ≤ q → last_byte file x ≡ a → first_byte file y ≡ b → walk D (listed_below D) k x y m ≡ true
    walks zero x y m hx hy hk hm ea eb = absurd (omega arith)
    walks (suc k) x y m hx hy hk hm ea eb =
        go (turn D x y) refl (turned D x y)
        (λ h e. walks k (D.right x) y x (omega arith) hy (omega arith) (omega arith) e eb)
        (λ h e. walks k x (D.left y) (suc y) hx (omega arith) (omega arith) (omega arith) ea e)
      where
        f : listed_below D m x y ≡ false
        f = unlisted x y m hm ea eb

        go : (t : Turn) → turn D x y ≡ t → Turned D t x y
            → (D.right x < x → last_byte file (D.right x) ≡ a → walk D (listed_below D) k (D.right x) y x ≡ true)
            → (D.left y < y → first_byte file (D.left y) ≡ b → walk D (listed_below D) k x (D.left y) (suc y) ≡ true)
            → walk D (listed_below D) (suc k) x y m ≡ true
        go stop g d ihl ihr = rw (f, g, walk)
        go undo_left g d ihl ihr = rw (f, g, walk) (ihl (fall.right_below x hx d.long) (sym (last_of_right x hx d.long) ∙ ea))
        go undo_right g d ihl ihr = rw (f, g, walk) (ihr (fall.left_below y hy d.long) (sym (first_of_left y hy d.long) ∙ eb))

  -- two rows whose seam is not marked pass
  pub pass-unmarked : (b : Bool) → b ≡ marked area 14848 (seam_key (last_byte file u) (first_byte file v)) → b ≡ false → PassIs P n q u v true
  pass-unmarked b e z = record {
    passes_is = λ D T d F M S. sym (walks D T S (last_byte file u) (first_byte file v) (sym e ∙ z) (suc (u + v)) u v q R.left_below R.right_below (omega arith) (omega arith) refl refl);
  }
