-- The hints and the marks: emptied number by number, and written with the parts of a row. Assumes nothing.
use mathlib.Core.Path.{◌≡◌, refl, sym, ap, ◌∙◌}
use mathlib.Core.List.{List, []}
use mathlib.Core.Bool.{true}
use Prim.Native.Nat.{ℕ, ◌+◌, ◌-◌, ◌/◌, ◌≤◌, ◌<◌}
use mathlib.Core.Logic.{◌⊎◌, inl, inr, ⊎_elim}
use native.Mathlib.Omega.{arith}
use lib.ListN.{length, length-set, length-append, length-take, length-drop, length-replicate, get_or, get_or-replicate, set, drop, replicate}
use borrow.Rule.Slice.PartMut.{put_mid}
use Rattle.std.specs.List.{between}
use Rattle.std.proofs.lemmas.Slice.{take-put_mid_below, drop-put_mid, between-put_mid}
use lib.Seq.{get_or-take, get_or-drop, get_or-set_other, take-set-le, drop-set-lt}
use Rattle.phrase_file.specs.Form.{rows}
use Rattle.theory.specs.Dictionary.{none}
use Rattle.placed_rows.specs.Rows.{row}
use Rattle.placed_rows.specs.Texts.{Small}
use Rattle.marks.specs.Marks.{marked, Marks}
use Rattle.search_area.proofs.RowsPart.{finds-same}
use Rattle.pair_check.specs.Pair.{pair_key, seam_key, seam_at}
use Rattle.pair_check.proofs.Keys.{key-inside, seam-number}
use Rattle.parts.specs.Parts.{RowsFound}
use Rattle.parts.specs.Marking.{AreaKept, PairsEmptied, PairsStay, SeamsStay, Named, PartsWritten, SeamFit, SeamWritten}

pub kept-all : (area : List ℕ) → AreaKept area area
kept-all area = record { area_length = refl; before = refl; beyond = refl }

pub kept-through : (area area₁ area₂ : List ℕ) → AreaKept area area₁ → AreaKept area₁ area₂ → AreaKept area area₂
kept-through area area₁ area₂ k l = record {
  area_length = l.area_length ∙ k.area_length;
  before = l.before ∙ k.before;
  beyond = l.beyond ∙ k.beyond;
}

-- one number of the hints or the marks has changed
kept_set : (area : List ℕ) (i v : ℕ) → 12544 ≤ i → i < 16384 → AreaKept area (set area i v)
kept_set area i v h k = record {
  area_length = length-set area i v;
  before = take-set-le 12544 area i v h;
  beyond = drop-set-lt 16384 area i v k;
}

-- the rows are found as before
pub still-found : (file places area area' : List ℕ) (n : ℕ) → RowsFound file places area n → AreaKept area area' → RowsFound file places area' n
still-found file places area area' n R k = record {
  places_ready = R.places_ready;
  distinct = R.distinct;
  area_room = omega (arith, R.area_room, k.area_length);
  finds = finds-same file places n area area' (sym k.before) R.finds;
}

-- the hints and the marks are filled with none
pub pairs-emptied : (area filled : List ℕ) → 16384 ≤ length area → filled ≡ replicate 3840 none → PairsEmptied area (put_mid 12544 3840 area filled)
pairs-emptied area filled r e =
    let size : length filled ≡ 3840 = ap length e ∙ length-replicate 3840 none in
    let back : drop 16384 (put_mid 12544 3840 area filled) ≡ drop 16384 area = drop-put_mid 12544 3840 area filled 16384 (omega arith) (omega arith) size in
    let part : between 12544 16384 (put_mid 12544 3840 area filled) ≡ filled = between-put_mid 12544 3840 area filled 16384 (omega arith) size in
    record {
      kept = record {
        area_length = simp (length-append, length-take, length-drop) (omega (arith, size));
        before = take-put_mid_below 12544 3840 area filled 12544 (omega arith) (omega arith);
        beyond = back;
      };
      emptied = λ i h k.
          let j : i ≡ 12544 + (i - 12544) = omega arith in
          let b : i - 12544 < 3840 = omega arith in
          ap (λ (m : ℕ). get_or (put_mid 12544 3840 area filled) m 0) j
          ∙ sym (get_or-drop 12544 (put_mid 12544 3840 area filled) (i - 12544) 0)
          ∙ sym (get_or-take 3840 (drop 12544 (put_mid 12544 3840 area filled)) (i - 12544) 0 b)
          ∙ ap (λ (l : List ℕ). get_or l (i - 12544) 0) (part ∙ e)
          ∙ get_or-replicate 3840 (i - 12544) none 0 b;
    }

-- a number outside the marks of pairs, or of seams, has changed
pairs_stay : (area : List ℕ) (i v : ℕ) → i < 15360 → PairsStay area (set area i v)
unfolding marked
pairs_stay area i v h = λ k m. rw (get_or-set_other area i (15360 + k / 1024) v 0 (λ z. omega arith)) m

seams_stay : (area : List ℕ) (i v : ℕ) → (i < 14848) ⊎ (15360 ≤ i) → SeamsStay area (set area i v)
unfolding marked
seams_stay area i v h = λ a b m. rw (get_or-set_other area i (14848 + seam_key a b / 1024) v 0 (λ z. ⊎_elim (λ o. omega arith) (λ o. omega (arith, seam-number a b)) h)) m

pub seam-stays : (file area area' : List ℕ) (c l : ℕ) → SeamsStay area area' → marked area 14848 (seam_at file c l) ≡ true → marked area' 14848 (seam_at file c l) ≡ true
unfolding seam_at
seam-stays file area area' c l s = s (get_or (get_or (rows file) c []) (length (get_or (rows file) l []) - 1) 0) (get_or (get_or (rows file) c []) (length (get_or (rows file) l [])) 0)

-- a row is named: one number of the hints may have changed
pub named_set : (area : List ℕ) (p v : ℕ) → p < 4608 → Named area (set area (12544 + p / 2) v)
named_set area p v h = record {
  kept = kept_set area (12544 + p / 2) v (omega arith) (omega arith);
  old = pairs_stay area (12544 + p / 2) v (omega arith);
  seams = seams_stay area (12544 + p / 2) v (inl (omega arith));
}

module _ (lefts rights area : List ℕ) (w l r : ℕ) where
  -- a one-byte row has no pair
  pub written-single : w ≤ l → PartsWritten lefts rights area w l r (set lefts w l) (set rights w r) area
  written-single h = record { lefts_are = refl; rights_are = refl; kept = kept-all area; new = λ k. absurd (omega arith); old = λ k m. m; seams = λ a b m. m }

  -- a longer row was named, and its pair marked
  pub written-marked : (k : ℕ) (area' area'' : List ℕ) → Named area area' → k ≡ pair_key l r → Marks area' 15360 k area'' → PartsWritten lefts rights area w l r (set lefts w l) (set rights w r) area''
  written-marked k area' area'' N e m = record {
    lefts_are = refl;
    rights_are = refl;
    kept = kept-through area area' area'' N.kept (rw m.is (kept_set area' (15360 + k / 1024) m.number (omega arith) (key-inside l r k 16384 e (omega arith))));
    new = λ b. rw (← e) m.new;
    old = λ k b. m.old k (N.old k b);
    seams = λ a b i. let s : SeamsStay area' area'' = rw m.is (seams_stay area' (15360 + k / 1024) m.number (inr (omega arith))) in s a b (N.seams a b i);
  }

module _ (file places area : List ℕ) (n w l : ℕ) (F : SeamFit file places area n w l) where
  -- a one-byte row has no seam
  pub seam-single : w ≤ l → SeamWritten file area w l area
  seam-single h = record { kept = kept-all area; new = λ k. absurd (omega arith); old = λ k m. m; seams = λ a b m. m }

  -- the bytes s of row w, and the length m of row l, as they are read
  module _ (h : l < w) (s : List ℕ) (m : ℕ) (e : s ≡ row file places n w) (S : Small (length (row file places n l)) 256 m) where
    bytes_read : s ≡ get_or (rows file) w []
    bytes_read = e ∙ F.places_ready.rows_are w F.row_below

    low : l < n
    low = omega (arith, F.row_below)

    length-read : m ≡ length (get_or (rows file) l [])
    length-read = S.is ∙ ap length (F.places_ready.rows_are l low)

    pub cut-some : 1 ≤ m
    cut-some = omega (arith, length-read, F.places_ready.filled l low)

    pub cut_inside : m < length s
    cut_inside = omega (arith, length-read, ap length bytes_read, F.shorter (omega arith))

    seam-read : seam_key (get_or s (m - 1) 0) (get_or s m 0) ≡ seam_at file w l
    unfolding seam_at
    seam-read = rw (bytes_read, length-read)

    -- its seam was marked
    pub seam-written : (k : ℕ) (area' : List ℕ) → k ≡ seam_key (get_or s (m - 1) 0) (get_or s m 0) → Marks area 14848 k area' → SeamWritten file area w l area'
    seam-written k area' c M =
        let i : k / 1024 < 512 = omega (arith, ap (λ (z : ℕ). z / 1024) c, seam-number (get_or s (m - 1) 0) (get_or s m 0)) in
        record {
          kept = rw M.is (kept_set area (14848 + k / 1024) M.number (omega arith) (omega arith));
          new = λ b. rw (← seam-read, ← c) M.new;
          old = rw M.is (pairs_stay area (14848 + k / 1024) M.number (omega arith));
          seams = λ a b. M.old (seam_key a b);
        }

-- the number of a seam's key stands in a search area of this size
pub seam-inside : (a b k size : ℕ) → k ≡ seam_key a b → 16384 ≤ size → 14848 + k / 1024 < size
seam-inside a b k size e h = omega (arith, ap (λ (z : ℕ). z / 1024) e, seam-number a b)
