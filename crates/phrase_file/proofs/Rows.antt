-- Laws of the rows of a phrase file by their numbers. Assumes nothing.
use mathlib.Core.Path.{◌≡◌, refl, sym, ap, ◌∙◌}
use mathlib.Core.List.{List, [], ◌∷◌}
use Prim.Native.Nat.{ℕ, zero, suc, ◌+◌, ◌<◌, ◌≤◌}
use native.Mathlib.Decide.{dec_lt}
use native.Mathlib.Numerals.{add-one}
use native.Mathlib.Omega.{arith}
use lib.ListN.{length, get_or, take, drop, length-map, length-take, length-drop, get_or-map, get_or-eq_default}
use lib.Seq.{get_or-take, get_or-drop}
use Rattle.phrase_file.specs.Form.{row_length, row_bytes, places, rows, records_end}
use Rattle.phrase_file.proofs.Records.{Whole, row-whole, length-byte}
use Rattle.phrase_file.proofs.Places.{past_end}
use Rattle.phrase_file.proofs.Chain.{placed-from, rising-from, first-from, joined-from, end-from}

-- row i of a file: the record at its place, and its bytes there
pub record RowIs (file : List ℕ) (i : ℕ) : Type 0 where
  pub whole : Whole file (get_or (places file) i 0)
  pub bytes : get_or (rows file) i [] ≡ take (get_or file (get_or (places file) i 0 + 2) 0) (drop (get_or (places file) i 0 + 3) file)
  pub size : length (get_or (rows file) i []) ≡ get_or file (get_or (places file) i 0 + 2) 0
  pub some : 1 ≤ length (get_or (rows file) i [])
  pub most : length (get_or (rows file) i []) ≤ 64
  pub inside : get_or (places file) i 0 + 3 + length (get_or (rows file) i []) ≤ length file

-- every element of a list is an octet
abbrev pub Octets : List ℕ → Type 0
Octets s = (k : ℕ) → get_or s k 0 < 256

-- so is every element of a part
part-octets : (s : List ℕ) → Octets s → (m d : ℕ) → Octets (take m (drop d s))
part-octets s o m d k = go (dec_lt k m)
  where
    go : Dec (k < m) → get_or (take m (drop d s)) k 0 < 256
    go (yes l) = rw (get_or-take m (drop d s) k 0 l, get_or-drop) (o (d + k))
    go (no g) = rw (get_or-eq_default (take m (drop d s)) 0 {n = k} (simp length-take (omega arith))) (omega arith)

-- an element does not depend on the default
default : (l : List ℕ) (i c d : ℕ) → i < length l → get_or l i c ≡ get_or l i d
default [] i c d h = absurd (omega arith)
default (x ∷ l) zero c d h = refl
default (x ∷ l) (suc i) c d h = default l i c d (omega arith)

module _ (file : List ℕ) where
  -- the count of rows is that of their places
  pub rows-count : length (rows file) ≡ length (places file)
  unfolding rows
  rows-count = length-map (places file) (row_bytes file)

  none_past_end : [] ≡ row_bytes file (length file)
  unfolding row_bytes
  none_past_end = rw (past_end file (length file) (omega arith))

  -- the bytes of a row are those at its place; beyond the last row there are none
  pub row_at : (i : ℕ) → get_or (rows file) i [] ≡ row_bytes file (get_or (places file) i (length file))
  unfolding rows
  row_at i = ap (λ (d : List ℕ). get_or (rows file) i d) none_past_end ∙ get_or-map (row_bytes file) (places file) i (length file)

  -- the bytes of a row are octets if those of the file are
  pub row-octets : Octets file → (i : ℕ) → Octets (get_or (rows file) i [])
  unfolding row_bytes
  row-octets o i =
      let p = get_or (places file) i (length file) in
      rw (row_at i) (part-octets file o (row_length file p) (p + 3))

  module _ (i : ℕ) (h : i < length (rows file)) where
    whole-at : Whole file (get_or (places file) i 0)
    unfolding places
    whole-at = row-whole file _ (placed-from file 0 i (omega (arith, rows-count))).1

    bytes-at : get_or (rows file) i [] ≡ take (get_or file (get_or (places file) i 0 + 2) 0) (drop (get_or (places file) i 0 + 3) file)
    unfolding row_bytes
    bytes-at =
        let p = get_or (places file) i 0 in
        row_at i
        ∙ ap (λ (q : ℕ). row_bytes file q) (default (places file) i (length file) 0 (omega (arith, rows-count)))
        ∙ ap (λ (k : ℕ). take k (drop (p + 3) file)) (sym (length-byte file p whole-at))

    pub row_is : RowIs file i
    row_is =
        let w = whole-at in
        let l : length (get_or (rows file) i []) ≡ get_or file (get_or (places file) i 0 + 2) 0 = ap length bytes-at ∙ simp (length-take, length-drop) (omega (arith, w.inside)) in
        record {
          whole = w;
          bytes = bytes-at;
          size = l;
          some = omega (arith, w.some);
          most = omega (arith, w.most);
          inside = omega (arith, w.inside);
        }

    length-is : row_length file (get_or (places file) i 0) ≡ length (get_or (rows file) i [])
    length-is = sym (length-byte file (get_or (places file) i 0) whole-at) ∙ sym row_is.size

  -- a row's record ends before each later row
  pub places_rise : (i j : ℕ) → i < j → j < length (rows file) → get_or (places file) i 0 + 3 + length (get_or (rows file) i []) ≤ get_or (places file) j 0
  unfolding places
  places_rise i j l h = omega (arith, rising-from file 0 i j l (omega (arith, rows-count)), length-is i (omega arith))

  -- the first row stands at the file's start, or the records end there
  pub first-place : get_or (places file) 0 (records_end file) ≡ 0
  unfolding places records_end
  first-place = first-from file 0

  -- after a row comes the next, and the records' end after the last
  pub next_place : (i : ℕ) → i < length (rows file) → get_or (places file) (i + 1) (records_end file) ≡ get_or (places file) i 0 + 3 + length (get_or (rows file) i [])
  unfolding places records_end
  next_place i h = rw add-one (joined-from file 0 i (omega (arith, rows-count)) ∙ omega (arith, length-is i h))

  -- the records end inside the file
  pub end-inside : records_end file ≤ length file
  unfolding places records_end
  end-inside = end-from file 0 (omega arith)
