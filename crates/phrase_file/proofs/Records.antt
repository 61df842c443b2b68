-- Laws of a record of the phrase file. Assumes nothing.
use mathlib.Core.Path.{◌≡◌, refl, ap}
use mathlib.Core.List.{List}
use mathlib.Core.Bool.{Bool, true, false, ◌&&◌, cond}
use Prim.Native.Nat.{ℕ, ◌+◌, ◌<◌, ◌≤◌}
use native.Mathlib.Omega.{arith}
use lib.ListN.{length, get_or, take, drop}
use lib.Dec.{leb, eqb}
use borrow.Author.Tests.{le-leb, eq-eqb, leb-true, eqb-true}
use Rattle.phrase_file.specs.Form.{is_record, row_length, row_bytes}

-- the parts of a test that holds
both : (a b : Bool) → a && b ≡ true → (a ≡ true) × (b ≡ true)
both true b e = (refl, e)
both false b e = let z : ◌≡◌ {A = ℕ} 0 1 = cc in absurd (omega arith)

-- what a whole record at an offset is
pub record Whole (file : List ℕ) (at : ℕ) : Type 0 where
  pub first : get_or file at 0 ≡ 0xc7
  pub second : get_or file (at + 1) 0 ≡ 0x51
  pub some : 1 ≤ get_or file (at + 2) 0
  pub most : get_or file (at + 2) 0 ≤ 64
  pub inside : at + 3 + get_or file (at + 2) 0 ≤ length file

module _ (file : List ℕ) (at : ℕ) where
  whole : is_record file at ≡ true → Whole file at
  unfolding is_record
  whole e =
      let e4 = both _ (leb (at + 3 + get_or file (at + 2) 0) (length file)) e in
      let e3 = both _ (leb (get_or file (at + 2) 0) 64) e4.0 in
      let e2 = both _ (leb 1 (get_or file (at + 2) 0)) e3.0 in
      let e1 = both (eqb (get_or file at 0) 0xc7) _ e2.0 in
      record {
        first = eqb-true _ _ e1.0;
        second = eqb-true _ _ e1.1;
        some = leb-true _ _ e2.1;
        most = leb-true _ _ e3.1;
        inside = leb-true _ _ e4.1;
      }

  is_record_lem : Whole file at → is_record file at ≡ true
  unfolding is_record
  is_record_lem w =
      rw (eq-eqb _ _ w.first, eq-eqb _ _ w.second, le-leb _ _ w.some, le-leb _ _ w.most, le-leb _ _ w.inside)

  -- where a whole record stands, the row's length is the length byte
  pub length-byte : Whole file at → get_or file (at + 2) 0 ≡ row_length file at
  unfolding row_length
  length-byte w = rw (is_record_lem w)

  pub no_length : (Whole file at → ⊥) → 0 ≡ row_length file at
  unfolding row_length
  no_length none = go (is_record file at) refl
    where
      go : (t : Bool) → is_record file at ≡ t → 0 ≡ cond t (get_or file (at + 2) 0) 0
      go true e = absurd (none (whole e))
      go false e = refl

  -- a row of some length stands in a whole record
  pub row-whole : 0 < row_length file at → Whole file at
  unfolding row_length
  row-whole some = go (is_record file at) refl some
    where
      go : (t : Bool) → is_record file at ≡ t → 0 < cond t (get_or file (at + 2) 0) 0 → Whole file at
      go true e l = whole e
      go false e l = absurd (omega arith)

  pub some_record : 0 < row_length file at → is_record file at ≡ true
  some_record some = is_record_lem (row-whole some)

  pub no_record : row_length file at ≡ 0 → is_record file at ≡ false
  no_record none = go (is_record file at) refl
    where
      go : (t : Bool) → is_record file at ≡ t → t ≡ false
      go true e = let w = whole e in let l = length-byte w in let s = w.some in absurd (omega arith)
      go false e = refl

  -- the bytes of a row whose length is known
  pub bytes_are : (k : ℕ) → k ≡ row_length file at → take k (drop (at + 3) file) ≡ row_bytes file at
  unfolding row_bytes
  bytes_are k e = ap (λ (j : ℕ). take j (drop (at + 3) file)) e
