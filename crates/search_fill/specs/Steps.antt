-- The steps of fill: the front of the area is emptied, and then the rows go in by rising length.
use Rattle.std.specs.Prelude.{◌≡◌, List, ◌++◌, Bool, ◌&&◌, ℕ, ◌+◌, ◌*◌, length, drop, ltb}
use Rattle.marks.specs.Layout.{hints}
use Rattle.placed_rows.specs.Rows.{row}
use Rattle.placed_rows.specs.Longest.{Below, Prefix}
use Rattle.forest.specs.Growth.{cleared, with_row, Fresh}
use Rattle.search_area.specs.Area.{rows_part, Holds, Finds}
use Rattle.search_fill.specs.Filled.{Fillable}

-- the area with its rows' part emptied
unfoldable pub emptied : List ℕ → List ℕ
emptied area = cleared (rows_part area) ++ drop hints area

-- row c went into the rows' part
pub record RowIn (file places : List ℕ) (n : ℕ) (area : List ℕ) (c : ℕ) (area' : List ℕ) : Type 0 where
  pub area_length : length area' ≡ length area
  pub area_beyond : drop hints area' ≡ drop hints area
  pub holds : (S : ℕ → Bool) → Holds file places n area S → Fresh (row file places n) n S c
      → Holds file places n area' (with_row S c)

-- the rows that go in before time x, in the order of length and number: row d goes in at time 4096 * length + d
abbrev pub before : (ℕ → List ℕ) → ℕ → ℕ → ℕ → Bool
before R n x d = ltb d n && ltb (length (R d) * 4096 + d) x

-- the rows from time x on and before time y went in
pub record RowsIn (file places : List ℕ) (n : ℕ) (area : List ℕ) (x : ℕ) (area' : List ℕ) (y : ℕ) : Type 0 where
  pub area_length : length area' ≡ length area
  pub area_beyond : drop hints area' ≡ drop hints area
  pub holds : Fillable (row file places n) n → Holds file places n area (before (row file places n) n x)
      → Holds file places n area' (before (row file places n) n y)

-- p is the prefix of row c
pub record PrefixIs (file places : List ℕ) (n : ℕ) (area : List ℕ) (c p : ℕ) : Type 0 where
  pub prefix : Finds file places n area → Prefix (row file places n) (Below n) c p
