-- What tables in form give to the functions over them: every entry that they read is an index that they may use.
use Rattle.std.specs.Prelude.{◌≡◌, List, [], ◌⊎◌, ℕ, ◌+◌, ◌≤◌, ◌<◌, length, get_or}
use Rattle.marks.specs.Layout.{area_size}
use Rattle.phrase_file.specs.Form.{rows}
use Rattle.theory.specs.Dictionary.{none}
use Rattle.placed_rows.specs.Rows.{row, Placed}
use Rattle.tables.specs.Tables.{Tables}

-- two lower rows whose lengths add up
pub record Lower (file : List ℕ) (c l r : ℕ) : Type 0 where
  pub left : l < c
  pub right : r < c
  pub sizes : length (get_or (rows file) l []) + length (get_or (rows file) r []) ≡ length (get_or (rows file) c [])

-- the parts of the rows below q may be read
pub record PartsReady (file lefts rights : List ℕ) (q : ℕ) : Type 0 where
  pub left_room : q ≤ length lefts
  pub right_room : q ≤ length rights
  pub single : (c : ℕ) → c < q → length (get_or (rows file) c []) ≡ 1 → (get_or lefts c 0 ≡ c) × (get_or rights c 0 ≡ c)
  pub lower : (c : ℕ) → c < q → 1 < length (get_or (rows file) c []) → Lower file c (get_or lefts c 0) (get_or rights c 0)

-- the places are those of the file, whose n rows have 1 to 64 bytes
pub record PlacesReady (file placeTable : List ℕ) (n : ℕ) : Type 0 where
  pub count : n ≡ length (rows file)
  pub least : 256 ≤ n
  pub placed : Placed file placeTable n
  pub rows_are : (c : ℕ) → c < n → row file placeTable n c ≡ get_or (rows file) c []
  pub filled : (c : ℕ) → c < n → 1 ≤ length (get_or (rows file) c [])
  pub short : (c : ℕ) → c < n → length (get_or (rows file) c []) ≤ 64

-- the prefix of each row may be read: none, or a shorter row
pub record PrefixesReady (file prefixes : List ℕ) (n : ℕ) : Type 0 where
  pub room : n ≤ length prefixes
  pub shorter : (c : ℕ) → c < n
      → (get_or prefixes c 0 ≡ none) ⊎ ((get_or prefixes c 0 < n) ×
      (length (get_or (rows file) (get_or prefixes c 0) []) < length (get_or (rows file) c [])))

-- tables in form, n being the count of rows
pub record Ready (T : Tables) (n : ℕ) : Type 0 where
  pub places_ready : PlacesReady T.file T.places n
  pub parts_ready : PartsReady T.file T.lefts T.rights n
  pub prefixes_ready : PrefixesReady T.file T.prefixes n
  pub area_room : area_size ≤ length T.area
