-- What the functions under the check require and ensure.
use Rattle.std.specs.Prelude.{◌≡◌, List, Bool, true, ℕ, ◌≤◌, ◌<◌, length, get_or, take, Ok}
use Rattle.phrase_file.specs.Form.{places}
use Rattle.phrase_file.specs.Checks.{check_of}
use Rattle.theory.specs.Lists.{equal}
use Rattle.tables.specs.InForm.{row_size}

-- a file of n rows that passes 2 to 4, a table with room for their places, and one for their lengths
pub record Passed (file placeTable : List ℕ) (n : ℕ) (sizes : List ℕ) : Type 0 where
  pub passed : check_of file ≡ Ok n
  pub room : n ≤ length placeTable
  pub width : length sizes ≡ 4096

-- whether the places match the file; if so, sizes has the lengths of the rows
pub record PlacesMatch (file placeTable : List ℕ) (n : ℕ) (sizes : List ℕ) (r : Bool) : Type 0 where
  pub answer : r ≡ equal (take n placeTable) (places file)
  pub sizes_are : r ≡ true → (i : ℕ) → i < n → get_or sizes i 0 ≡ row_size file i

-- lengths that stand in a table
abbrev pub sized : List ℕ → ℕ → ℕ
sized sizes i = get_or sizes i 0

-- row i of n, which are few enough for that table
pub record RowOf (n i : ℕ) : Type 0 where
  pub few : n ≤ 4096
  pub below : i < n

-- tables with room for n rows
pub record Room (n : ℕ) (lefts rights prefixes : List ℕ) : Type 0 where
  pub few : n ≤ 4096
  pub lefts_fit : n ≤ length lefts
  pub rights_fit : n ≤ length rights
  pub prefixes_fit : n ≤ length prefixes
