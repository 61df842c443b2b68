-- The parts of the rows of a phrase file, as build finds them over its tables.
use Rattle.std.specs.Prelude.{◌≡◌, List, [], ◌++◌, Bool, true, false, ℕ, ◌≤◌, ◌<◌, length, get_or, drop}
use Rattle.std.proofs.Math.Option.{Option, some}
use Rattle.marks.specs.Layout.{area_size}
use Rattle.theory.specs.Parts.{Parts, rest_of, are_parts_of, parts_of, parts_below}
use Rattle.phrase_file.specs.Form.{rows}
use Rattle.phrase_file.specs.Checks.{first_not}
use Rattle.placed_rows.specs.Rows.{row}
use Rattle.placed_rows.specs.Texts.{Begins}
use Rattle.placed_rows.specs.Longest.{Below, Prefix}
use Rattle.tables.specs.Tables.{PairTables}
use Rattle.tables.specs.Ready.{PlacesReady}
use Rattle.search_area.specs.Area.{Finds}
use Rattle.pair_check.specs.Pair.{Distinct, PairsMarked, SeamsMarked}
use Rattle.parts.specs.Marking.{AreaKept}

abbrev pub is_some : Option Parts → Bool
is_some Option.none = false
is_some (some p) = true

-- whether a row has parts
unfoldable pub has_parts : List (List ℕ) → ℕ → Bool
has_parts rows w = is_some (get_or (parts_below rows (length rows)) w Option.none)

-- cause 6: the lowest row without parts, n where all have parts. It is a longer row, since a one-byte row has itself
-- twice
unfoldable pub first_without : List (List ℕ) → ℕ
first_without rows = first_not (length rows) (has_parts rows) 0

-- the parts of row w, found over the rows before it
abbrev pub parts_in : List (List ℕ) → ℕ → Option Parts
parts_in rows w = parts_of rows (parts_below rows w) w

-- what build has before it looks for parts: the places, rows that differ, and a search area that finds each of them
pub record RowsFound (file places area : List ℕ) (n : ℕ) : Type 0 where
  pub places_ready : PlacesReady file places n
  pub distinct : Distinct file
  pub area_room : area_size ≤ length area
  pub finds : Finds file places n area

-- the prefixes of all rows
pub record PrefixesFound (file places prefixes : List ℕ) (n : ℕ) : Type 0 where
  pub room : n ≤ length prefixes
  pub are : (c : ℕ) → c < n → Prefix (row file places n) (Below n) c (get_or prefixes c 0)

-- two rows below row w whose joined bytes are its bytes
pub record Joined (file : List ℕ) (w l r : ℕ) : Type 0 where
  pub left_below : l < w
  pub right_below : r < w
  pub joined : get_or (rows file) l [] ++ get_or (rows file) r [] ≡ get_or (rows file) w []

-- l and r are the parts of row w
pub record RowParts (file : List ℕ) (w l r : ℕ) : Type 0 where
  pub are : parts_in (rows file) w ≡ some (record { left = l; right = r })
  pub longer : 1 < length (get_or (rows file) w []) → Joined file w l r

-- the tables have the parts of the rows below w, and the search area has them and their seams marked
pub record PartsKnown (file lefts rights area : List ℕ) (w : ℕ) : Type 0 where
  pub left_room : w ≤ length lefts
  pub right_room : w ≤ length rights
  pub parts : (c : ℕ) → c < w → RowParts file c (get_or lefts c 0) (get_or rights c 0)
  pub pairs_marked : PairsMarked lefts rights area w
  pub seams_marked : SeamsMarked file lefts area w

-- row w is looked at, the parts of the rows before it being known
pub record Looking (P : PairTables) (n w : ℕ) : Type 0 where
  pub rows_found : RowsFound P.file P.places P.area n
  pub known : PartsKnown P.file P.lefts P.rights P.area w
  pub row_below : w < n

-- row c begins row w
pub record Beginner (file places : List ℕ) (n w c : ℕ) : Type 0 where
  pub row_below : c < n
  pub begins : Begins (row file places n c) (row file places n w)

-- c and the rest of row w are not its parts; or they are, and r is the rest
pub record Fails (file : List ℕ) (w c : ℕ) : Type 0 where
  pub not_parts : are_parts_of (rows file) (parts_below (rows file) w) w c ≡ false

pub record Passes (file : List ℕ) (w c r : ℕ) : Type 0 where
  pub rest : r ≡ rest_of (rows file) (parts_below (rows file) w) w c
  pub are_parts : are_parts_of (rows file) (parts_below (rows file) w) w c ≡ true
  pub joined : Joined file w c r

-- row w has no parts
pub record NoParts (file : List ℕ) (w : ℕ) : Type 0 where
  pub are : parts_in (rows file) w ≡ Option.none

-- the tables have room for the parts of all rows
pub record PartsFit (file places lefts rights prefixes area : List ℕ) (n : ℕ) : Type 0 where
  pub rows_found : RowsFound file places area n
  pub prefixes_found : PrefixesFound file places prefixes n
  pub left_room : n ≤ length lefts
  pub right_room : n ≤ length rights

-- r is the lowest row without parts, and the tables have the parts of the rows below it; their entries from n on are
-- as before
pub record PartsFilled (file lefts rights area lefts' rights' area' : List ℕ) (n r : ℕ) : Type 0 where
  pub answer : r ≡ first_without (rows file)
  pub known : PartsKnown file lefts' rights' area' r
  pub lefts_length : length lefts' ≡ length lefts
  pub rights_length : length rights' ≡ length rights
  pub lefts_beyond : drop n lefts' ≡ drop n lefts
  pub rights_beyond : drop n rights' ≡ drop n rights
  pub area_kept : AreaKept area area'
