-- What an accepting build leaves in the tables and in the search area.
use Rattle.std.specs.Prelude.{◌≡◌, List, ℕ, ◌≤◌, ◌<◌, length, get_or, take, Ok}
use Rattle.marks.specs.Layout.{area_size}
use Rattle.phrase_file.specs.Form.{places, rows}
use Rattle.phrase_file.specs.Checks.{check_of}
use Rattle.theory.specs.Dictionary.{Dictionary}
use Rattle.theory.specs.Parts.{Accepted, dictionary, prefix}
use Rattle.search_area.specs.Area.{Finds}
use Rattle.pair_check.specs.Pair.{PairsMarked, SeamsMarked}
use Rattle.tables.specs.Tables.{Tables}

-- the dictionary of a file's rows
unfoldable pub dictionary_of : List ℕ → Dictionary
dictionary_of file = dictionary (rows file)

-- the file is accepted, the first n entries of each table are the definitions', and the search area finds every row
-- and has every pair and every seam marked
pub record Built (T : Tables) (n : ℕ) : Type 0 where
  pub passed : check_of T.file ≡ Ok n
  pub accepted : Accepted (rows T.file)
  pub places_are : take n T.places ≡ places T.file
  pub lefts_room : n ≤ length T.lefts
  pub lefts_are : (c : ℕ) → c < n → get_or T.lefts c 0 ≡ (dictionary_of T.file).left c
  pub rights_room : n ≤ length T.rights
  pub rights_are : (c : ℕ) → c < n → get_or T.rights c 0 ≡ (dictionary_of T.file).right c
  pub prefixes_room : n ≤ length T.prefixes
  pub prefixes_are : (c : ℕ) → c < n → get_or T.prefixes c 0 ≡ prefix (dictionary_of T.file) c
  pub area_room : area_size ≤ length T.area
  pub finds : Finds T.file T.places n T.area
  pub pairs_marked : PairsMarked T.lefts T.rights T.area n
  pub seams_marked : SeamsMarked T.file T.lefts T.area n
