-- The first join of a row with the code beside which it is typed, over tables: what may be read, and what is
-- answered.
use Rattle.std.specs.Prelude.{◌≡◌, ◌⊎◌, List, ℕ, ◌≤◌, ◌<◌, length}
use Rattle.marks.specs.Layout.{area_size}
use Rattle.theory.specs.Dictionary.{none}
use Rattle.placed_rows.specs.Rows.{Placed}
use Rattle.theory.specs.Typing.{Side}
use Rattle.theory.specs.FirstJoin.{JoinBelow, FirstJoin}
use Rattle.built_tables.specs.Built.{dictionary_of, Built}
use Rattle.end_code.specs.Tables.{PartsInForm}
use Rattle.tables.specs.Tables.{PairTables, with_prefixes}

-- the parts of row x may be read
pub record PartReady (P : PairTables) (x : ℕ) : Type 0 where
  pub left_room : x < length P.lefts
  pub right_room : x < length P.rights

-- what one join below m needs: the rows with their parts, and two rows
pub record BesideReady (P : PairTables) (n m x s : ℕ) : Type 0 where
  pub placed : Placed P.file P.places n
  pub area_room : area_size ≤ length P.area
  pub left_room : n ≤ length P.lefts
  pub right_room : n ≤ length P.rights
  pub below : m ≤ n
  pub row : x < n
  pub typed : s < n

-- the row below m that has x and, typed beside it, s as its parts
pub record BesideIs (P : PairTables) (side : Side) (n m x s r : ℕ) : Type 0 where
  pub bound : (r ≡ none) ⊎ (r < m)
  pub built : (prefixes : List ℕ) → Built (with_prefixes P prefixes) n → x < n → s < n
      → JoinBelow (dictionary_of P.file) side m x s r

-- what the first join needs: tables in form, and two rows
pub record FirstReady (P : PairTables) (n u s : ℕ) : Type 0 where
  pub is_in_form : PartsInForm P n
  pub row : u < n
  pub typed : s < n

-- the lowest row that joins s and what u has at that end by then
pub record FirstIs (P : PairTables) (side : Side) (n u s r : ℕ) : Type 0 where
  pub bound : (r ≡ none) ⊎ (r < n)
  pub built : (prefixes : List ℕ) → Built (with_prefixes P prefixes) n
      → FirstJoin (dictionary_of P.file) side u s r
