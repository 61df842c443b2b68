-- What may be read of the tables.
use Rattle.std.specs.Prelude.{List, ℕ, ◌≤◌, ◌<◌, length, get_or}
use Rattle.marks.specs.Layout.{area_size}
use Rattle.tables.specs.Tables.{PairTables}
use Rattle.tables.specs.Ready.{PlacesReady, PartsReady}

-- a row whose bytes may be read
pub record RowReady (file places : List ℕ) (n code : ℕ) : Type 0 where
  pub places_ready : PlacesReady file places n
  pub row : code < n

-- the first m entries of a table are rows
abbrev pub RowsTo : ℕ → List ℕ → ℕ → Type 0
RowsTo n table m = (j : ℕ) → j < m → get_or table j 0 < n

-- the tables that are read are in form; the prefixes of the rows are not read
pub record PartsInForm (P : PairTables) (n : ℕ) : Type 0 where
  pub places_ready : PlacesReady P.file P.places n
  pub parts_ready : PartsReady P.file P.lefts P.rights n
  pub area_room : area_size ≤ length P.area

-- a table has m entries or more, and the first m are rows
pub record FrontRows (n : ℕ) (table : List ℕ) (m : ℕ) : Type 0 where
  pub room : m ≤ length table
  pub rows : RowsTo n table m
