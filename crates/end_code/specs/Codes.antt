-- The end code of typed bytes, over tables: what may be read, and what is answered.
use Rattle.std.specs.Prelude.{◌≡◌, List, ℕ, ◌≤◌, ◌<◌, length, get_or}
use Rattle.marks.specs.Layout.{area_size}
use Rattle.theory.specs.Typing.{Side, code_at}
use Rattle.tables.specs.Tables.{tables, PairTables, with_prefixes}
use Rattle.tables.specs.Ready.{PlacesReady}
use Rattle.built_tables.specs.Built.{dictionary_of, Built}
use Rattle.end_code.specs.Tables.{PartsInForm, FrontRows}

-- what the row of a byte needs: the rows, and the byte
pub record ByteReady (file places area : List ℕ) (n : ℕ) (bytes : List ℕ) (i : ℕ) : Type 0 where
  pub places_ready : PlacesReady file places n
  pub area_room : area_size ≤ length area
  pub inside : i < length bytes

-- a row, which is that of byte i
pub record ByteIs (file places area : List ℕ) (n : ℕ) (bytes : List ℕ) (i r : ℕ) : Type 0 where
  pub row : r < n
  pub built : (lefts rights prefixes : List ℕ) → Built (tables file places lefts rights prefixes area) n
      → r ≡ (dictionary_of file).code (get_or bytes i 0)

-- the first i entries are the end codes of the shorter ones
abbrev pub CodesTo : List ℕ → Side → List ℕ → List ℕ → ℕ → Type 0
CodesTo file side bytes codes i = (j : ℕ) → j < i
    → get_or codes j 0 ≡ code_at (dictionary_of file) side bytes j

-- what the end code of the first i + 1 typed bytes needs: those bytes, and a row for each shorter one
pub record CodeReady (P : PairTables) (n : ℕ) (bytes : List ℕ) (i : ℕ) (codes : List ℕ) : Type 0 where
  pub is_in_form : PartsInForm P n
  pub inside : i < length bytes
  pub before : FrontRows n codes i

-- a row; behind true end codes it is the end code of the first i + 1 typed bytes
pub record CodeIs (P : PairTables) (side : Side) (n : ℕ) (bytes : List ℕ) (i : ℕ) (codes : List ℕ)
    (r : ℕ) : Type 0 where
  pub row : r < n
  pub built : (prefixes : List ℕ) → Built (with_prefixes P prefixes) n → CodesTo P.file side bytes codes i
      → r ≡ code_at (dictionary_of P.file) side bytes i
