-- The codes of a text by the table of last codes: what may be read and written, and what is answered.
use Rattle.std.specs.Prelude.{◌≡◌, List, ◌++◌, ℕ, ◌≤◌, length, drop}
use Rattle.theory.specs.Merge.{encode}
use Rattle.theory.specs.Table.{walk_back}
use Rattle.tables.specs.Tables.{PairTables, with_prefixes}
use Rattle.tables.specs.Ready.{PlacesReady}
use Rattle.built_tables.specs.Built.{dictionary_of, Built}
use Rattle.end_code.specs.Tables.{RowsTo, PartsInForm}

-- the codes of the bytes whose last codes are given, walked from the end
unfoldable pub walked : List ℕ → List ℕ → List ℕ
walked file table = walk_back (dictionary_of file) (length table) table (length table)

-- what the walk needs: a row in each entry of the table
pub record WalkReady (file places : List ℕ) (n : ℕ) (table : List ℕ) : Type 0 where
  pub places_ready : PlacesReady file places n
  pub rows : RowsTo n table (length table)

-- what writing the codes needs besides: as many numbers
pub record WriteReady (file places : List ℕ) (n : ℕ) (table out : List ℕ) : Type 0 where
  pub walk : WalkReady file places n table
  pub count_is : length out ≡ length (walked file table)

-- what the codes of a text by the table need: output and work buffers with one number per byte
pub record TableReady (P : PairTables) (n : ℕ) (text out work : List ℕ) : Type 0 where
  pub is_in_form : PartsInForm P n
  pub out_room : length text ≤ length out
  pub work_room : length text ≤ length work

-- `encode_via_table`: r codes at the front of the output, those of the merge procedure; the rest of it as before.
-- What is left in the first entries of the work buffer is free
pub record TableCodes (P : PairTables) (n : ℕ) (text out work out' work' : List ℕ) (r : ℕ) : Type 0 where
  pub few : r ≤ length text
  pub rows : RowsTo n out' r
  pub out_length : length out' ≡ length out
  pub out_beyond : drop r out' ≡ drop r out
  pub work_length : length work' ≡ length work
  pub work_beyond : drop (length text) work' ≡ drop (length text) work
  pub built : (prefixes : List ℕ) → Built (with_prefixes P prefixes) n
      → (r ≡ length (encode (dictionary_of P.file) text))
      × (out' ≡ encode (dictionary_of P.file) text ++ drop r out)
