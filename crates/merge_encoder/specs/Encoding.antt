-- The merge encoder over tables: what it may read and write, and what it answers.
use Rattle.std.specs.Prelude.{◌≡◌, List, ◌++◌, ℕ, ◌≤◌, ◌<◌, length, get_or, drop}
use Rattle.marks.specs.Layout.{area_size}
use Rattle.theory.specs.Dictionary.{Dictionary}
use Rattle.theory.specs.Merge.{encode}
use Rattle.tables.specs.Tables.{PairTables, with_prefixes}
use Rattle.tables.specs.Ready.{PlacesReady, PartsReady}
use Rattle.built_tables.specs.Built.{dictionary_of, Built}

-- the rows and the search area may be read
pub record RowsReady (file places area : List ℕ) (n : ℕ) : Type 0 where
  pub places_ready : PlacesReady file places n
  pub area_room : area_size ≤ length area

-- and the parts of the rows
pub record JoinsReady (P : PairTables) (n : ℕ) : Type 0 where
  pub rows_ready : RowsReady P.file P.places P.area n
  pub parts_ready : PartsReady P.file P.lefts P.rights n

-- what holds where an accepting build left the tables
abbrev pub WhenBuilt : PairTables → ℕ → (Dictionary → Type 0) → Type 0
WhenBuilt P n Q = (prefixes : List ℕ) → Built (with_prefixes P prefixes) n → Q (dictionary_of P.file)

-- the first k numbers of a buffer are codes: row numbers
abbrev pub Codes : ℕ → List ℕ → ℕ → Type 0
Codes k s n = (i : ℕ) → i < k → get_or s i 0 < n

-- what the merge encoder may read and write: output and work buffers with one number per text byte
pub record EncodeReady (P : PairTables) (n : ℕ) (text out work : List ℕ) : Type 0 where
  pub rows_ready : RowsReady P.file P.places P.area n
  pub parts_ready : PartsReady P.file P.lefts P.rights n
  pub short : length text ≤ 4096
  pub out_room : length text ≤ length out
  pub work_room : length text ≤ length work

-- the answer is the merge procedure's, and output beyond it is unchanged
pub record EncodeIs (D : Dictionary) (text out out' : List ℕ) (r : ℕ) : Type 0 where
  pub count : r ≡ length (encode D text)
  pub codes : out' ≡ encode D text ++ drop r out

-- "encode_via_bitfield": r codes at the front of the output
pub record Encoded (P : PairTables) (n : ℕ) (text out out' work work' : List ℕ) (r : ℕ) : Type 0 where
  pub few : r ≤ length text
  pub codes : Codes r out' n
  pub out_length : length out' ≡ length out
  pub out_beyond : drop r out' ≡ drop r out
  pub work_length : length work' ≡ length work
  pub work_beyond : drop (length text) work' ≡ drop (length text) work
  pub built : WhenBuilt P n (λ D. EncodeIs D text out out' r)
