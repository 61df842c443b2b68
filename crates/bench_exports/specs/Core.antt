-- What typing over columns and the loop over pieces require and leave.
use Rattle.std.specs.Prelude.{◌≡◌, List, true, ℕ, ◌+◌, ◌*◌, ◌≤◌, ◌<◌, length, get_or, Result}
use Rattle.theory.specs.Tree.{interval_count}
use Rattle.tables.specs.Tables.{Tables}
use Rattle.causes.specs.declared.Cause.{Cause}
use Rattle.causes.specs.Causes.{answer_of}
use Rattle.built_tables.specs.Built.{dictionary_of, Built}
use Rattle.backtrack_encoder.specs.Encoder.{TextReady}
use Rattle.built_tables.specs.IntervalTables.{Prepared, interval_in_form}
use Rattle.bench_exports.specs.Measured.{Each}

-- r is the number of an answer that meets a contract
pub record Answers (meets : Result ℕ Cause → Type 0) (r : ℕ) : Type 0 where
  pub answer : Result ℕ Cause
  pub met : meets answer
  pub is : r ≡ (answer_of answer).place

module _ (T : Tables) (n : ℕ) (text last_codes numbers ends depths : List ℕ) where
  open T use {file}

  -- tables in form, a text with a work buffer for it, interval tables in form, at most 4,096 pieces of the text, and
  -- an output that has one number per piece
  pub record PiecesReady (froms tos work out : List ℕ) : Type 0 where
    pub ready : TextReady T n text work
    pub is_in_form : interval_in_form n text last_codes numbers ends depths ≡ true
    pub ordered : (i : ℕ) → i < length froms → get_or froms i 0 ≤ get_or tos i 0
    pub inside : (i : ℕ) → i < length froms → get_or tos i 0 ≤ length text
    pub same_size : length tos ≡ length froms
    pub few : length froms ≤ 4096
    pub out_room : length froms ≤ length out

  -- the count of a piece, over tables that build left and the prepared tables of the text; elsewhere a bounded number
  pub record PieceNumber (from to r : ℕ) : Type 0 where
    pub few : r ≤ 2 * length text + 1
    pub built : Built T n → Prepared file text last_codes numbers ends depths
        → r ≡ interval_count (dictionary_of file) text from to

  -- the same, and the work buffer keeps its size
  pub record PieceCounted (from to : ℕ) (work : List ℕ) (r : ℕ) (work' : List ℕ) : Type 0 where
    pub number : PieceNumber from to r
    pub kept : length work' ≡ length work

  -- entry i is the count of piece i
  abbrev pub Pieces : List ℕ → List ℕ → List ℕ → List ℕ → Type 0
  Pieces froms tos = Each (λ (i r : ℕ). PieceNumber (get_or froms i 0) (get_or tos i 0) r) (length froms)
