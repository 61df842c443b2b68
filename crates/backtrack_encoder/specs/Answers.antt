-- What sending and counting by backtracking leave and answer.
use Rattle.std.specs.Prelude.{◌≡◌, List, ◌++◌, ℕ, ◌≤◌, ◌<◌, length, get_or, take, drop}
use Rattle.theory.specs.Merge.{encode}
use Rattle.built_tables.specs.Built.{Built, dictionary_of}
use Rattle.backtrack_encoder.specs.Encoder.{TextReady}
use Rattle.tables.specs.Tables.{Tables}

-- as TextReady, with an output that has one number per byte of the text
pub record OutputReady (T : Tables) (n : ℕ) (text out work : List ℕ) : Type 0 where
  pub ready : TextReady T n text work
  pub out_room : length text ≤ length out

module _ (T : Tables) (n : ℕ) (text : List ℕ) where
  open T use {file}

  -- the codes stand at the front of the work buffer, which is unchanged beyond the text's length
  pub record Backtracked (work : List ℕ) (r : ℕ) (work' : List ℕ) : Type 0 where
    pub few : r ≤ length text
    pub work_length : length work' ≡ length work
    pub work_beyond : drop (length text) work' ≡ drop (length text) work
    pub codes : (i : ℕ) → i < r → get_or work' i 0 < n
    pub built : Built T n → take r work' ≡ encode (dictionary_of file) text

  -- the merge procedure's codes stand at the front of the output, which is unchanged beyond them
  pub record EncodedInto (out work : List ℕ) (r : ℕ) (out' work' : List ℕ) : Type 0 where
    pub few : r ≤ length text
    pub out_length : length out' ≡ length out
    pub out_beyond : drop r out' ≡ drop r out
    pub work_length : length work' ≡ length work
    pub work_beyond : drop (length text) work' ≡ drop (length text) work
    pub codes : (i : ℕ) → i < r → get_or out' i 0 < n
    pub count_is : Built T n → r ≡ length (encode (dictionary_of file) text)
    pub codes_are : Built T n
        → out' ≡ encode (dictionary_of file) text ++ drop (length (encode (dictionary_of file) text)) out

  -- the number of the merge procedure's codes
  pub record CountIs (work : List ℕ) (r : ℕ) (work' : List ℕ) : Type 0 where
    pub few : r ≤ length text
    pub work_length : length work' ≡ length work
    pub work_beyond : drop (length text) work' ≡ drop (length text) work
    pub built : Built T n → r ≡ length (encode (dictionary_of file) text)
