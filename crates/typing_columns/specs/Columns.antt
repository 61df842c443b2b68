-- Typing over columns: the bytes, codes and counts of the records, each in a buffer of its own.
use Rattle.std.specs.Prelude.{◌≡◌, List, ◌++◌, Bool, false, ℕ, zero, suc, ◌+◌, ◌<◌, ◌≤◌, length, get_or, take, Result}
use Rattle.theory.specs.Typing as Typing
use Rattle.tables.specs.Tables.{Tables}
use Rattle.tables.specs.InForm.{count, all_below}
use Rattle.causes.specs.declared.Cause.{Cause}
use Rattle.causes.specs.Call.{Call, to_number, no_buffer}
use Rattle.built_tables.specs.Built.{dictionary_of, Built}
use Rattle.typing_columns.specs.Refusals.{head_out, extend_refusal, token_count_refusal}

-- the last record's count, 0 at length 0
abbrev pub last_count : List ℕ → ℕ → ℕ
last_count counts zero = 0
last_count counts (suc i) = get_or counts i 0

-- record i added for byte b, over any tables in form: it holds the byte, a code that is a row, and a count of no more
-- than the bytes up to it. Which row and which count is free where no build left the tables
pub record Added (file : List ℕ) (i b : ℕ) (entry : Typing.Entry) : Type 0 where
  pub byte : entry.byte ≡ b
  pub row : entry.code < count file
  pub few : entry.count ≤ suc i

module _ (T : Tables) (side : Typing.Side) (len size : ℕ) where
  open T use {file}

  -- whether the records below the length are in form, over any tables: their rows end the bytes, their counts fit, and
  -- the pair check's answers pass. These answers are free where no build left the tables
  pub record Formed (bytes codes counts : List ℕ) (fine : Bool) : Type 0 where
    pub passed : ℕ → Bool
    pub is : fine ≡ all_below len (λ i. Typing.in_form_if (dictionary_of file) side bytes codes counts (passed i) i)
    pub built : (n : ℕ) → Built T n → (i : ℕ) → i < len
        → passed i ≡ Typing.check_at (dictionary_of file) side codes i

  -- the same, of a head in form
  abbrev pub FormOf : (bytes codes counts : List ℕ) → Bool → Type 0
  FormOf bytes codes counts fine = head_out len size ≡ false → Formed bytes codes counts fine

  -- over tables that a build left the columns have the merge procedure's codes and counts, from the length on
  pub record Typed (bytes codes counts typed bytes' codes' counts' : List ℕ) (k : ℕ) : Type 0 where
    pub code : get_or codes' (len + k) 0 ≡ Typing.code_at (dictionary_of file) side (take len bytes ++ typed) (len + k)
    pub count : get_or counts' (len + k) 0 ≡ Typing.count_at (dictionary_of file) side (take len bytes ++ typed) (len + k)

  -- push and extend on columns, not refused: the answer is the new length, and the records added stand in the columns
  pub record ColumnsExtended (bytes codes counts typed bytes' codes' counts' : List ℕ) (number : ℕ) : Type 0 where
    pub number_is : number ≡ len + length typed
    pub added : (k : ℕ) → k < length typed → Added file (len + k) (get_or typed k 0)
        (record { byte = get_or bytes' (len + k) 0; code = get_or codes' (len + k) 0; count = get_or counts' (len + k) 0 })
    pub built : (n : ℕ) → Built T n → (k : ℕ) → k < length typed
        → Typed bytes codes counts typed bytes' codes' counts' k

  -- push and extend on columns; what is not said of the columns is scratch
  pub record ExtendedColumns (bytes codes counts typed : List ℕ) (r : Result ℕ Cause)
      (bytes' codes' counts' : List ℕ) : Type 0 where
    pub fine : Bool
    pub form : FormOf bytes codes counts fine
    pub call : Call to_number (extend_refusal T len size fine typed) no_buffer
        (ColumnsExtended bytes codes counts typed bytes' codes' counts') r

  -- `token_count` on columns: the last record's count
  pub record CountedColumns (bytes codes counts : List ℕ) (r : Result ℕ Cause) : Type 0 where
    pub fine : Bool
    pub form : FormOf bytes codes counts fine
    pub call : Call to_number (token_count_refusal T len size fine) no_buffer (λ number. number ≡ last_count counts len) r
