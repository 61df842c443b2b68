-- What the five encoders of document 01 leave and answer, whatever is encoded.
use Rattle.std.specs.Prelude.{◌≡◌, List, ◌++◌, ℕ, ◌≤◌, ◌<◌, length, get_or, drop, Result}
use Rattle.causes.specs.declared.Cause.{Cause}
use Rattle.causes.specs.Call.{Call, to_number}
use Rattle.phrase_file.specs.Form.{rows}
use Rattle.theory.specs.Dictionary.{Dictionary}
use Rattle.tables.specs.Tables.{Tables}
use Rattle.built_tables.specs.Built.{dictionary_of, Built}
use Rattle.byte_pair_encoding.specs.Refusals.{send_refusal}

-- what holds without refusal on any tables in form: no more codes than bytes, each of them a row, at the front of the
-- output; "output beyond the answer is unchanged"; the work buffer is written no further than the text is long. Free
-- are the first numbers of the work buffer (scratch) and, where no build left the tables, which codes these are
pub record Written (file text out work out' work' : List ℕ) (count : ℕ) : Type 0 where
  pub few : count ≤ length text
  pub out_length : length out' ≡ length out
  pub out_beyond : drop count out' ≡ drop count out
  pub codes : (i : ℕ) → i < count → get_or out' i 0 < length (rows file)
  pub work_length : length work' ≡ length work
  pub work_beyond : drop (length text) work' ≡ drop (length text) work

-- over tables that build left they are the codes w
pub record SentAll (w out out' : List ℕ) (count : ℕ) : Type 0 where
  pub count_is : count ≡ length w
  pub codes_are : out' ≡ w ++ drop count out

-- an encoder that sends M, and is not refused
pub record Sent (M : Dictionary → List ℕ → List ℕ) (T : Tables) (text out work out' work' : List ℕ)
    (count : ℕ) : Type 0 where
  pub written : Written T.file text out work out' work' count
  pub built : (n : ℕ) → Built T n → SentAll (M (dictionary_of T.file) text) out out' count

-- an encoder that sends M: a refusal leaves both buffers as they were; else the answer is the number of codes
abbrev pub Sends : (M : Dictionary → List ℕ → List ℕ) (T : Tables) (text out work out' work' : List ℕ)
    → Result ℕ Cause → Type 0
Sends M T text out work out' work' r =
    Call to_number (send_refusal T text out work) (λ cause. (out' ≡ out) × (work' ≡ work))
    (Sent M T text out work out' work') r
