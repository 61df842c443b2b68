-- What the typing calls answer, and what they leave in the head and in the records: document 01, "Typing and
-- intervals".
use Rattle.std.specs.Prelude.{◌≡◌, List, ◌++◌, Bool, ℕ, ◌+◌, ◌<◌, min, length, get_or, take, drop, Result}
use Rattle.theory.specs.Typing as Typing
use Rattle.tables.specs.Tables.{Tables}
use Rattle.causes.specs.declared.Cause.{Cause}
use Rattle.causes.specs.Call.{Call, to_number, no_buffer}
use Rattle.built_tables.specs.Built.{dictionary_of, Built}
use Rattle.typing_columns.specs.Refusals.{extend_refusal, token_count_refusal, truncate_refusal}
use Rattle.typing_columns.specs.Columns.{last_count, Added, FormOf}
use Rattle.typing.specs.declared.State.{State}
use Rattle.typing.specs.Records.{no_state, entry_of, bytes_of, codes_of, counts_of}

module _ (T : Tables) (side : Typing.Side) where
  open T use {file}

  -- push and extend, not refused: the answer is the new length, and the records added hold their bytes; over tables
  -- that a build left they are those of the bytes typed so far
  pub record Longer (len : ℕ) (states : List State) (typed : List ℕ) (len' : ℕ) (states' : List State)
      (number : ℕ) : Type 0 where
    pub number_is : number ≡ len + length typed
    pub longer : len' ≡ len + length typed
    pub added : (k : ℕ) → k < length typed
        → Added file (len + k) (get_or typed k 0) (entry_of (get_or states' (len + k) no_state))
    pub built : (n : ℕ) → Built T n → (k : ℕ) → k < length typed
        → entry_of (get_or states' (len + k) no_state)
        ≡ Typing.entry_at (dictionary_of file) side (take len (bytes_of states) ++ typed) (len + k)

  -- push (with the one byte as `typed`) and extend: a refusal changes nothing; only the records added and the head's
  -- length are written
  pub record Extended (len : ℕ) (states : List State) (typed : List ℕ) (r : Result ℕ Cause) (len' : ℕ)
      (states' : List State) : Type 0 where
    pub fine : Bool
    pub form : FormOf T side len (length states) (bytes_of states) (codes_of states) (counts_of states) fine
    pub call : Call to_number (extend_refusal T len (length states) fine typed)
        (λ cause. (len' ≡ len) × (states' ≡ states)) (Longer len states typed len' states') r
    pub size_kept : length states' ≡ length states
    pub before_kept : take len states' ≡ take len states
    pub beyond_kept : drop len' states' ≡ drop len' states

  -- `token_count`: the last record's count, 0 at length 0
  pub record TokenCounted (len : ℕ) (states : List State) (r : Result ℕ Cause) : Type 0 where
    pub fine : Bool
    pub form : FormOf T side len (length states) (bytes_of states) (codes_of states) (counts_of states) fine
    pub call : Call to_number (token_count_refusal T len (length states) fine) no_buffer
        (λ number. number ≡ last_count (counts_of states) len) r

-- truncate: the head's length, if it is in form, becomes the lesser of it and what is to be kept, and that is the
-- answer. `size` is the number of records of the slice
abbrev pub Truncated : (len size keep : ℕ) → Result ℕ Cause → (len' : ℕ) → Type 0
Truncated len size keep r len' =
    Call to_number (truncate_refusal len size) (λ cause. len' ≡ len)
    (λ number. (number ≡ min len keep) × (len' ≡ min len keep)) r
