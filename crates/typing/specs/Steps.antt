-- What the steps of a typing call hand over: the records copied into columns, and the columns stored as records.
use Rattle.std.specs.Prelude.{◌≡◌, List, cond, ℕ, ◌<◌, ◌≤◌, length, get_or, take, drop, Result, Ok, Err}
use Rattle.causes.specs.declared.Cause.{Cause}
use Rattle.typing_columns.specs.Refusals.{head_out}
use Rattle.typing.specs.declared.State.{State}
use Rattle.typing.specs.Records.{no_state, bytes_of, codes_of, counts_of}

-- how many records can be looked at: those below the length, none where the head is out of form
unfoldable pub usable_of : ℕ → ℕ → ℕ
usable_of len size = cond (head_out len size) 0 len

-- the head's length after a call with this answer: a refusal leaves it
abbrev pub end_after : Result ℕ Cause → ℕ → ℕ
end_after (Ok end) len = end
end_after (Err cause) len = len

abbrev pub state_of : ℕ → ℕ → ℕ → State
state_of b c k = record { byte = b; code = c; count = k }

-- k records stand in a slice of `size` records and in columns of 4,096 numbers
pub record Room (k size : ℕ) : Type 0 where
  pub slice_fits : k ≤ size
  pub columns_fit : k ≤ 4096

-- the columns have the fields of the first k records
pub record Copied (states : List State) (k : ℕ) (bytes codes counts : List ℕ) : Type 0 where
  pub bytes_are : take k bytes ≡ take k (bytes_of states)
  pub codes_are : take k codes ≡ take k (codes_of states)
  pub counts_are : take k counts ≡ take k (counts_of states)

-- the places from one to another, if there are any, are in the slice and in the columns
pub record Places (from end size : ℕ) : Type 0 where
  pub order : from ≤ end
  pub room : from < end → Room end size

-- the records at these places have the columns' fields, the others are as before
pub record Stored (states : List State) (from end : ℕ) (bytes codes counts : List ℕ)
    (states' : List State) : Type 0 where
  pub size_kept : length states' ≡ length states
  pub before_kept : take from states' ≡ take from states
  pub beyond_kept : drop end states' ≡ drop end states
  pub stored : (i : ℕ) → from ≤ i → i < end
      → get_or states' i no_state ≡ state_of (get_or bytes i 0) (get_or codes i 0) (get_or counts i 0)
