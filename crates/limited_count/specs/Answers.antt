-- What the count with a limit leaves and answers.
use Rattle.std.specs.Prelude.{◌≡◌, List, Option, Some, None, ℕ, ◌≤◌, length, drop}
use Rattle.theory.specs.CountLimit as CountLimit
use Rattle.tables.specs.Tables.{Tables}
use Rattle.built_tables.specs.Built.{Built, dictionary_of}

-- the definition's answer for each case: the count, or "over"
abbrev pub limited_of : Option ℕ → CountLimit.Limited
limited_of (Some n) = CountLimit.counted n
limited_of None = CountLimit.over

-- the count, or "over"; a count is no more than the text's length, and does not exceed the limit
pub record LimitedIs (T : Tables) (n : ℕ) (text : List ℕ) (limit : ℕ) (work : List ℕ) (r : Option ℕ)
    (work' : List ℕ) : Type 0 where
  pub few : (count : ℕ) → limited_of r ≡ CountLimit.counted count → (count ≤ length text) × (count ≤ limit)
  pub work_length : length work' ≡ length work
  pub work_beyond : drop (length text) work' ≡ drop (length text) work
  pub built : Built T n → limited_of r ≡ CountLimit.count_till_limit (dictionary_of T.file) text limit
