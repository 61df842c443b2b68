-- What `count` and `count_till_limit` of document 01 leave and answer.
use Rattle.std.specs.Prelude.{◌≡◌, List, ℕ, ◌≤◌, length, drop, Option, Result}
use Rattle.causes.specs.declared.Cause.{Cause}
use Rattle.causes.specs.Causes.{limit_place}
use Rattle.causes.specs.Call.{Call, to_number}
use Rattle.theory.specs.Merge.{encode}
use Rattle.theory.specs.CountLimit.{Limited, counted, count_till_limit}
use Rattle.tables.specs.Tables.{Tables}
use Rattle.built_tables.specs.Built.{dictionary_of, Built}
use Rattle.limited_count.specs.Answers.{limited_of}
use Rattle.byte_pair_encoding.specs.Refusals.{count_refusal}

-- the work buffer is written no further than the text is long; its first numbers (scratch) are free
pub record Worked (text work work' : List ℕ) : Type 0 where
  pub work_length : length work' ≡ length work
  pub work_beyond : drop (length text) work' ≡ drop (length text) work

-- a count that is not refused: no more than the text's length, and over tables that build left the number of the merge
-- procedure's codes. Which number it is where no build left the tables is free
pub record Counted (T : Tables) (text work work' : List ℕ) (count : ℕ) : Type 0 where
  pub few : count ≤ length text
  pub worked : Worked text work work'
  pub built : (n : ℕ) → Built T n → count ≡ length (encode (dictionary_of T.file) text)

-- `count`: a refusal leaves the work buffer as it was
abbrev pub Counts : (T : Tables) (text work work' : List ℕ) → Result ℕ Cause → Type 0
Counts T text work work' r =
    Call to_number (count_refusal T text work) (λ cause. work' ≡ work) (Counted T text work work') r

-- a count with a limit that is not refused: "over", or a count that is no more than the text's length and than the
-- limit; over tables that build left the definition's. Which of the two it is, and which such number, is free
-- elsewhere
pub record CountedTillLimit (T : Tables) (text : List ℕ) (limit : ℕ) (work work' : List ℕ)
    (limited : Limited) : Type 0 where
  pub few : (count : ℕ) → limited ≡ counted count → (count ≤ length text) × (count ≤ limit)
  pub worked : Worked text work work'
  pub built : (n : ℕ) → Built T n → limited ≡ count_till_limit (dictionary_of T.file) text limit

-- `count_till_limit`: a refusal leaves the work buffer as it was; none is "over"
abbrev pub CountsTillLimit : (T : Tables) (text : List ℕ) (limit : ℕ) (work work' : List ℕ)
    → Result (Option ℕ) Cause → Type 0
CountsTillLimit T text limit work work' r =
    Call limit_place (count_refusal T text work) (λ cause. work' ≡ work)
    (λ count. CountedTillLimit T text limit work work' (limited_of count)) r
