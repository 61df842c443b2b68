-- What preparation of document 01 leaves and answers.
use Rattle.std.specs.Prelude.{◌≡◌, List, [], ◌∷◌, Bool, true, ◌||◌, ℕ, ◌+◌, ◌≤◌, ◌<◌, length, drop, ltb, Result}
use Rattle.std.proofs.Math.Option.{Option}
use Rattle.causes.specs.declared.Cause.{Cause}
use Rattle.causes.specs.declared.Cause.TheVariants.{TooShort, OutOfForm, TooLong}
use Rattle.causes.specs.Order.{other_order, when, over, shorter, first_of}
use Rattle.causes.specs.Call.{Call, to_number}
use Rattle.phrase_file.specs.Form.{rows}
use Rattle.tables.specs.Tables.{Tables, PairTables, with_prefixes}
use Rattle.tables.specs.InForm.{is_out, form_of}
use Rattle.built_tables.specs.Built.{Built}
use Rattle.end_code.specs.Tables.{PartsInForm}
use Rattle.interval_prepare.specs.Steps.{WrittenTo}
use Rattle.built_tables.specs.IntervalTables.{Prepared, interval_in_form}

-- a tree table with less than one number per byte and one more
abbrev pub short_tree : List ℕ → List ℕ → Bool
short_tree table text = ltb (length table) (length text + 1)

-- preparation needs output and work buffers with one number per text byte, tree tables one more
unfoldable pub too_short : List ℕ → List ℕ → List ℕ → List ℕ → List ℕ → List ℕ → Bool
too_short text last_codes numbers ends depths work =
    shorter last_codes text
    || (shorter work text || (short_tree numbers text || (short_tree ends text || short_tree depths text)))

module _ (last_codes numbers ends depths work lastCodes' numbers' ends' depths' work' : List ℕ) where
  -- all buffers are as before
  pub record Unchanged : Type 0 where
    pub last_codes_are : lastCodes' ≡ last_codes
    pub numbers_same : numbers' ≡ numbers
    pub ends_same : ends' ≡ ends
    pub depths_same : depths' ≡ depths
    pub work_same : work' ≡ work

  -- without refusal, on any tables in form: the buffers are written no further than preparation needs, and the
  -- interval tables are in form. Which entries they have is free where no build left the tables, and the first
  -- numbers of the work buffer are free
  pub record Filled (text : List ℕ) (n : ℕ) : Type 0 where
    pub codes_length : length lastCodes' ≡ length last_codes
    pub codes_beyond : drop (length text) lastCodes' ≡ drop (length text) last_codes
    pub numbers_written : WrittenTo (length text) numbers numbers'
    pub ends_written : WrittenTo (length text) ends ends'
    pub depths_written : WrittenTo (length text) depths depths'
    pub work_length : length work' ≡ length work
    pub work_beyond : drop (length text) work' ≡ drop (length text) work
    pub is_in_form : interval_in_form n text lastCodes' numbers' ends' depths' ≡ true

-- tables in form, a text of at most 4,096 bytes, and buffers that are long enough
pub record CoreReady (P : PairTables) (n : ℕ) (text last_codes numbers ends depths work : List ℕ) : Type 0 where
  pub is_in_form : PartsInForm P n
  pub short : length text ≤ 4096
  pub codes_room : length text ≤ length last_codes
  pub numbers_room : length text < length numbers
  pub ends_room : length text < length ends
  pub depths_room : length text < length depths
  pub work_room : length text ≤ length work

-- the tables filled; over tables that build left they are the prepared ones of the text
pub record CorePrepares (P : PairTables) (n : ℕ)
    (text last_codes numbers ends depths work lastCodes' numbers' ends' depths' work' : List ℕ) : Type 0 where
  pub filled : Filled last_codes numbers ends depths work lastCodes' numbers' ends' depths' work' text n
  pub built : (prefixes : List ℕ) → Built (with_prefixes P prefixes) n
      → Prepared P.file text lastCodes' numbers' ends' depths'

module _ (T : Tables) (text last_codes numbers ends depths work : List ℕ) where
  -- why preparation is refused: 9, 7, 8
  unfoldable pub prepare_refusal : Option Cause
  prepare_refusal =
      first_of other_order
      (when (over text) TooLong
      ∷ when (too_short text last_codes numbers ends depths work) TooShort
      ∷ when (is_out (form_of T)) OutOfForm
      ∷ [])

  -- preparation that is not refused: the answer is the number of prefixes filled, the text's length, and over tables
  -- that build left the interval tables are the prepared ones of the text
  pub record PreparesAll (lastCodes' numbers' ends' depths' work' : List ℕ) (number : ℕ) : Type 0 where
    pub number_is : number ≡ length text
    pub filled : Filled last_codes numbers ends depths work lastCodes' numbers' ends' depths' work' text
        (length (rows T.file))
    pub built : (n : ℕ) → Built T n → Prepared T.file text lastCodes' numbers' ends' depths'

  -- `IntervalEncoding::new`: a refusal leaves all buffers as they were
  abbrev pub Prepares : (lastCodes' numbers' ends' depths' work' : List ℕ) → Result ℕ Cause → Type 0
  Prepares lastCodes' numbers' ends' depths' work' r =
      Call to_number prepare_refusal
      (λ cause. Unchanged last_codes numbers ends depths work lastCodes' numbers' ends' depths' work')
      (PreparesAll lastCodes' numbers' ends' depths' work') r
