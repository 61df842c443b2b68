-- What the interval count of document 01 leaves and answers.
use Rattle.std.specs.Prelude.{◌≡◌, List, [], ◌∷◌, Bool, true, not, ◌||◌, ℕ, ◌+◌, ◌*◌, ◌≤◌, length, drop, ltb, Option, Some, None, Result}
use Rattle.std.proofs.Math.Option as Refusal
use Rattle.causes.specs.declared.Cause.{Cause}
use Rattle.causes.specs.declared.Cause.TheVariants.{TooShort, OutOfForm, TooLong, BadInterval}
use Rattle.causes.specs.Order.{other_order, when, over, shorter, first_of}
use Rattle.causes.specs.Call.{Call, to_number}
use Rattle.tables.specs.Tables.{Tables}
use Rattle.tables.specs.InForm.{form_of}
use Rattle.theory.specs.Tree.{interval_count}
use Rattle.built_tables.specs.Built.{dictionary_of, Built}
use Rattle.backtrack_encoder.specs.Encoder.{TextReady}
use Rattle.built_tables.specs.IntervalTables.{Prepared, interval_in_form}

-- the dictionary tables are out of form, or the interval tables
abbrev pub any_out : Option ℕ → List ℕ → List ℕ → List ℕ → List ℕ → List ℕ → Bool
any_out (Some n) text last_codes numbers ends depths = not (interval_in_form n text last_codes numbers ends depths)
any_out None text last_codes numbers ends depths = true

-- the interval's start is above its end, or that is above the text's length
abbrev pub bad_interval : List ℕ → ℕ → ℕ → Bool
bad_interval text from to = ltb to from || ltb (length text) to

-- tables in form, a text of at most 4,096 bytes with a work buffer for it, interval tables in form and an interval of
-- the text
pub record CoreReady (T : Tables) (n : ℕ) (text last_codes numbers ends depths : List ℕ) (from to : ℕ)
    (work : List ℕ) : Type 0 where
  pub ready : TextReady T n text work
  pub is_in_form : interval_in_form n text last_codes numbers ends depths ≡ true
  pub ordered : from ≤ to
  pub inside : to ≤ length text

-- what holds on any tables in form: a number that is left free but for this bound, and a work buffer that is written
-- no further than the text is long and whose first numbers are free
pub record Counted (text work : List ℕ) (r : ℕ) (work' : List ℕ) : Type 0 where
  pub few : r ≤ 2 * length text + 1
  pub work_length : length work' ≡ length work
  pub work_beyond : drop (length text) work' ≡ drop (length text) work

-- the count of the interval, over tables that build left and the prepared tables of the text
pub record CoreCounts (T : Tables) (n : ℕ) (text last_codes numbers ends depths : List ℕ) (from to : ℕ) (work : List ℕ)
    (r : ℕ) (work' : List ℕ) : Type 0 where
  pub counted : Counted text work r work'
  pub built : Built T n → Prepared T.file text last_codes numbers ends depths
      → r ≡ interval_count (dictionary_of T.file) text from to

module _ (T : Tables) (text last_codes numbers ends depths : List ℕ) (from to : ℕ) (work : List ℕ) where
  -- why the interval count is refused: 9, 7, 8, 11
  unfoldable pub interval_refusal : Refusal.Option Cause
  interval_refusal =
      first_of other_order
      (when (over text) TooLong
      ∷ when (shorter work text) TooShort
      ∷ when (any_out (form_of T) text last_codes numbers ends depths) OutOfForm
      ∷ when (bad_interval text from to) BadInterval
      ∷ [])

  -- a count that is not refused: over tables that build left and the prepared tables of the text the count of the
  -- piece, the byte at the end not included. Which number it is elsewhere is free
  pub record IntervalCounted (work' : List ℕ) (count : ℕ) : Type 0 where
    pub counted : Counted text work count work'
    pub built : (n : ℕ) → Built T n → Prepared T.file text last_codes numbers ends depths
        → count ≡ interval_count (dictionary_of T.file) text from to

  -- `IntervalEncoding::count`: a refusal leaves the work buffer as it was
  abbrev pub Counts : (work' : List ℕ) → Result ℕ Cause → Type 0
  Counts work' r = Call to_number interval_refusal (λ cause. work' ≡ work) (IntervalCounted work') r
