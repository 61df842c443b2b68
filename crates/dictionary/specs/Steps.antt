-- The steps of build: what each requires, and what it leaves.
use Rattle.std.specs.Prelude.{◌≡◌, List, true, false, ℕ, length, drop, ltb, Result, Ok}
use Rattle.marks.specs.Layout.{area_size}
use Rattle.causes.specs.declared.Cause.{Cause}
use Rattle.causes.specs.declared.Cause.TheVariants.{EqualRow, SameHash}
use Rattle.causes.specs.Order.{build_order, first_of}
use Rattle.causes.specs.Call.{saying}
use Rattle.phrase_file.specs.Form.{rows}
use Rattle.phrase_file.specs.Checks.{check_of}
use Rattle.tables.specs.Tables.{Tables}
use Rattle.built_tables.specs.Built.{Built}
use Rattle.placed_rows.specs.Rows.{row}
use Rattle.clashes.specs.Clashes.{first_with, is_equal, shares_hash}
use Rattle.parts.specs.Parts.{RowsFound, PrefixesFound}
use Rattle.dictionary.specs.Build.{too_short, bytes_at, row_conditions, beyond}

-- the answer for a file that the causes 1 to 4 and 7 do not refuse: 5, 13, 6, or the count of rows
unfoldable pub rows_answer : ℕ → Tables → ℕ → Result ℕ Cause
rows_answer factor T n = saying (first_of build_order (row_conditions factor T.file n)) n

-- the lowest row with the hash of an earlier row, whatever their bytes, n where there is none: then there is neither 5
-- nor 13
unfoldable pub shared_hash : List ℕ → ℕ → ℕ
shared_hash file factor = first_with (shares_hash (bytes_at file) factor) (length (rows file))

-- a file with n rows that passes 2 to 4, a factor other than 0, and buffers that are large enough
pub record Buildable (factor : ℕ) (T : Tables) (n : ℕ) : Type 0 where
  pub some_factor : factor ≡ 0 → ⊥
  pub passed : check_of T.file ≡ Ok n
  pub room : too_short T n ≡ false

-- the prefixes and the search area are found for rows that differ
pub record Searched (file placeTable prefixes area : List ℕ) (n : ℕ) : Type 0 where
  pub rows_found : RowsFound file placeTable area n
  pub prefixes_found : PrefixesFound file placeTable prefixes n

-- why n rows are refused of which `shared` is the lowest with the hash of an earlier one: 5 if a row `equal` has the
-- bytes of an earlier one, else 13
abbrev pub clash_cause : ℕ → ℕ → ℕ → Cause
clash_cause n shared equal = elim (ltb equal n) [ true ↦ EqualRow equal | false ↦ SameHash shared ]

-- the same for the rows as they are read; the search for equal rows uses the area as its scratch
pub record ClashTold (file placeTable : List ℕ) (n shared : ℕ) (area area' : List ℕ) (r : Cause) : Type 0 where
  pub answer : r ≡ clash_cause n shared (first_with (is_equal (row file placeTable n)) n)
  pub area_length : length area' ≡ length area
  pub area_beyond : drop area_size area' ≡ drop area_size area

-- the answer r, and tables T' that are built if it is no refusal. What is beyond is unchanged
pub record TablesFilled (factor n : ℕ) (T T' : Tables) (r : Result ℕ Cause) : Type 0 where
  pub answer : r ≡ rows_answer factor T n
  pub built : (m : ℕ) → r ≡ Ok m → Built T' m
  pub room : too_short T' n ≡ false
  pub beyond_kept : beyond n T' ≡ beyond n T
