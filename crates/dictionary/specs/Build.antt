-- The answer of build, and what it leaves in the lent tables: document 01, "Building" and "Causes", and document 02,
-- ticket 1.
use Rattle.std.specs.Prelude.{◌≡◌, List, [], ◌∷◌, ◌++◌, Bool, cond, ◌||◌, ℕ, length, get_or, drop, replicate, ltb, eqb, Result}
use Rattle.std.proofs.Math.Option.{Option}
use Rattle.marks.specs.Layout.{area_size}
use Rattle.causes.specs.declared.Cause.{Cause}
use Rattle.causes.specs.declared.Cause.TheVariants.{FactorZero, EqualRow, SameHash, NoParts, TooShort}
use Rattle.causes.specs.Causes.{refusal_of}
use Rattle.causes.specs.Order.{build_order, Condition, when, first_of}
use Rattle.causes.specs.Call.{Call, to_number}
use Rattle.phrase_file.specs.Form.{rows}
use Rattle.phrase_file.specs.Checks.{file_conditions}
use Rattle.theory.specs.Dictionary.{none}
use Rattle.clashes.specs.Clashes.{first_with, is_equal, clashes}
use Rattle.parts.specs.Parts.{first_without}
use Rattle.tables.specs.Tables.{Tables, tables}
use Rattle.tables.specs.InForm.{count}
use Rattle.built_tables.specs.Built.{Built}

-- cause 7: a table has fewer than n entries, or the search area fewer than 16,384
unfoldable pub too_short : Tables → ℕ → Bool
too_short T n =
    ltb (length T.places) n || (ltb (length T.lefts) n || (ltb (length T.rights) n
    || (ltb (length T.prefixes) n || ltb (length T.area) area_size)))

-- the bytes of row i of a file
abbrev pub bytes_at : List ℕ → ℕ → List ℕ
bytes_at file i = get_or (rows file) i []

-- cause 5, "equal bytes only": the lowest row with the bytes of an earlier row, n where there is none
unfoldable pub equal_row : List ℕ → ℕ
equal_row file = first_with (is_equal (bytes_at file)) (length (rows file))

-- cause 13, "two rows of different bytes with one hash": "the lowest row that clashes with an earlier one", n where
-- there is none
unfoldable pub same_hash : List ℕ → ℕ → ℕ
same_hash file factor = first_with (clashes (bytes_at file) factor) (length (rows file))

-- the conditions on the rows of a file that has n: 5, 13 and 6, each "looked for over the whole file"
abbrev pub row_conditions : ℕ → List ℕ → ℕ → List Condition
row_conditions factor file n =
    when (ltb (equal_row file) n) (EqualRow (equal_row file))
    ∷ when (ltb (same_hash file factor) n) (SameHash (same_hash file factor))
    ∷ when (ltb (first_without (rows file)) n) (NoParts (first_without (rows file)))
    ∷ []

-- the conditions of build: 1 and 7; 5, 13 and 6 of the rows; and 2, 3 and 4 of the file. Of the tables only the sizes
-- count
abbrev pub build_conditions : ℕ → Tables → List Condition
build_conditions factor T =
    when (eqb factor 0) FactorZero
    ∷ when (too_short T (count T.file)) TooShort
    ∷ row_conditions factor T.file (count T.file) ++ file_conditions T.file

-- why a file is refused
unfoldable pub build_refusal : ℕ → Tables → Option Cause
build_refusal factor T = first_of build_order (build_conditions factor T)

-- the first `size` numbers of a buffer are none, the rest is unchanged
unfoldable pub cleared : ℕ → List ℕ → List ℕ
cleared size t = replicate size none ++ drop size t

-- the first n of each table and the first 16,384 of the area are none, the rest is unchanged
abbrev pub all_cleared : ℕ → Tables → Tables
all_cleared n T =
    tables T.file (cleared n T.places) (cleared n T.lefts) (cleared n T.rights) (cleared n T.prefixes)
    (cleared area_size T.area)

-- the causes after which the tables are cleared: 5, 6 ("as for 5") and 13 ("buffers as for 5")
abbrev pub clears : Cause → Bool
clears cause =
    eqb (refusal_of cause).number 5 || (eqb (refusal_of cause).number 13 || eqb (refusal_of cause).number 6)

-- the tables after a refusal ("Buffers after")
unfoldable pub after_refusal : Cause → Tables → Tables
after_refusal cause T = cond (clears cause) (all_cleared (count T.file) T) T

-- the file, and what is beyond the first n of each table and the first 16,384 of the area
abbrev pub beyond : ℕ → Tables → Tables
beyond n T =
    tables T.file (drop n T.places) (drop n T.lefts) (drop n T.rights) (drop n T.prefixes)
    (drop area_size T.area)

-- the buffers after success: the tables are those of the file, and what is beyond is unchanged
pub record Accepting (n : ℕ) (T T' : Tables) : Type 0 where
  pub built : Built T' n
  pub beyond_kept : beyond n T' ≡ beyond n T

-- build: the answer is the count of rows, and T' the tables that it leaves of T
abbrev pub BuildIs : (factor : ℕ) (T T' : Tables) → Result ℕ Cause → Type 0
BuildIs factor T T' r =
    Call to_number (build_refusal factor T) (λ cause. T' ≡ after_refusal cause T) (λ n. Accepting n T T') r
