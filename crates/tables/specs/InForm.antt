-- Dictionary tables in form, as document 01 defines it.
use Rattle.std.specs.Prelude.{List, [], Bool, true, false, cond, ◌&&◌, ◌||◌, ℕ, zero, suc, ◌+◌, length, get_or, take, ltb, leb, eqb, Option, None, Some, Result, Ok, Err}
use Rattle.marks.specs.Layout.{area_size}
use Rattle.causes.specs.declared.Cause.{Cause}
use Rattle.phrase_file.specs.Form.{places, rows}
use Rattle.phrase_file.specs.Checks.{check_of}
use Rattle.theory.specs.Dictionary.{none}
use Rattle.theory.specs.Lists.{equal}
use Rattle.tables.specs.Tables.{Tables}

-- whether a test holds of every number below n
unfoldable pub all_below : ℕ → (ℕ → Bool) → Bool
all_below zero test = true
all_below (suc n) test = all_below n test && test n

-- whether the checks 2 to 4 of a file answer with a count of rows
abbrev pub is_rows : Result ℕ Cause → Bool
is_rows (Ok n) = true
is_rows (Err cause) = false

-- n: the count of rows
abbrev pub count : List ℕ → ℕ
count file = length (rows file)

-- the length of row i
abbrev pub row_size : List ℕ → ℕ → ℕ
row_size file i = length (get_or (rows file) i [])

-- the prefix p of row i is none or a shorter row; size gives the rows' lengths
unfoldable pub prefix_in_form : ℕ → (ℕ → ℕ) → ℕ → ℕ → Bool
prefix_in_form n size i p = eqb p none || (ltb p n && ltb (size p) (size i))

-- the parts l and r of row i are the row twice (one byte) or two lower rows whose lengths add up
unfoldable pub parts_in_form : (ℕ → ℕ) → ℕ → ℕ → ℕ → Bool
parts_in_form size i l r =
    (eqb l i && (eqb r i && eqb (size i) 1)) || (ltb l i && (ltb r i && eqb (size l + size r) (size i)))

-- prefix and parts of row i are in form
unfoldable pub row_in_form : ℕ → (ℕ → ℕ) → List ℕ → List ℕ → List ℕ → ℕ → Bool
row_in_form n size lefts rights prefixes i =
    prefix_in_form n size i (get_or prefixes i 0) && parts_in_form size i (get_or lefts i 0) (get_or rights i 0)

module _ (T : Tables) where
  open T use {file, places as placeTable, lefts, rights, prefixes, area}

  -- each table has at least n entries and the search area at least 16,384
  unfoldable pub large_enough : Bool
  large_enough =
      leb (count file) (length placeTable) && (leb (count file) (length lefts) && (leb (count file) (length rights)
      && (leb (count file) (length prefixes) && leb area_size (length area))))

  -- tables in form: the file passes 2 to 4, the tables are large enough (only the first n entries count), places
  -- match the file, and prefix and parts of each row are in form
  unfoldable pub in_form : Bool
  in_form =
      is_rows (check_of file) && (large_enough && (equal (take (count file) placeTable) (places file)
      && all_below (count file) (row_in_form (count file) (row_size file) lefts rights prefixes)))

  -- the same as an answer, with n
  unfoldable pub form_of : Option ℕ
  form_of = cond in_form (Some (count file)) None

-- tables out of form
abbrev pub is_out : Option ℕ → Bool
is_out (Some n) = false
is_out None = true
