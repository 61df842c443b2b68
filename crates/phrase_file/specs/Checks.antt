-- The refusals 2, 3 and 4 of document 01, in this order.
use Rattle.std.specs.Prelude.{List, [], ◌∷◌, Bool, true, false, ◌||◌, ℕ, zero, suc, length, ltb, eqb, Result}
use Rattle.causes.specs.declared.Cause.{Cause}
use Rattle.causes.specs.declared.Cause.TheVariants.{BadRecord, RowCount, MissingByte}
use Rattle.causes.specs.Order.{build_order, Condition, when, first_of}
use Rattle.causes.specs.Call.{saying}
use Rattle.phrase_file.specs.Form.{rows, records_end}

-- whether a row is the one byte b
unfoldable pub is_byte : ℕ → List ℕ → Bool
is_byte b [] = false
is_byte b (x ∷ []) = eqb x b
is_byte b (x ∷ y ∷ rest) = false

-- whether the byte value b has a row
unfoldable pub has_byte : List (List ℕ) → ℕ → Bool
has_byte [] b = false
has_byte (row ∷ rest) b = is_byte b row || has_byte rest b

-- the lowest of the k numbers from b on at which a test fails, else b + k
unfoldable pub first_not : ℕ → (ℕ → Bool) → ℕ → ℕ
first_not zero test b = b
first_not (suc k) test b = elim (test b) [ true ↦ first_not k test (suc b) | false ↦ b ]

-- the lowest byte value without a row, 256 if there is none
unfoldable pub missing_byte : List ℕ → ℕ
missing_byte file = first_not 256 (has_byte (rows file)) 0

-- the conditions 2, 3 and 4: a file over 65,536 bytes, or a bad mark, length or cut record; n under 256 or over
-- 4,096; a byte value without a row
abbrev pub file_conditions : List ℕ → List Condition
file_conditions file =
    when (ltb 65536 (length file)) (BadRecord 65536)
    ∷ when (ltb (records_end file) (length file)) (BadRecord (records_end file))
    ∷ when (ltb (length (rows file)) 256 || ltb 4096 (length (rows file))) (RowCount (length (rows file)))
    ∷ when (ltb (missing_byte file) 256) (MissingByte (missing_byte file))
    ∷ []

-- the answer of these checks: the first that applies, else the count of rows
unfoldable pub check_of : List ℕ → Result ℕ Cause
check_of file = saying (first_of build_order (file_conditions file)) (length (rows file))
