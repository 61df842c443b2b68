-- What the functions under the calls on columns require and ensure. Records below a length are read, and one is added
-- at a time.
use Rattle.std.specs.Prelude.{◌≡◌, List, ◌++◌, Bool, true, false, cond, ◌&&◌, ◌||◌, ℕ, suc, ◌+◌, ◌-◌, ◌≤◌, ◌<◌, length, get_or, set, take, drop, ltb, leb, eqb, Option, None, Some}
use Rattle.theory.specs.Dictionary.{Dictionary}
use Rattle.theory.specs.Lists.{equal}
use Rattle.theory.specs.Typing as Typing
use Rattle.tables.specs.declared.row_tables.RowTables.{RowTables}
use Rattle.tables.specs.Tables.{Tables, PairTables, with_prefixes, given}
use Rattle.tables.specs.InForm.{form_of, all_below}
use Rattle.tables.specs.Ready.{PlacesReady, Ready}
use Rattle.built_tables.specs.Built.{dictionary_of, Built}
use Rattle.end_code.specs.Tables.{RowsTo, FrontRows, PartsInForm}
use Rattle.typing_columns.specs.Refusals.{any_out}
use Rattle.typing_columns.specs.Columns.{FormOf}

-- the first m typed bytes stand in `reading` from its end back, so that those behind 4,096 - m are the text that
-- prepending them gives
pub record Mirrored (bytes reading : List ℕ) (m : ℕ) : Type 0 where
  pub size : length reading ≡ 4096
  pub bytes_size : length bytes ≡ 4096
  pub fits : m ≤ 4096
  pub same : (j : ℕ) → j < m → get_or reading (4095 - j) 0 ≡ get_or bytes j 0

-- what filling `reading` with the first m typed bytes needs
pub record FillReady (bytes reading : List ℕ) (m : ℕ) : Type 0 where
  pub size : length reading ≡ 4096
  pub bytes_size : length bytes ≡ 4096
  pub fits : m ≤ 4096

-- the counts below m are small: no record has more codes than bytes
abbrev pub CountsTo : List ℕ → ℕ → Type 0
CountsTo counts m = (j : ℕ) → j < m → get_or counts j 0 ≤ suc j

-- "its code is a row that ends the bytes up to it": row c, in typing order, ends the first i + 1 typed bytes
unfoldable pub ends_bytes : Dictionary → Typing.Side → List ℕ → ℕ → ℕ → Bool
ends_bytes D side bytes i c =
    leb (length (D.bytes c)) (suc i)
    && equal (drop (suc i - length (D.bytes c)) (take (suc i) bytes)) (Typing.in_order side (D.bytes c))

-- "that row reaches the first byte", or "passes with the code of the record just before the row's bytes"
unfoldable pub follows_if : Dictionary → Bool → ℕ → ℕ → Bool
follows_if D passed i c = eqb (length (D.bytes c)) (suc i) || (ltb (length (D.bytes c)) (suc i) && passed)

-- the count that goes with row c: "one more than that record's", or 1 where there is no such record
unfoldable pub count_with : Dictionary → List ℕ → ℕ → ℕ → ℕ
count_with D counts i c = cond (ltb (length (D.bytes c)) (suc i)) (suc (get_or counts (i - length (D.bytes c)) 0)) 1

-- the codes below i are those of the merge procedure
abbrev pub CodesAre : List ℕ → Typing.Side → List ℕ → List ℕ → ℕ → Type 0
CodesAre file side bytes codes i = (j : ℕ) → j < i → get_or codes j 0 ≡ Typing.code_at (dictionary_of file) side bytes j

-- the counts below i are those of the merge procedure
abbrev pub CountsAre : List ℕ → Typing.Side → List ℕ → List ℕ → ℕ → Type 0
CountsAre file side bytes counts i = (j : ℕ) → j < i → get_or counts j 0 ≡ Typing.count_at (dictionary_of file) side bytes j

-- row c at place i: what comparing its bytes needs
pub record EndsReady (file places : List ℕ) (n : ℕ) (bytes reading : List ℕ) (i c : ℕ) : Type 0 where
  pub places_ready : PlacesReady file places n
  pub row : c < n
  pub mirrored : Mirrored bytes reading (suc i)

-- two rows that may be checked
pub record PairOf (P : PairTables) (n before c : ℕ) : Type 0 where
  pub is_in_form : PartsInForm P n
  pub before_row : before < n
  pub row : c < n

-- whether row c passes beside the code typed before it
pub record BesideIs (P : PairTables) (side : Typing.Side) (n before c : ℕ) (r : Bool) : Type 0 where
  pub built : (prefixes : List ℕ) → Built (with_prefixes P prefixes) n
      → r ≡ Typing.passes_beside (dictionary_of P.file) side before c

-- row c at place i behind rows
pub record FollowsReady (P : PairTables) (n : ℕ) (codes : List ℕ) (i c : ℕ) : Type 0 where
  pub is_in_form : PartsInForm P n
  pub before : FrontRows n codes i
  pub row : c < n

-- whether row c follows, by the pair check's answer
pub record FollowsIs (P : PairTables) (side : Typing.Side) (n : ℕ) (codes : List ℕ) (i c : ℕ) (r : Bool) : Type 0 where
  pub passed : Bool
  pub is : r ≡ follows_if (dictionary_of P.file) passed i c
  pub built : (prefixes : List ℕ) → Built (with_prefixes P prefixes) n
      → passed
      ≡ Typing.passes_beside (dictionary_of P.file) side
      (get_or codes (i - length ((dictionary_of P.file).bytes c)) 0) c

-- row c at place i behind small counts
pub record CountReady (file places : List ℕ) (n : ℕ) (counts : List ℕ) (i c : ℕ) : Type 0 where
  pub places_ready : PlacesReady file places n
  pub place : i < 4096
  pub room : i ≤ length counts
  pub small : CountsTo counts i
  pub row : c < n

-- the count that goes with row c, which is small too
pub record CountIs (file counts : List ℕ) (i c r : ℕ) : Type 0 where
  pub is : r ≡ count_with (dictionary_of file) counts i c
  pub small : r ≤ suc i

-- what the records below m need to be read
pub record RecordsReady (P : PairTables) (n : ℕ) (bytes reading codes counts : List ℕ) (m : ℕ) : Type 0 where
  pub is_in_form : PartsInForm P n
  pub mirrored : Mirrored bytes reading m
  pub codes_size : length codes ≡ 4096
  pub counts_size : length counts ≡ 4096

-- what record i needs besides, behind records in form
pub record RecordReady (P : PairTables) (n : ℕ) (bytes reading codes counts : List ℕ) (i : ℕ) : Type 0 where
  pub ready : RecordsReady P n bytes reading codes counts (suc i)
  pub rows : RowsTo n codes i
  pub small : CountsTo counts i

-- whether record i is in form, by the pair check's answer; if so its code is a row and its count is small
pub record RecordIs (P : PairTables) (side : Typing.Side) (n : ℕ) (bytes codes counts : List ℕ) (i : ℕ)
    (r : Bool) : Type 0 where
  pub passed : Bool
  pub is : r ≡ Typing.in_form_if (dictionary_of P.file) side bytes codes counts passed i
  pub row : r ≡ true → get_or codes i 0 < n
  pub small : r ≡ true → get_or counts i 0 ≤ suc i
  pub built : (prefixes : List ℕ) → Built (with_prefixes P prefixes) n
      → passed ≡ Typing.check_at (dictionary_of P.file) side codes i

-- whether the records below len are in form, by the pair check's answers; if so their codes are rows and their counts
-- are small
pub record RecordsAre (P : PairTables) (side : Typing.Side) (n : ℕ) (bytes codes counts : List ℕ) (len : ℕ)
    (r : Bool) : Type 0 where
  pub passed : ℕ → Bool
  pub is : r ≡ all_below len (λ i. Typing.in_form_if (dictionary_of P.file) side bytes codes counts (passed i) i)
  pub rows : r ≡ true → RowsTo n codes len
  pub small : r ≡ true → CountsTo counts len
  pub built : (prefixes : List ℕ) → Built (with_prefixes P prefixes) n
      → (i : ℕ) → passed i ≡ Typing.check_at (dictionary_of P.file) side codes i

-- a row; behind true codes the code of record i, and behind true counts its count goes with it
pub record CodeIs (P : PairTables) (side : Typing.Side) (n : ℕ) (bytes : List ℕ) (i : ℕ) (codes : List ℕ)
    (r : ℕ) : Type 0 where
  pub row : r < n
  pub code : (prefixes : List ℕ) → Built (with_prefixes P prefixes) n → CodesAre P.file side bytes codes i
      → r ≡ Typing.code_at (dictionary_of P.file) side bytes i
  pub count : (prefixes : List ℕ) → Built (with_prefixes P prefixes) n → CodesAre P.file side bytes codes i
      → (counts : List ℕ) → CountsAre P.file side bytes counts i
      → count_with (dictionary_of P.file) counts i r ≡ Typing.count_at (dictionary_of P.file) side bytes i

-- what one byte more at place i needs
pub record PushReady (P : PairTables) (n i : ℕ) (bytes codes counts : List ℕ) : Type 0 where
  pub is_in_form : PartsInForm P n
  pub place : i < 4096
  pub bytes_size : length bytes ≡ 4096
  pub codes_size : length codes ≡ 4096
  pub counts_size : length counts ≡ 4096
  pub rows : RowsTo n codes i
  pub small : CountsTo counts i

-- one byte more at place i: nothing but record i is written; behind true records it is the true one
pub record Pushed (P : PairTables) (side : Typing.Side) (n i byte : ℕ)
    (bytes codes counts bytes' codes' counts' : List ℕ) : Type 0 where
  pub code : ℕ
  pub count : ℕ
  pub row : code < n
  pub small : count ≤ suc i
  pub bytes_are : bytes' ≡ set bytes i byte
  pub codes_are : codes' ≡ set codes i code
  pub counts_are : counts' ≡ set counts i count
  pub code_is : (prefixes : List ℕ) → Built (with_prefixes P prefixes) n → CodesAre P.file side bytes' codes i
      → code ≡ Typing.code_at (dictionary_of P.file) side bytes' i
  pub count_is : (prefixes : List ℕ) → Built (with_prefixes P prefixes) n → CodesAre P.file side bytes' codes i
      → CountsAre P.file side bytes' counts i
      → count ≡ Typing.count_at (dictionary_of P.file) side bytes' i

-- what the bytes typed behind the first len need
pub record ExtendReady (P : PairTables) (n len : ℕ) (bytes codes counts typed : List ℕ) : Type 0 where
  pub is_in_form : PartsInForm P n
  pub room : len + length typed ≤ 4096
  pub bytes_size : length bytes ≡ 4096
  pub codes_size : length codes ≡ 4096
  pub counts_size : length counts ≡ 4096
  pub rows : RowsTo n codes len
  pub small : CountsTo counts len

-- the records of the bytes typed stand behind the first len, which are as before; behind true records they are the
-- true ones
pub record ExtendedBy (P : PairTables) (side : Typing.Side) (n len : ℕ)
    (bytes codes counts typed bytes' codes' counts' : List ℕ) : Type 0 where
  pub bytes_kept : (j : ℕ) → j < len → get_or bytes' j 0 ≡ get_or bytes j 0
  pub codes_kept : (j : ℕ) → j < len → get_or codes' j 0 ≡ get_or codes j 0
  pub counts_kept : (j : ℕ) → j < len → get_or counts' j 0 ≡ get_or counts j 0
  pub bytes_are : (k : ℕ) → k < length typed → get_or bytes' (len + k) 0 ≡ get_or typed k 0
  pub rows : RowsTo n codes' (len + length typed)
  pub small : CountsTo counts' (len + length typed)
  pub built : (prefixes : List ℕ) → Built (with_prefixes P prefixes) n → CodesAre P.file side bytes codes len
      → CountsAre P.file side bytes counts len
      → CodesAre P.file side (take len bytes ++ typed) codes' (len + length typed)
      × CountsAre P.file side (take len bytes ++ typed) counts' (len + length typed)

-- tables with their rows behind which records passed the checks: over tables that a build left they are the true ones
pub record Passed (T : Tables) (side : Typing.Side) (len : ℕ) (bytes codes counts : List ℕ) (t : RowTables) : Type 0 where
  pub same : given t ≡ T
  pub tables : Ready T t.rows.n
  pub fits : len ≤ 4096
  pub rows : RowsTo t.rows.n codes len
  pub small : CountsTo counts len
  pub codes_are : Built T t.rows.n → CodesAre T.file side bytes codes len
  pub counts_are : Built T t.rows.n → CountsAre T.file side bytes counts len

-- by whether the records are in form: nothing where tables, head or records are out of form, else the tables with
-- their rows
abbrev pub CheckedIs : (T : Tables) (side : Typing.Side) (len size : ℕ) (bytes codes counts : List ℕ) → Bool → Option RowTables → Type 0
CheckedIs T side len size bytes codes counts fine None = any_out (form_of T) len size fine ≡ true
CheckedIs T side len size bytes codes counts fine (Some t) =
    (any_out (form_of T) len size fine ≡ false) × Passed T side len bytes codes counts t

-- the checks of tables, head and records
pub record Checked (T : Tables) (side : Typing.Side) (len size : ℕ) (bytes codes counts : List ℕ)
    (r : Option RowTables) : Type 0 where
  pub fine : Bool
  pub form : FormOf T side len size bytes codes counts fine
  pub is : CheckedIs T side len size bytes codes counts fine r
