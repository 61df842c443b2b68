-- Typing records. Bytes stand in the order in which they were typed: appending puts each at the end of the text,
-- prepending at the front.
use Rattle.std.specs.Prelude.{◌≡◌, ◌⊎◌, List, [], ◌++◌, reverse, Bool, true, ◌&&◌, ◌||◌, ℕ, suc, ◌-◌, ◌<◌, length, get_or, take, drop, ltb, leb, eqb}
use Rattle.theory.specs.Dictionary.{Dictionary, none}
use Rattle.theory.specs.Lists.{first_or, last_or, equal}
use Rattle.theory.specs.Merge.{encode}
use Rattle.theory.specs.PairCheck.{passes}

pub data Side : Type 0 where
  append prepend : Side

-- typed bytes as a text, and a text as typed bytes
abbrev pub in_order : Side → List ℕ → List ℕ
in_order append s = s
in_order prepend s = reverse s

-- the code of a record: the last code in appending, the first one in prepending
abbrev pub end_code : Side → List ℕ → ℕ
end_code append L = last_or none L
end_code prepend L = first_or none L

pub record Entry : Type 0 where
  pub byte : ℕ
  pub code : ℕ
  pub count : ℕ

module _ (D : Dictionary) (side : Side) where
  -- record i of typed bytes "holds byte i, and the last code and the number of codes of the merge procedure for the
  -- first i + 1 bytes"
  unfoldable pub code_at : List ℕ → ℕ → ℕ
  code_at typed i = end_code side (encode D (in_order side (take (suc i) typed)))

  unfoldable pub count_at : List ℕ → ℕ → ℕ
  count_at typed i = length (encode D (in_order side (take (suc i) typed)))

  unfoldable pub entry_at : List ℕ → ℕ → Entry
  entry_at typed i = record { byte = get_or typed i 0; code = code_at typed i; count = count_at typed i }

-- the pair check of a code and the code typed before it
abbrev pub passes_beside : Dictionary → Side → ℕ → ℕ → Bool
passes_beside D append before c = passes D D.count before c
passes_beside D prepend before c = passes D D.count c before

-- a row that ends the typed bytes, and the typed bytes before it are none or the row passes beside their code
pub record Ends (D : Dictionary) (side : Side) (s : List ℕ) (c : ℕ) : Type 0 where
  pub before : List ℕ
  pub row : c < D.count
  pub text : s ≡ before ++ in_order side (D.bytes c)
  pub follows : (before ≡ []) ⊎ (passes_beside D side (end_code side (encode D (in_order side before))) c ≡ true)

-- the pair check of record i: its code beside "the code of the record just before the row's bytes"
abbrev pub check_at : Dictionary → Side → List ℕ → ℕ → Bool
check_at D side codes i =
    passes_beside D side (get_or codes (i - length (D.bytes (get_or codes i 0))) 0) (get_or codes i 0)

module _ (D : Dictionary) (side : Side) (bytes codes counts : List ℕ) where
  -- "its code is a row that ends the bytes up to it"
  abbrev pub row_ends : ℕ → ℕ → Bool
  row_ends i c =
      ltb c D.count && (leb (length (D.bytes c)) (suc i)
      && equal (drop (suc i - length (D.bytes c)) (take (suc i) bytes)) (in_order side (D.bytes c)))

  -- "either that row reaches the first byte and the count is 1, or the code passes with the code of the record just
  -- before the row's bytes and the count is one more than that record's"
  abbrev pub follows : Bool → ℕ → ℕ → ℕ → Bool
  follows passed i c k =
      (eqb (length (D.bytes c)) (suc i) && eqb k 1)
      || (ltb (length (D.bytes c)) (suc i) && (passed && eqb k (suc (get_or counts (i - length (D.bytes c)) 0))))

  -- record i in form, where `passed` is the pair check's answer
  unfoldable pub in_form_if : Bool → ℕ → Bool
  in_form_if passed i = row_ends i (get_or codes i 0) && follows passed i (get_or codes i 0) (get_or counts i 0)

  -- a record in form
  abbrev pub in_form : ℕ → Bool
  in_form i = in_form_if (check_at D side codes i) i

  -- record i of the typed bytes holds the code and the count of the merge procedure
  pub record TrueAt (i : ℕ) : Type 0 where
    pub code : get_or codes i 0 ≡ code_at D side bytes i
    pub count : get_or counts i 0 ≡ count_at D side bytes i
