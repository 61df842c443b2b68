-- Where the count with a limit may end before the text does: what the functions may read, and what their answer means.
use Rattle.std.specs.Prelude.{◌≡◌, List, Bool, true, false, not, ◌&&◌, ◌||◌, ℕ, suc, ◌+◌, ◌-◌, ◌≤◌, ◌<◌, length, get_or, take, eqb, ltb}
use Rattle.marks.specs.Layout.{seams}
use Rattle.marks.specs.Marks.{marked}
use Rattle.theory.specs.Merge.{encode}
use Rattle.tables.specs.Tables.{PairTables, with_prefixes}
use Rattle.pair_check.specs.Pair.{seam_key}
use Rattle.built_tables.specs.Built.{Built, dictionary_of}
use Rattle.backtrack_encoder.specs.declared.BacktrackEncoder.{BacktrackEncoder}
use Rattle.end_code.specs.Tables.{PartsInForm}

-- text is left at the place, and it is the text's front or its seam is not marked
unfoldable pub stays_at : List ℕ → List ℕ → ℕ → Bool
stays_at area text pos =
    ltb pos (length text)
    && (eqb pos 0 || not (marked area seams (seam_key (get_or text (pos - 1) 0) (get_or text pos 0))))

-- "yes" only if it is so
pub record StaysIf (area text : List ℕ) (pos : ℕ) (r : Bool) : Type 0 where
  pub stays : r ≡ true → stays_at area text pos ≡ true

-- how many places in a row have `limit` codes or more, where the next one has `count`
unfoldable pub in_a_row : ℕ → ℕ → ℕ → ℕ
in_a_row many count limit = elim (ltb count limit) [ true ↦ 0 | false ↦ suc many ]

-- what the codes up to each place need: the tables, and room for one number per byte
pub record ManyReady (P : PairTables) (n : ℕ) (text : List ℕ) : Type 0 where
  pub is_in_form : PartsInForm P n
  pub few : length text ≤ 512

-- the bytes up to each of the last `many` places, the place i being the last one, have `limit` codes or more
abbrev pub ManyCodes : List ℕ → List ℕ → ℕ → ℕ → ℕ → Type 0
ManyCodes file text limit i many =
    (q : ℕ) → q ≤ i → i < q + many → limit ≤ length (encode (dictionary_of file) (take q text))

-- 64 places
pub record ManyAt (file text : List ℕ) (limit : ℕ) : Type 0 where
  pub at : ℕ
  pub inside : at ≤ length text
  pub codes : ManyCodes file text limit at 64

-- "yes" only if there are 64 such places in a row
pub record ManyIs (P : PairTables) (n : ℕ) (text : List ℕ) (limit : ℕ) (r : Bool) : Type 0 where
  pub many : r ≡ true → (prefixes : List ℕ) → Built (with_prefixes P prefixes) n → ManyAt P.file text limit

-- what looking ahead of an encoder that has reached the limit needs
pub record AheadReady (P : PairTables) (n : ℕ) (text : List ℕ) (e : BacktrackEncoder) (limit : ℕ) : Type 0 where
  pub is_in_form : PartsInForm P n
  pub short : length text ≤ 4096
  pub inside : e.pos ≤ length text
  pub few : e.count ≤ length text
  pub reached : limit ≤ e.count

-- "yes" only if the text has more than `limit` codes
pub record OverIs (P : PairTables) (n : ℕ) (text : List ℕ) (limit : ℕ) (r : Bool) : Type 0 where
  pub over : r ≡ true → (prefixes : List ℕ) → Built (with_prefixes P prefixes) n
      → limit < length (encode (dictionary_of P.file) text)
