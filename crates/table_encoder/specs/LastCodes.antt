-- The last code of each prefix of a text, over tables: what may be read, and what is answered.
use Rattle.std.specs.Prelude.{◌≡◌, List, ◌++◌, ℕ, suc, ◌≤◌, ◌<◌, length, get_or, take, drop}
use Rattle.theory.specs.Table.{last_code, last_codes}
use Rattle.built_tables.specs.Built.{dictionary_of, Built}
use Rattle.end_code.specs.Tables.{RowsTo, PartsInForm}
use Rattle.tables.specs.Tables.{PairTables, with_prefixes}

-- the table's first i entries are the last codes of the prefixes of the text
abbrev pub LastCodesTo : List ℕ → List ℕ → List ℕ → ℕ → Type 0
LastCodesTo file text table i = (j : ℕ) → j < i → get_or table j 0 ≡ last_code (dictionary_of file) (take (suc j) text)

-- what the table of last codes needs: an entry for each byte
pub record PrefixesReady (P : PairTables) (n : ℕ) (text table : List ℕ) : Type 0 where
  pub is_in_form : PartsInForm P n
  pub room : length text ≤ length table

-- the last code of each prefix at the front of the table, and the rest as before
pub record PrefixesAre (P : PairTables) (n : ℕ) (text table table' : List ℕ) : Type 0 where
  pub same_length : length table' ≡ length table
  pub beyond : drop (length text) table' ≡ drop (length text) table
  pub rows : RowsTo n table' (length text)
  pub built : (prefixes : List ℕ) → Built (with_prefixes P prefixes) n
      → table' ≡ last_codes (dictionary_of P.file) text ++ drop (length text) table
