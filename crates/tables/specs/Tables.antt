-- The dictionary tables as one noun, and how a contract says them.
use Rattle.std.specs.Prelude.{List, ℕ}
use Rattle.std.specs.Borrow.{Bor, MutBor}
use denote.Triple.Both.{Both}
use Rattle.tables.specs.declared.tables.Tables.{Tables as LentTables}
use Rattle.tables.specs.declared.row_tables.RowTables.{RowTables}

-- "dictionary tables": a phrase file, its four tables and the search area, in the order of the calls' arguments
pub record Tables : Type 0 where
  pub file : List ℕ
  pub places : List ℕ
  pub lefts : List ℕ
  pub rights : List ℕ
  pub prefixes : List ℕ
  pub area : List ℕ

-- the tables of six lists
abbrev pub tables : (file places lefts rights prefixes area : List ℕ) → Tables
tables file places lefts rights prefixes area = record {
  file = file;
  places = places;
  lefts = lefts;
  rights = rights;
  prefixes = prefixes;
  area = area;
}

-- what the pair check and the searches for joins read of them: all but the prefixes
pub record PairTables : Type 0 where
  pub file : List ℕ
  pub places : List ℕ
  pub lefts : List ℕ
  pub rights : List ℕ
  pub area : List ℕ

-- those of five lists
abbrev pub pair_tables : (file places lefts rights area : List ℕ) → PairTables
pair_tables file places lefts rights area = record {
  file = file;
  places = places;
  lefts = lefts;
  rights = rights;
  area = area;
}

abbrev pub without_prefixes : Tables → PairTables
without_prefixes T = pair_tables T.file T.places T.lefts T.rights T.area

abbrev pub with_prefixes : PairTables → List ℕ → Tables
with_prefixes P prefixes = tables P.file P.places P.lefts P.rights prefixes P.area

-- the tables that a caller lends
abbrev pub lent : LentTables → Tables
lent t = tables t.file.now t.places.now t.lefts.now t.rights.now t.prefixes.now t.area.now

-- the tables that a function below the public calls is given
abbrev pub given : RowTables → Tables
given t = tables t.rows.file.now t.rows.places.now t.lefts.now t.rights.now t.prefixes.now t.area.now

-- the same without the prefixes
abbrev pub pair_given : RowTables → PairTables
pair_given t = pair_tables t.rows.file.now t.rows.places.now t.lefts.now t.rights.now t.area.now

-- a slice at the two moments of a call, as an `ensures` names it
abbrev pub Lent : Type 0 → Type 0
Lent A = Both (Bor (List A)) (Bor (List A))

-- what stands in a lent slice as the call begins
abbrev pub before : {A : Type 0} → Lent A → List A
before s = s.entry.now

-- what stands in it as the call ends
abbrev pub after : {A : Type 0} → Lent A → List A
after s = s.exit.now

-- a slice that is lent to be written, at the two moments of a call
abbrev pub Filled : Type 0 → Type 0
Filled A = Both (MutBor (List A)) (MutBor (List A))

-- the tables that build is lent to fill, as it begins
abbrev pub lent_to_fill : (file : Lent ℕ) (places lefts rights prefixes area : Filled ℕ) → Tables
lent_to_fill file places lefts rights prefixes area =
    tables file.entry.now places.entry.now lefts.entry.now rights.entry.now prefixes.entry.now area.entry.now

-- the same tables as build leaves them; the file is only read
abbrev pub left : (file : Lent ℕ) (places lefts rights prefixes area : Filled ℕ) → Tables
left file places lefts rights prefixes area =
    tables file.entry.now places.exit.now lefts.exit.now rights.exit.now prefixes.exit.now area.exit.now
