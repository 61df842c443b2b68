-- What the loops over lookups require and leave.
use Rattle.std.specs.Prelude.{◌≡◌, List, Bool, cond, ℕ, ◌≤◌, ◌<◌, length, get_or, drop}
use Rattle.marks.specs.Layout.{area_size}
use Rattle.placed_rows.specs.Rows.{row, Placed}
use Rattle.search_area.specs.Answers.{Found, Joined}
use Rattle.pair_check.specs.Pair.{PairReady, PairIs}
use Rattle.tables.specs.Tables.{PairTables, pair_tables}

-- every code of the list is below n
abbrev pub AllBelow : ℕ → List ℕ → Type 0
AllBelow n codes = (i : ℕ) → i < length codes → get_or codes i 0 < n

-- rows that may be looked up, and a list of codes with an output that has one number per code
pub record LookupReady (file places : List ℕ) (n : ℕ) (area codes out : List ℕ) : Type 0 where
  pub placed : Placed file places n
  pub area_room : area_size ≤ length area
  pub codes_below : AllBelow n codes
  pub out_room : length codes ≤ length out

-- the same with a second list of codes
pub record JoinReady (file places : List ℕ) (n : ℕ) (area codes others out : List ℕ) : Type 0 where
  pub lookup : LookupReady file places n area codes out
  pub same_size : length others ≡ length codes
  pub others_below : AllBelow n others

-- pairs that may be checked, and an output that has one number per pair
pub record PairsReady (P : PairTables) (n : ℕ) (codes others out : List ℕ) : Type 0 where
  pub pairs : (i : ℕ) → i < length codes → PairReady P n n (get_or codes i 0) (get_or others i 0)
  pub same_size : length others ≡ length codes
  pub few : n ≤ 4096
  pub out_room : length codes ≤ length out

-- the first m entries of the output have Q, and the rest is unchanged
pub record Each (Q : ℕ → ℕ → Type 0) (m : ℕ) (out out' : List ℕ) : Type 0 where
  pub kept : length out' ≡ length out
  pub beyond : drop m out' ≡ drop m out
  pub each : (i : ℕ) → i < m → Q i (get_or out' i 0)

-- r is 1 if the pair passes over the rows below n, else 0
pub record PairNumber (P : PairTables) (n u v r : ℕ) : Type 0 where
  pub check : Bool
  pub checked : PairIs P n n u v check
  pub is : r ≡ cond check 1 0

module _ (file places : List ℕ) (n : ℕ) (area codes : List ℕ) where
  -- entry i is the row with the bytes of code i
  abbrev pub Finds : List ℕ → List ℕ → Type 0
  Finds = Each (λ (i r : ℕ). Found file places n area (row file places n (get_or codes i 0)) r) (length codes)

  -- entry i is the join of code i of the one list with code i of the other
  abbrev pub Joins : List ℕ → List ℕ → List ℕ → Type 0
  Joins others = Each (λ (i r : ℕ). Joined file places n area (get_or codes i 0) (get_or others i 0) r) (length codes)

  -- entry i says whether code i of the one list passes with code i of the other
  abbrev pub Pairs : List ℕ → List ℕ → List ℕ → List ℕ → List ℕ → Type 0
  Pairs lefts rights others =
      Each (λ (i r : ℕ). PairNumber (pair_tables file places lefts rights area) n (get_or codes i 0) (get_or others i 0) r)
      (length codes)
