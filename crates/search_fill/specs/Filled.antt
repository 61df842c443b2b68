-- What fill leaves: a search area that finds every row, and the prefixes.
use Rattle.std.specs.Prelude.{◌≡◌, List, ℕ, ◌<◌, length, get_or, drop}
use Rattle.marks.specs.Layout.{hints}
use Rattle.placed_rows.specs.Rows.{row}
use Rattle.placed_rows.specs.Longest.{Below, Prefix}
use Rattle.search_area.specs.Area.{Whole, Finds}

-- rows that can be filled in: each byte has one, each has 1 to 64 bytes, and no two have the same bytes
pub record Fillable (R : ℕ → List ℕ) (n : ℕ) : Type 0 where
  pub filled : (c : ℕ) → c < n → 0 < length (R c)
  pub whole : Whole R n
  pub distinct : (c d : ℕ) → c < n → d < n → R c ≡ R d → c ≡ d

-- the search area area' finds every row, and its numbers from 12,544 on are those of area
pub record AreaFilled (file places : List ℕ) (n : ℕ) (area area' : List ℕ) : Type 0 where
  pub area_length : length area' ≡ length area
  pub area_beyond : drop hints area' ≡ drop hints area
  pub finds : Fillable (row file places n) n → Finds file places n area'

-- the table prefixes' has the prefix of every row, and its entries from n on are those of prefixes
pub record PrefixesFilled (file places : List ℕ) (n : ℕ) (area prefixes prefixes' : List ℕ) : Type 0 where
  pub prefixes_length : length prefixes' ≡ length prefixes
  pub prefixes_beyond : drop n prefixes' ≡ drop n prefixes
  pub prefix : Finds file places n area → (c : ℕ) → c < n → Prefix (row file places n) (Below n) c (get_or prefixes' c 0)

-- what fill leaves in the table of prefixes and in the search area
pub record Filled (file places : List ℕ) (n : ℕ) (prefixes area prefixes' area' : List ℕ) : Type 0 where
  pub area_filled : AreaFilled file places n area area'
  pub prefixes_filled : PrefixesFilled file places n area' prefixes prefixes'
