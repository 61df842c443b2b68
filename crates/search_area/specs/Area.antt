-- The search area, of 16,384 numbers: its first 12,544 list the rows; the others are hints and marks of seams and
-- pairs (crate `pair_check`).
use Rattle.std.specs.Prelude.{◌≡◌, List, [], ◌∷◌, Bool, ℕ, ◌≤◌, ◌<◌, length, take, ltb}
use Rattle.marks.specs.Layout.{hints}
use Rattle.placed_rows.specs.Rows.{row}
use Rattle.forest.specs.Words.{Indexed}

abbrev pub rows_part : List ℕ → List ℕ
rows_part area = take hints area

-- the rows' part lists the rows of S
abbrev pub Holds : List ℕ → List ℕ → ℕ → List ℕ → (ℕ → Bool) → Type 0
Holds file places n area S = Indexed (row file places n) n (rows_part area) S

-- all rows
abbrev pub all_rows : ℕ → ℕ → Bool
all_rows n d = ltb d n

-- each byte alone is a row, and no row is longer than 64 bytes
pub record Whole (R : ℕ → List ℕ) (n : ℕ) : Type 0 where
  pub byte : ℕ → ℕ
  pub byte_below : (b : ℕ) → b < 256 → byte b < n
  pub byte_is : (b : ℕ) → b < 256 → R (byte b) ≡ b ∷ []
  pub short : (c : ℕ) → c < n → length (R c) ≤ 64

-- the search area finds every row, and the rows are whole; it is this that build leaves and that the lookups need,
-- and nothing above sees more of the arrangement
unfoldable pub Finds : List ℕ → List ℕ → ℕ → List ℕ → Type 0
Finds file places n area = Holds file places n area (all_rows n) × Whole (row file places n) n
