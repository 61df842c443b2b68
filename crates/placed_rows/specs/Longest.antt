-- The longest row that begins a text, and the prefix of a row. Rows are a function R from numbers to bytes, with no
-- bytes at none; K says which numbers are rows.
use Rattle.std.specs.Prelude.{◌≡◌, List, ◌⊎◌, ℕ, ◌≤◌, ◌<◌, length}
use Rattle.theory.specs.Dictionary.{none}
use Rattle.placed_rows.specs.Texts.{Begins}

-- the rows of a file of n rows
abbrev pub Below : ℕ → ℕ → Type 0
Below n d = d < n

-- r is none, or a row
abbrev pub Known : (ℕ → Type 0) → ℕ → Type 0
Known K r = (r ≡ none) ⊎ K r

-- "the longest row at the front" of t: r is the longest row that begins t, or none where no row does
pub record Longest (R : ℕ → List ℕ) (K : ℕ → Type 0) (t : List ℕ) (r : ℕ) : Type 0 where
  pub known : Known K r
  pub begins : Begins (R r) t
  pub longest : (d : ℕ) → K d → Begins (R d) t → length (R d) ≤ length (R r)

-- "prefix" of row c, its next shorter prefix: q is the longest other row that begins it, else none; it is shorter,
-- since rows differ
pub record Prefix (R : ℕ → List ℕ) (K : ℕ → Type 0) (c q : ℕ) : Type 0 where
  pub known : Known K q
  pub begins : Begins (R q) (R c)
  pub shorter : length (R q) < length (R c)
  pub longest : (d : ℕ) → K d → (d ≡ c → ⊥) → Begins (R d) (R c) → length (R d) ≤ length (R q)
