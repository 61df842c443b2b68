-- The rows of a phrase file, as they are read through the table of places.
use Rattle.std.specs.Prelude.{List, [], true, false, ℕ, ◌+◌, ◌≤◌, ◌<◌, length, get_or, take, drop, ltb}

-- the bytes of row c: at its place stand the mark, of two bytes, the length byte and then as many bytes; from n on
-- there is no row, and there are no bytes
unfoldable pub row : List ℕ → List ℕ → ℕ → ℕ → List ℕ
row file places n c =
    elim (ltb c n) [ true ↦ take (get_or file (get_or places c 0 + 2) 0) (drop (get_or places c 0 + 3) file) | false ↦ [] ]

-- the rows may be read: there are at most 4,096, each has its place in the table, and its bytes lie in the file
pub record Placed (file places : List ℕ) (n : ℕ) : Type 0 where
  pub few : n ≤ 4096
  pub places_fit : n ≤ length places
  pub inside : (c : ℕ) → c < n → get_or places c 0 + 3 + get_or file (get_or places c 0 + 2) 0 ≤ length file
