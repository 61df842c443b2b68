-- The merge procedure as in the Rust, "any neighbours whose joined bytes are a row": the lowest row first, and of equal
-- ones the leftmost.
use Rattle.std.specs.Prelude.{List, [], ◌∷◌, ◌++◌, true, false, ℕ, zero, suc, min, length, eqb, ltb}
use Rattle.theory.specs.Lists.{equal}
use Rattle.theory.specs.Dictionary.{Dictionary}

module _ (D : Dictionary) where
  -- the row below m with the bytes b, or the count of rows where there is none
  abbrev pub row_below : ℕ → List ℕ → ℕ
  row_below zero b = D.count
  row_below (suc w) b = elim (equal (D.bytes w) b) [ true ↦ w | false ↦ row_below w b ]

  -- the row with the bytes b, or the count of rows
  abbrev pub row_of : List ℕ → ℕ
  row_of b = row_below D.count b

  -- the join of two codes: the row that has their joined bytes, or the count of rows
  abbrev pub join : ℕ → ℕ → ℕ
  join x y = row_of (D.bytes x ++ D.bytes y)

  -- the lowest row that two neighbours join to, or the count of rows
  abbrev pub lowest_join : List ℕ → ℕ
  lowest_join [] = D.count
  lowest_join (x ∷ []) = D.count
  lowest_join (x ∷ y ∷ t) = min (join x y) (lowest_join (y ∷ t))

  -- the leftmost neighbours that join to w are joined
  abbrev pub join_leftmost : ℕ → List ℕ → List ℕ
  join_leftmost w [] = []
  join_leftmost w (x ∷ []) = x ∷ []
  join_leftmost w (x ∷ y ∷ t) = elim (eqb (join x y) w) [ true ↦ w ∷ t | false ↦ x ∷ join_leftmost w (y ∷ t) ]

  -- k joins, or as many as there are
  abbrev pub merge : ℕ → List ℕ → List ℕ
  merge zero S = S
  merge (suc k) S = elim (ltb (lowest_join S) D.count) [ true ↦ merge k (join_leftmost (lowest_join S) S) | false ↦ S ]

  -- "beginning with each byte alone"
  abbrev pub byte_codes : List ℕ → List ℕ
  byte_codes [] = []
  byte_codes (b ∷ t) = D.code b ∷ byte_codes t

  -- the merge procedure's codes for a text; each join shortens the list by one, so there are no more joins than bytes
  unfoldable pub encode : List ℕ → List ℕ
  encode t = merge (length t) (byte_codes t)
