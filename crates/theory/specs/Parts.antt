-- What build finds for the rows of a phrase file: prefixes, parts, and which rows are accepted.
use Rattle.std.specs.Prelude.{◌≡◌, List, [], ◌∷◌, ◌++◌, Bool, true, false, ◌&&◌, ℕ, zero, suc, ◌+◌, ◌-◌, ◌<◌, length, get_or, take, drop, ltb}
use Rattle.std.proofs.Math.Option.{Option, some}
use Rattle.theory.specs.Lists.{first_or, equal}
use Rattle.theory.specs.Dictionary.{Dictionary, none}
use Rattle.theory.specs.Merge.{row_of}
use Rattle.theory.specs.PairCheck.{passes}

module _ (D : Dictionary) where
  -- all rows that start at the front of t and have at most l bytes, longest first
  abbrev pub rows_up_to : ℕ → List ℕ → List ℕ
  rows_up_to zero t = []
  rows_up_to (suc l) t = elim (ltb (row_of D (take (suc l) t)) D.count) [
    | true ↦ row_of D (take (suc l) t) ∷ rows_up_to l t
    | false ↦ rows_up_to l t
  ]

  -- all rows that start at the front of t, longest first
  abbrev pub rows_at : List ℕ → List ℕ
  rows_at t = rows_up_to (length t) t

  -- the longest row at the front of t, else none
  unfoldable pub longest_at : List ℕ → ℕ
  longest_at t = first_or none (rows_at t)

  -- the rows that begin row u and are shorter, longest first
  abbrev pub prefixes : ℕ → List ℕ
  prefixes u = rows_up_to (length (D.bytes u) - 1) (D.bytes u)

  -- "Prefix: the longest other row that begins this one, else none"
  unfoldable pub prefix : ℕ → ℕ
  prefix u = first_or none (prefixes u)

-- the left and the right part of a row
pub record Parts : Type 0 where
  pub left : ℕ
  pub right : ℕ

abbrev pub part_or : (Parts → ℕ) → ℕ → Option Parts → ℕ
part_or part u Option.none = u
part_or part u (some p) = part p

-- the first row with the bytes b, or the count of rows
abbrev pub find : List (List ℕ) → List ℕ → ℕ
find [] b = 0
find (r ∷ rs) b = elim (equal r b) [ true ↦ 0 | false ↦ suc (find rs b) ]

module _ (rows : List (List ℕ)) where
  -- a number beyond the rows stands for a byte that has no row, so that every list of bytes is a text
  abbrev pub code_of : ℕ → ℕ
  code_of b = elim (ltb (find rows (b ∷ [])) (length rows)) [ true ↦ find rows (b ∷ []) | false ↦ length rows + b ]

  abbrev pub bytes_of : ℕ → List ℕ
  bytes_of u = get_or rows u ((u - length rows) ∷ [])

  -- the rows with the parts that are known so far
  abbrev pub with_parts : List (Option Parts) → Dictionary
  with_parts known = record {
    count = length rows;
    bytes = bytes_of;
    code = code_of;
    long = λ u. ltb 1 (length (bytes_of u));
    left = λ u. part_or (λ p. p.left) u (get_or known u Option.none);
    right = λ u. part_or (λ p. p.right) u (get_or known u Option.none);
  }

  -- the rest of row w beyond its beginning c: a row, or the count of rows
  abbrev pub rest_of : List (Option Parts) → ℕ → ℕ → ℕ
  rest_of known w c = row_of (with_parts known) (drop (length (bytes_of c)) (bytes_of w))

  -- "The first whose rest is a row, both parts numbered below the row, passing the pair check over the rows before it,
  -- gives the parts"
  abbrev pub are_parts_of : List (Option Parts) → ℕ → ℕ → Bool
  are_parts_of known w c = ltb c w && (ltb (rest_of known w c) w && passes (with_parts known) w c (rest_of known w c))

  abbrev pub first_parts : List (Option Parts) → ℕ → List ℕ → Option Parts
  first_parts known w [] = Option.none
  first_parts known w (c ∷ cs) = elim (are_parts_of known w c)
      [ true ↦ some (record { left = c; right = rest_of known w c }) | false ↦ first_parts known w cs ]

  -- "Parts: a one-byte row has itself twice. For a longer row, try the rows that begin it, longest first"
  abbrev pub parts_of : List (Option Parts) → ℕ → Option Parts
  parts_of known w = elim (ltb 1 (length (bytes_of w))) [
    | true ↦ first_parts known w (prefixes (with_parts known) w)
    | false ↦ some (record { left = w; right = w })
  ]

  -- the parts of the rows below q, each found over the rows before it
  unfoldable pub parts_below : ℕ → List (Option Parts)
  parts_below zero = []
  parts_below (suc w) = parts_below w ++ parts_of (parts_below w) w ∷ []

  -- the dictionary of these rows
  unfoldable pub dictionary : Dictionary
  dictionary = with_parts (parts_below (length rows))

  -- rows that build accepts, the file's form and the hashes apart: different rows of one byte or more, each byte with
  -- a row, each row with parts
  pub record Accepted : Type 0 where
    pub filled : (u : ℕ) → u < length rows → 0 < length (bytes_of u)
    pub distinct : (u v : ℕ) → u < length rows → v < length rows → bytes_of u ≡ bytes_of v → u ≡ v
    pub bytes : (b : ℕ) → b < 256 → find rows (b ∷ []) < length rows
    pub parts : (w : ℕ) → w < length rows → get_or (parts_below (length rows)) w Option.none ≡ Option.none → ⊥
