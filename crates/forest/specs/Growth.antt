-- How the rows' part is filled: it is cleared, and then rows are inserted by rising length.
use Rattle.std.specs.Prelude.{◌≡◌, List, ◌++◌, Bool, true, false, ◌||◌, ℕ, ◌+◌, ◌≤◌, ◌<◌, length, get_or, set, drop, replicate, eqb, ltb}
use Rattle.marks.specs.Layout.{links}
use Rattle.theory.specs.Dictionary.{none}
use Rattle.forest.specs.Words.{row_of, In, Indexed}

-- the area with empty buckets
unfoldable pub cleared : List ℕ → List ℕ
cleared area = replicate links none ++ drop links area

-- where a word comes into bucket h: at its head where the bucket is empty, else at the link of its first word
unfoldable pub place_of : List ℕ → ℕ → ℕ → ℕ
place_of area n h = elim (ltb (row_of (get_or area h 0)) n) [ true ↦ links + row_of (get_or area h 0) | false ↦ h ]

-- the area after the word w of row c was put at place a, before the word that stood there
unfoldable pub put : List ℕ → ℕ → ℕ → ℕ → List ℕ
put area a c w = set (set area (links + c) (get_or area a 0)) a w

-- the area after the word w of row c went into bucket h
abbrev pub pushed : List ℕ → ℕ → ℕ → ℕ → ℕ → List ℕ
pushed area n h c w = put area (place_of area n h) c w

-- the rows of S, and row c
abbrev pub with_row : (ℕ → Bool) → ℕ → ℕ → Bool
with_row S c d = eqb d c || S d

-- row c is none of the rows of S, is not empty, and is as long as any of them and unlike any of them
pub record Fresh (R : ℕ → List ℕ) (n : ℕ) (S : ℕ → Bool) (c : ℕ) : Type 0 where
  pub below : c < n
  pub new : S c ≡ false
  pub filled : 0 < length (R c)
  pub rising : (d : ℕ) → In S d → length (R d) ≤ length (R c)
  pub distinct : (d : ℕ) → In S d → R d ≡ R c → ⊥

-- the area after row c was inserted
pub record Inserted (R : ℕ → List ℕ) (n : ℕ) (area : List ℕ) (c : ℕ) (area' : List ℕ) : Type 0 where
  pub kept : length area' ≡ length area
  pub index : (S : ℕ → Bool) → Indexed R n area S → Fresh R n S c → Indexed R n area' (with_row S c)
