-- What the lookups answer: on any contents of the search area a bounded answer, and the true one where it finds every
-- row.
use Rattle.std.specs.Prelude.{◌≡◌, List, ◌++◌, ◌⊎◌, ℕ, ◌≤◌, ◌<◌, length}
use Rattle.theory.specs.Dictionary.{none}
use Rattle.placed_rows.specs.Rows.{row}
use Rattle.placed_rows.specs.Texts.{Begins}
use Rattle.placed_rows.specs.Longest.{Below, Known, Longest}
use Rattle.search_area.specs.Area.{Finds}

-- r is the longest row that begins t, and l its length
pub record NextMatch (file places : List ℕ) (n : ℕ) (area t : List ℕ) (r l : ℕ) : Type 0 where
  pub bound : ((r ≡ none) × (l ≡ 0)) ⊎ ((r < n) × (0 < l))
  pub room : l ≤ length t
  pub longest : Finds file places n area
      → Longest (row file places n) (Below n) t r × (l ≡ length (row file places n r))

-- p is a row that begins t, or none, and len its length
pub record Reached (R : ℕ → List ℕ) (n : ℕ) (t : List ℕ) (p len : ℕ) : Type 0 where
  pub known : Known (Below n) p
  pub begins : Begins (R p) t
  pub size : len ≡ length (R p)

-- r is the shortest row that begins t and has more than len bytes, and l its length; none where there is no such row
pub record Longer (R : ℕ → List ℕ) (n : ℕ) (t : List ℕ) (len r l : ℕ) : Type 0 where
  pub is : (r ≡ none → ⊥) → Begins (R r) t × (l ≡ length (R r))
  pub shortest : (r ≡ none → ⊥) → (d : ℕ) → d < n → Begins (R d) t → len < length (R d) → l ≤ length (R d)
  pub all : r ≡ none → (d : ℕ) → d < n → Begins (R d) t → length (R d) ≤ len

-- row r, of l bytes, is longer than len bytes, and no longer than m
pub record Within (n len m r l : ℕ) : Type 0 where
  pub below : r < n
  pub longer : len < l
  pub room : l ≤ m

-- r is the shortest row that begins t and is longer than p, of len bytes, which begins it too, and l its length
pub record LongerMatch (file places : List ℕ) (n : ℕ) (area t : List ℕ) (p len r l : ℕ) : Type 0 where
  pub bound : (r ≡ none) ⊎ Within n len (length t) r l
  pub next : Finds file places n area → Reached (row file places n) n t p len → Longer (row file places n) n t len r l

-- r is the shortest row that begins t, and l its length, which is 1
abbrev pub FirstMatch : List ℕ → List ℕ → ℕ → List ℕ → List ℕ → ℕ → ℕ → Type 0
FirstMatch file places n area t r l = LongerMatch file places n area t none 0 r l × (l ≤ 1)

-- r is the row with the bytes t, or none where no row has them
pub record RowIs (R : ℕ → List ℕ) (n : ℕ) (t : List ℕ) (r : ℕ) : Type 0 where
  pub is : (r ≡ none → ⊥) → (r < n) × (R r ≡ t)
  pub all : r ≡ none → (d : ℕ) → d < n → R d ≡ t → ⊥

-- r is that row, as find answers it
pub record Found (file places : List ℕ) (n : ℕ) (area t : List ℕ) (r : ℕ) : Type 0 where
  pub bound : (r ≡ none) ⊎ (r < n)
  pub found : Finds file places n area → RowIs (row file places n) n t r

-- r is the row with the bytes of row x followed by those of row y
abbrev pub Joined : List ℕ → List ℕ → ℕ → List ℕ → ℕ → ℕ → ℕ → Type 0
Joined file places n area x y r = Found file places n area (row file places n x ++ row file places n y) r
