-- The arrangement of the front of the search area: 4,352 heads of buckets, then 4,096 numbers of marks, one for
-- each row, then 4,096 links. A bucket has the rows of one hash of prefix and next byte. A head or a link holds a
-- word, which packs a row, its tag and by how much it is longer than its prefix, or none. A prefix and a next byte
-- that are not marked have no row.
use Rattle.std.specs.Prelude.{◌≡◌, List, [], ◌∷◌, ◌⊎◌, Bool, true, false, ℕ, zero, suc, ◌+◌, ◌-◌, ◌*◌, ◌/◌, ◌%◌, ◌≤◌, ◌<◌, length, get_or, ltb, eqb}
use Rattle.marks.specs.Layout.{row_marks, links}
use Rattle.marks.specs.Marks.{marked, bit_key}
use Rattle.theory.specs.Dictionary.{none}
use Rattle.placed_rows.specs.Longest.{Prefix}

-- rows R, of which K says which are meant, with their prefixes par: a forest in which a row stands under its prefix
pub record Forest (R : ℕ → List ℕ) (par : ℕ → ℕ) (K : ℕ → Type 0) : Type 0 where
  pub root : R none ≡ []
  pub distinct : (c d : ℕ) → K c → K d → R c ≡ R d → c ≡ d
  pub prefix : (d : ℕ) → K d → Prefix R K d (par d)

-- the word of row d, with the tag t, which has m bytes beyond its prefix
unfoldable pub word : ℕ → ℕ → ℕ → ℕ
word d t m = d + 8192 * (t % 8192) + 67108864 * (m - 1)

-- the tag of a row whose prefix has k bytes: the byte beyond them, and five bits of the next one
unfoldable pub tag_at : List ℕ → ℕ → ℕ
tag_at t k = get_or t k 0 + 256 * (get_or t (k + 1) 0 % 32)

-- what a word has of its row, of the row's tag and of how much longer than its prefix it is
abbrev pub row_of : ℕ → ℕ
row_of w = w % 8192

abbrev pub tag_of : ℕ → ℕ
tag_of w = w / 8192 % 8192

abbrev pub more_of : ℕ → ℕ
more_of w = w / 67108864 + 1

-- the bucket of the rows whose prefix is q, and whose next byte is b; rows without a prefix have buckets of their own
unfoldable pub bucket_of : ℕ → ℕ → ℕ
bucket_of q b = elim (eqb q none) [ true ↦ 4096 + b | false ↦ (q * 31 + b) % 4096 ]

-- the key under which they are marked, and where the marks begin: one bit, by the byte, of the prefix's own number
unfoldable pub child_key : ℕ → ℕ → ℕ
child_key q b = bit_key (q % 4096) (b % 32)

abbrev pub marks_from : ℕ
marks_from = row_marks

-- the words from x on, by the links, at most k of them
unfoldable pub walk : ℕ → List ℕ → ℕ → ℕ → List ℕ
walk n area zero x = []
walk n area (suc k) x = elim (ltb (x % 8192) n) [
  | true ↦ x
      ∷ walk n area k (get_or area (links + x % 8192) 0)
  | false ↦ []
]

abbrev pub Mem : ℕ → List ℕ → Type 0
Mem w [] = ⊥
Mem w (x ∷ l) = (w ≡ x) ⊎ Mem w l

-- a set of rows, and how many of them are below n
abbrev pub In : (ℕ → Bool) → ℕ → Type 0
In S d = S d ≡ true

abbrev pub count : (ℕ → Bool) → ℕ → ℕ
count S zero = 0
count S (suc n) = elim (S n) [ true ↦ suc (count S n) | false ↦ count S n ]

-- of row d, where par gives the prefixes: its byte beyond its prefix, its bucket and its word
abbrev pub byte_of : (ℕ → List ℕ) → (ℕ → ℕ) → ℕ → ℕ
byte_of R par d = get_or (R d) (length (R (par d))) 0

abbrev pub home : (ℕ → List ℕ) → (ℕ → ℕ) → ℕ → ℕ
home R par d = bucket_of (par d) (byte_of R par d)

abbrev pub word_of : (ℕ → List ℕ) → (ℕ → ℕ) → ℕ → ℕ
word_of R par d = word d (tag_at (R d) (length (R (par d)))) (length (R d) - length (R (par d)))

-- w is the word of a row of S that belongs into bucket h
pub record Entry (R : ℕ → List ℕ) (par : ℕ → ℕ) (S : ℕ → Bool) (h w : ℕ) : Type 0 where
  pub row : ℕ
  pub in-S : In S row
  pub is : w ≡ word_of R par row
  pub home : home R par row ≡ h

-- the area lists the rows of S: each is marked and stands in its bucket, within as many steps as S has rows; a row of
-- one byte stands first; and no other word stands in a bucket
pub record Indexed (R : ℕ → List ℕ) (n : ℕ) (area : List ℕ) (S : ℕ → Bool) : Type 0 where
  pub par : ℕ → ℕ
  pub forest : Forest R par (In S)
  pub few : n ≤ 4096
  pub below : (d : ℕ) → In S d → d < n
  pub bytes : (d : ℕ) → In S d → byte_of R par d < 256
  pub listed : (d : ℕ) → In S d → Mem (word_of R par d) (walk n area (count S n) (get_or area (home R par d) 0))
  pub marks : (d : ℕ) → In S d → marked area marks_from (child_key (par d) (byte_of R par d)) ≡ true
  pub single : (d : ℕ) → In S d → length (R d) ≡ 1 → get_or area (home R par d) 0 ≡ word_of R par d
  pub only : (h w : ℕ) → h < row_marks → Mem w (walk n area n (get_or area h 0)) → Entry R par S h w
