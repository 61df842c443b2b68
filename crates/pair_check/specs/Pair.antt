-- The pair check over tables: what it may read, and what the tables must say for its answer to be the definition's.
use Rattle.std.specs.Prelude.{◌≡◌, List, [], ◌++◌, ◌⊎◌, Bool, true, false, ◌&&◌, ℕ, ◌+◌, ◌-◌, ◌*◌, ◌/◌, ◌%◌, ◌≤◌, ◌<◌, length, get_or, ltb, eqb}
use Rattle.marks.specs.Layout.{seams, pairs, area_size}
use Rattle.theory.specs.Dictionary.{Dictionary, none}
use Rattle.theory.specs.Paper.{listed}
use Rattle.theory.specs.PairCheck.{listed_below, passes}
use Rattle.phrase_file.specs.Form.{rows}
use Rattle.placed_rows.specs.Rows.{Placed}
use Rattle.tables.specs.Tables.{PairTables}
use Rattle.tables.specs.Ready.{PlacesReady, PartsReady}
use Rattle.search_area.specs.Area.{Finds}
use Rattle.marks.specs.Marks.{marked, bit_key}

-- rows differ from each other
abbrev pub Distinct : List ℕ → Type 0
Distinct file = (u v : ℕ) → u < length (rows file) → v < length (rows file)
    → get_or (rows file) u [] ≡ get_or (rows file) v [] → u ≡ v

-- the tables of the rows below q are those of the dictionary D
pub record Tells (D : Dictionary) (file lefts rights : List ℕ) (q : ℕ) : Type 0 where
  pub bytes : (c : ℕ) → c < q → D.bytes c ≡ get_or (rows file) c []
  pub long : (c : ℕ) → c < q → D.long c ≡ ltb 1 (length (get_or (rows file) c []))
  pub left : (c : ℕ) → c < q → get_or lefts c 0 ≡ D.left c
  pub right : (c : ℕ) → c < q → get_or rights c 0 ≡ D.right c
  pub joined : (c : ℕ) → c < q → D.long c ≡ true → D.bytes (D.left c) ++ D.bytes (D.right c) ≡ D.bytes c

-- a number of 32 bits for two codes: the lower ones of a product
unfoldable pub pair_hash : ℕ → ℕ → ℕ
pair_hash u v = (u % 4096 * 4096 + v % 4096) * 2654435769 % 4294967296

-- the key of two codes: the upper 20 of these bits
unfoldable pub pair_key : ℕ → ℕ → ℕ
pair_key u v = pair_hash u v / 4096

-- which of the 4,608 hints may name the row that has the two as its parts
unfoldable pub hint_place : ℕ → ℕ → ℕ
hint_place u v = pair_hash u v * 4608 / 4294967296

-- row c if it is below m, else none
unfoldable pub row_below : ℕ → ℕ → ℕ
row_below c m = elim (ltb c m) [ true ↦ c | false ↦ none ]

-- the marks of pairs, from number 15,360 of the search area on: the two parts of every longer row below q are marked
abbrev pub PairsMarked : List ℕ → List ℕ → List ℕ → ℕ → Type 0
PairsMarked lefts rights area q = (c : ℕ) → c < q → get_or lefts c 0 < c
    → marked area pairs (pair_key (get_or lefts c 0) (get_or rights c 0)) ≡ true

-- the seam of two bytes, one of 16,384
unfoldable pub seam_bit : ℕ → ℕ → ℕ
seam_bit a b = (a * 97 + b) % 16384

-- its key, of one bit
unfoldable pub seam_key : ℕ → ℕ → ℕ
seam_key a b = bit_key (seam_bit a b / 32) (seam_bit a b % 32)

-- the first and the last byte of row c
unfoldable pub first_byte : List ℕ → ℕ → ℕ
first_byte file c = get_or (get_or (rows file) c []) 0 0

unfoldable pub last_byte : List ℕ → ℕ → ℕ
last_byte file c = get_or (get_or (rows file) c []) (length (get_or (rows file) c []) - 1) 0

-- the key of the seam in row c behind as many bytes as row l has: of the last of these bytes and the next one
unfoldable pub seam_at : List ℕ → ℕ → ℕ → ℕ
seam_at file c l =
    seam_key (get_or (get_or (rows file) c []) (length (get_or (rows file) l []) - 1) 0)
    (get_or (get_or (rows file) c []) (length (get_or (rows file) l [])) 0)

-- the marks of seams, numbers 14,848 to 15,359 of the search area: the seam between the parts of every longer row
-- below q is marked
abbrev pub SeamsMarked : List ℕ → List ℕ → List ℕ → ℕ → Type 0
SeamsMarked file lefts area q = (c : ℕ) → c < q → get_or lefts c 0 < c
    → marked area seams (seam_at file c (get_or lefts c 0)) ≡ true

-- what may be read: the rows, the parts of the rows below q, and two such rows
pub record PairReady (P : PairTables) (n q u v : ℕ) : Type 0 where
  pub places_ready : PlacesReady P.file P.places n
  pub parts_ready : PartsReady P.file P.lefts P.rights q
  pub area_room : area_size ≤ length P.area
  pub few : q ≤ n
  pub left_below : u < q
  pub right_below : v < q

-- what may be read for the seam of two rows
pub record SeamReady (file places area : List ℕ) (n u v : ℕ) : Type 0 where
  pub places_ready : PlacesReady file places n
  pub area_room : area_size ≤ length area
  pub left_below : u < n
  pub right_below : v < n

-- row c is below m, longer than a byte, and has u and v as its parts
unfoldable pub listed_in : List ℕ → List ℕ → ℕ → ℕ → ℕ → ℕ → Bool
listed_in lefts rights c m u v = ltb c m && (eqb (get_or lefts c 0) u && (ltb u c && eqb (get_or rights c 0) v))

-- what may be read for one join below m: the rows, the parts of the rows below q, and two rows
pub record JoinReady (P : PairTables) (n q m u v : ℕ) : Type 0 where
  pub placed : Placed P.file P.places n
  pub area_room : area_size ≤ length P.area
  pub left_room : q ≤ length P.lefts
  pub right_room : q ≤ length P.rights
  pub below : m ≤ q
  pub left_below : u < n
  pub right_below : v < n

-- r is the row below m that has u and v as its parts, or none
pub record JoinIs (P : PairTables) (n q m u v r : ℕ) : Type 0 where
  pub bound : (r ≡ none) ⊎ (r < m)
  pub nothing : r ≡ none → PairReady P n q u v → (D : Dictionary) → Tells D P.file P.lefts P.rights q
      → Distinct P.file → Finds P.file P.places n P.area → PairsMarked P.lefts P.rights P.area q
      → listed_below D m u v ≡ false
  pub is : (r ≡ none → ⊥) → PairReady P n q u v → (D : Dictionary) → Tells D P.file P.lefts P.rights q
      → Distinct P.file → Finds P.file P.places n P.area
      → listed D r u v ≡ true

-- the answer is that of the pair check over the rows below q
pub record PairIs (P : PairTables) (n q u v : ℕ) (r : Bool) : Type 0 where
  pub passes_is : (D : Dictionary) → Tells D P.file P.lefts P.rights q → Distinct P.file
      → Finds P.file P.places n P.area → PairsMarked P.lefts P.rights P.area q → r ≡ passes D q u v

-- the answer is the same where the marks of seams are looked at too
pub record PassIs (P : PairTables) (n q u v : ℕ) (r : Bool) : Type 0 where
  pub passes_is : (D : Dictionary) → Tells D P.file P.lefts P.rights q → Distinct P.file
      → Finds P.file P.places n P.area → PairsMarked P.lefts P.rights P.area q
      → SeamsMarked P.file P.lefts P.area q → r ≡ passes D q u v
