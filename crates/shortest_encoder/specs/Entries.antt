-- The entries of the work buffer: for each place of a text the count of the shortest codes from there on, and the
-- first of them with its length.
use Rattle.std.specs.Prelude.{◌≡◌, List, true, false, ℕ, ◌+◌, ◌-◌, ◌*◌, ◌/◌, ◌%◌, ◌≤◌, ◌<◌, length, get_or, drop, ltb}
use Rattle.theory.specs.Lists.{first_or}
use Rattle.theory.specs.Dictionary.{Dictionary, none}
use Rattle.theory.specs.Shortest.{shortest}
use Rattle.built_tables.specs.Built.{dictionary_of, Built}
use Rattle.shortest_encoder.specs.Encoders.{Written, Codes, EntriesReady}
use Rattle.tables.specs.Tables.{Tables, tables}

-- the entry of count codes, the first of which is row, of len bytes: of two entries the lesser one has fewer codes,
-- or as many and the longer row
abbrev pub entry_of : ℕ → ℕ → ℕ → ℕ
entry_of count len row = count * 262144 + (64 - len) * 4096 + row

-- the first of a text's shortest codes
abbrev first : Dictionary → List ℕ → ℕ
first D t = first_or none (shortest D t)

-- the entry of a text, of its shortest codes
unfoldable pub entry : Dictionary → List ℕ → ℕ
entry D t = entry_of (length (shortest D t)) (length (D.bytes (first D t))) (first D t)

-- the count of codes from place j on, by the entries of the places below m; 0 from m on
unfoldable pub count_from : List ℕ → ℕ → ℕ → ℕ
count_from work m j = elim (ltb j m) [ true ↦ get_or work j 0 / 262144 | false ↦ 0 ]

-- the entries of the places from i on and below m: a row, and no more codes than bytes
pub record Bounded (n : ℕ) (work : List ℕ) (m i : ℕ) : Type 0 where
  pub row : (j : ℕ) → i ≤ j → j < m → get_or work j 0 % 4096 < n
  pub few : (j : ℕ) → i ≤ j → j < m → get_or work j 0 / 262144 ≤ m - j

-- from place i on, each is the entry of the text from its place on
abbrev pub AreEntries : Dictionary → List ℕ → List ℕ → ℕ → Type 0
AreEntries D text work i = (j : ℕ) → i ≤ j → j < length text → get_or work j 0 ≡ entry D (drop j text)

-- the entry r of place i is found from those of the later places
pub record EntryReady (file places area : List ℕ) (n : ℕ) (text work : List ℕ) (i : ℕ) : Type 0 where
  pub ready : EntriesReady file places area n text work
  pub inside : i < length text
  pub later : Bounded n work (length text) (i + 1)

pub record EntryIs (file places area : List ℕ) (n : ℕ) (text work : List ℕ) (i r : ℕ) : Type 0 where
  pub row : r % 4096 < n
  pub few : r / 262144 ≤ length text - i
  pub built : (lefts rights prefixes : List ℕ) → Built (tables file places lefts rights prefixes area) n
      → AreEntries (dictionary_of file) text work (i + 1)
      → r ≡ entry (dictionary_of file) (drop i text)

-- the work buffer has the entries of all places, and is unchanged beyond them
pub record Entries (file places area : List ℕ) (n : ℕ) (text work work' : List ℕ) : Type 0 where
  pub size : length work' ≡ length work
  pub beyond : drop (length text) work' ≡ drop (length text) work
  pub bounded : Bounded n work' (length text) 0
  pub built : (lefts rights prefixes : List ℕ) → Built (tables file places lefts rights prefixes area) n
      → AreEntries (dictionary_of file) text work' 0

-- the codes are read from the entries of all places
pub record CodesReady (text work out : List ℕ) : Type 0 where
  pub few : length text ≤ 4096
  pub room : length text ≤ length work
  pub out_room : length text ≤ length out

pub record CodesRead (text work out out' : List ℕ) (r : ℕ) : Type 0 where
  pub written : (n : ℕ) → Bounded n work (length text) 0 → Written n text out out' r
  pub built : (T : Tables) (n : ℕ) → Built T n → AreEntries (dictionary_of T.file) text work 0
      → Codes (shortest (dictionary_of T.file) text) out out' r
