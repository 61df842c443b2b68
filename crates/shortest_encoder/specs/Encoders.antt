-- What the shortest and the greedy encoder need, and what they leave in the output.
use Rattle.std.specs.Prelude.{◌≡◌, List, ◌++◌, ℕ, ◌≤◌, ◌<◌, length, get_or, drop}
use Rattle.marks.specs.Layout.{area_size}
use Rattle.theory.specs.Shortest.{shortest, greedy}
use Rattle.tables.specs.Tables.{tables}
use Rattle.tables.specs.Ready.{PlacesReady}
use Rattle.built_tables.specs.Built.{dictionary_of, Built}

-- output beyond the answer is unchanged: r codes, each below n, stand at the front of the output
pub record Written (n : ℕ) (text out out' : List ℕ) (r : ℕ) : Type 0 where
  pub few : r ≤ length text
  pub size : length out' ≡ length out
  pub beyond : drop r out' ≡ drop r out
  pub rows : (i : ℕ) → i < r → get_or out' i 0 < n

-- they are the codes w
pub record Codes (w out out' : List ℕ) (r : ℕ) : Type 0 where
  pub count : r ≡ length w
  pub codes : out' ≡ w ++ drop r out

-- tables in form, a text, and a work buffer with one number per text byte
pub record EntriesReady (file places area : List ℕ) (n : ℕ) (text work : List ℕ) : Type 0 where
  pub places_ready : PlacesReady file places n
  pub area_room : area_size ≤ length area
  pub few : length text ≤ 4096
  pub room : length text ≤ length work

-- `encode_minimal`: fewest codes; among those the longest first row, then the longest second, and so on
pub record MinimalReady (file places area : List ℕ) (n : ℕ) (text out work : List ℕ) : Type 0 where
  pub ready : EntriesReady file places area n text work
  pub out_room : length text ≤ length out

pub record MinimalIs (file places area : List ℕ) (n : ℕ) (text out out' work work' : List ℕ) (r : ℕ) : Type 0 where
  pub written : Written n text out out' r
  pub work_size : length work' ≡ length work
  pub work_beyond : drop (length text) work' ≡ drop (length text) work
  pub built : (lefts rights prefixes : List ℕ) → Built (tables file places lefts rights prefixes area) n
      → Codes (shortest (dictionary_of file) text) out out' r

-- `encode_greedy`: the longest row at each place
pub record GreedyReady (file places area : List ℕ) (n : ℕ) (text out : List ℕ) : Type 0 where
  pub places_ready : PlacesReady file places n
  pub area_room : area_size ≤ length area
  pub few : length text ≤ 4096
  pub out_room : length text ≤ length out

pub record GreedyIs (file places area : List ℕ) (n : ℕ) (text out out' : List ℕ) (r : ℕ) : Type 0 where
  pub written : Written n text out out' r
  pub built : (lefts rights prefixes : List ℕ) → Built (tables file places lefts rights prefixes area) n
      → Codes (greedy (dictionary_of file) text) out out' r
