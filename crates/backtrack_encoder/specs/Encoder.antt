-- The encoder over tables, and the state of the definition that it shows.
use Rattle.std.specs.Prelude.{◌≡◌, List, [], ◌∷◌, ◌⊎◌, true, false, not, ℕ, zero, suc, ◌≤◌, ◌<◌, length, get_or, eqb}
use Rattle.marks.specs.Layout.{area_size}
use Rattle.theory.specs.Dictionary.{Dictionary, none}
use Rattle.theory.specs.Parts as Parts
use Rattle.theory.specs.Backtracking.{State, place}
use Rattle.bitfield.specs.Bits.{is_set}
use Rattle.tables.specs.Tables.{Tables}
use Rattle.tables.specs.Ready.{PlacesReady, Ready}
use Rattle.built_tables.specs.Built.{dictionary_of}
use Rattle.backtrack_encoder.specs.declared.BacktrackEncoder.{BacktrackEncoder}

-- tables in form, a text of at most 4,096 bytes, and a work buffer with one number per byte
pub record TextReady (T : Tables) (n : ℕ) (text work : List ℕ) : Type 0 where
  pub tables : Ready T n
  pub short : length text ≤ 4096
  pub room : length text ≤ length work

-- the same where only the rows are read
pub record RowsReady (file places area : List ℕ) (n : ℕ) (text work : List ℕ) : Type 0 where
  pub places_ready : PlacesReady file places n
  pub area_room : area_size ≤ length area
  pub short : length text ≤ 4096
  pub room : length text ≤ length work

-- the codes so far, the last one first: the first `count` numbers of the work buffer
unfoldable pub stack_of : List ℕ → ℕ → List ℕ
stack_of work zero = []
stack_of work (suc i) = get_or work i 0 ∷ stack_of work i

-- the rows to try: the next one, and then its prefixes; with none, nothing is left to try
unfoldable pub to_try : Dictionary → ℕ → List ℕ
to_try D next = elim (eqb next none) [ true ↦ [] | false ↦ next ∷ Parts.prefixes D next ]

-- the encoder's numbers may be used: its codes are rows, they reach its place, and that is in the text
pub record EncoderReady (file : List ℕ) (n : ℕ) (text : List ℕ) (e : BacktrackEncoder) (work : List ℕ) : Type 0 where
  pub codes : (i : ℕ) → i < e.count → get_or work i 0 < n
  pub reached : e.pos ≡ place (dictionary_of file) (stack_of work e.count)
  pub inside : e.pos ≤ length text
  pub next : (e.next ≡ none) ⊎ (e.next < n)

-- the encoder, its codes and the bits of the places that are not dead show a state of the definition
pub record Shows (D : Dictionary) (text : List ℕ) (e : BacktrackEncoder) (work alive : List ℕ)
    (s : State) : Type 0 where
  pub stack : s.stack ≡ stack_of work e.count
  pub next : s.next ≡ to_try D e.next
  pub bits : (p : ℕ) → p ≤ length text → is_set alive p ≡ not (s.dead p)
