-- What the functions of one step leave: on tables in form an encoder that may be used, and on what a build left the
-- definition's state.
use Rattle.std.specs.Prelude.{◌≡◌, List, ◌∷◌, ◌⊎◌, Bool, true, false, not, ◌&&◌, ℕ, suc, ◌+◌, ◌≤◌, ◌<◌, length, drop, eqb}
use Rattle.std.proofs.Math.Option.{Option, some}
use Rattle.theory.specs.Dictionary.{none}
use Rattle.theory.specs.Backtracking.{State, place, follows, first_fit, take_back, add, start, run}
use Rattle.bitfield.specs.Bits.{is_set, all_set}
use Rattle.built_tables.specs.Built.{Built, dictionary_of}
use Rattle.backtrack_encoder.specs.declared.BacktrackEncoder.{BacktrackEncoder}
use Rattle.backtrack_encoder.specs.Encoder.{EncoderReady, Shows}
use Rattle.tables.specs.Tables.{Tables, tables, PairTables, with_prefixes}

-- a row, or nothing where it is none
unfoldable pub row_or : ℕ → Option ℕ
row_or r = elim (eqb r none) [ true ↦ Option.none | false ↦ some r ]

-- the end of row c behind the encoder's place is in the text
abbrev pub EndsIn : List ℕ → List ℕ → BacktrackEncoder → ℕ → Type 0
EndsIn file text e c = e.pos + length ((dictionary_of file).bytes c) ≤ length text

-- the place is marked dead and one code taken back
pub record TakenBack (file : List ℕ) (n : ℕ) (text : List ℕ) (e : BacktrackEncoder) (work alive : List ℕ)
    (r : BacktrackEncoder) (alive' : List ℕ) : Type 0 where
  pub ready : EncoderReady file n text r work
  pub state : (s : State) → Shows (dictionary_of file) text e work alive s
      → Shows (dictionary_of file) text r work alive' (take_back (dictionary_of file) s.stack s.dead)

-- whether a row passes with the code before and its end is in the text and not dead
pub record FitsIs (P : PairTables) (n : ℕ) (text : List ℕ) (e : BacktrackEncoder) (work alive : List ℕ) (c : ℕ)
    (r : Bool) : Type 0 where
  pub ends : r ≡ true → EndsIn P.file text e c
  pub built : (prefixes : List ℕ) → Built (with_prefixes P prefixes) n → (s : State)
      → Shows (dictionary_of P.file) text e work alive s → EndsIn P.file text e c
      → r ≡ follows (dictionary_of P.file) s.stack c
      && not (s.dead (place (dictionary_of P.file) (c ∷ s.stack)))

module _ (file places area : List ℕ) (n : ℕ) (text : List ℕ) where
  -- the encoder of a text at the start, over any work buffer and all bits set
  pub record Started (r : BacktrackEncoder) : Type 0 where
    pub ready : (work : List ℕ) → EncoderReady file n text r work
    pub built : (lefts rights prefixes : List ℕ) → Built (tables file places lefts rights prefixes area) n
        → (work alive : List ℕ) → is_set alive ≡ all_set
        → Shows (dictionary_of file) text r work alive (start (dictionary_of file) text)

  -- row c is added
  pub record Added (e : BacktrackEncoder) (work : List ℕ) (c : ℕ) (r : BacktrackEncoder) (work' : List ℕ) : Type 0 where
    pub ready : EncoderReady file n text r work'
    pub work_length : length work' ≡ length work
    pub work_beyond : drop (length text) work' ≡ drop (length text) work
    pub built : (lefts rights prefixes : List ℕ) → Built (tables file places lefts rights prefixes area) n
        → (s : State) (alive : List ℕ)
        → Shows (dictionary_of file) text e work alive s
        → Shows (dictionary_of file) text r work' alive (add (dictionary_of file) text c s.stack s.dead)

module _ (T : Tables) (n : ℕ) (text : List ℕ) where
  open T use {file}

  -- the first of the rows to try that does, or none
  pub record FirstFitIs (e : BacktrackEncoder) (work alive : List ℕ) (r : ℕ) : Type 0 where
    pub row : (r ≡ none) ⊎ ((r < n) × EndsIn file text e r)
    pub built : Built T n → (s : State) → Shows (dictionary_of file) text e work alive s → EndsIn file text e e.next
        → row_or r ≡ first_fit (dictionary_of file) s.stack s.dead s.next

  -- a step adds or takes back one code: the state after k steps becomes the state after one more
  pub record Stepped (e : BacktrackEncoder) (work alive : List ℕ) (r : BacktrackEncoder)
      (work' alive' : List ℕ) : Type 0 where
    pub ready : EncoderReady file n text r work'
    pub work_length : length work' ≡ length work
    pub work_beyond : drop (length text) work' ≡ drop (length text) work
    pub built : Built T n → (k : ℕ)
        → Shows (dictionary_of file) text e work alive (run (dictionary_of file) text k (start (dictionary_of file) text))
        → Shows (dictionary_of file) text r work' alive'
        (run (dictionary_of file) text (suc k) (start (dictionary_of file) text))
