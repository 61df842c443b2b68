-- The lengths of rows on tables in form, and the numbers of an encoder that may be used. Assumes nothing.
use mathlib.Core.Path.{◌≡◌, sym, ap, ◌∙◌}
use mathlib.Core.List.{List, [], ◌∷◌}
use Prim.Native.Nat.{ℕ, ◌-◌, ◌≤◌, ◌<◌}
use native.Mathlib.Decide.{dec_lt}
use native.Mathlib.Omega.{arith}
use lib.ListN.{length, get_or, get_or-eq_default}
use Rattle.std.proofs.lemmas.List.{get_or_default}
use Rattle.theory.specs.Parts.{dictionary}
use Rattle.theory.proofs.Places.{stack-place}
use Rattle.phrase_file.specs.Form.{rows}
use Rattle.theory.specs.Dictionary.{none}
use Rattle.placed_rows.specs.Rows.{row}
use Rattle.placed_rows.specs.Texts.{Small}
use Rattle.tables.specs.Tables.{Tables}
use Rattle.tables.specs.Ready.{PlacesReady}
use Rattle.built_tables.specs.Built.{dictionary_of}
use Rattle.backtrack_encoder.specs.declared.BacktrackEncoder.{BacktrackEncoder}
use Rattle.backtrack_encoder.specs.Encoder.{TextReady, RowsReady, stack_of, EncoderReady}
use Rattle.backtrack_encoder.specs.Steps.{EndsIn}
use Rattle.backtrack_encoder.proofs.Stack.{stack-length}

module _ (file places : List ℕ) (n : ℕ) (P : PlacesReady file places n) where
  bytes-row : (c : ℕ) → c < n → (dictionary_of file).bytes c ≡ get_or (rows file) c []
  unfolding dictionary_of dictionary
  bytes-row c h = let e = P.count in get_or_default (rows file) c ((c - length (rows file)) ∷ []) [] (omega arith)

  bytes-other : (c : ℕ) → n ≤ c → (dictionary_of file).bytes c ≡ (c - length (rows file)) ∷ []
  unfolding dictionary_of dictionary
  bytes-other c h = let e = P.count in let l : length (rows file) ≤ c = omega arith in get_or-eq_default (rows file) ((c - length (rows file)) ∷ []) l

  -- the length of a row as it is read is the dictionary's
  size_is : (c : ℕ) → c < n → length (row file places n c) ≡ length ((dictionary_of file).bytes c)
  size_is c h = ap length (P.rows_are c h ∙ sym (bytes-row c h))

  -- row c has l bytes as they are read
  pub read_length : (c l : ℕ) → c < n → Small (length (row file places n c)) 256 l → l ≡ length ((dictionary_of file).bytes c)
  read_length c l h s = s.is ∙ size_is c h

  pub filled_row : (c : ℕ) → 0 < length ((dictionary_of file).bytes c)
  filled_row c = go (dec_lt c n)
    where
      go : Dec (c < n) → 0 < length ((dictionary_of file).bytes c)
      go (yes h) = let f = P.filled c h in omega (arith, ap length (bytes-row c h))
      go (no h) = omega (arith, ap length (bytes-other c (omega arith)))

  pub not_none : (c : ℕ) → c < n → c ≡ none → ⊥
  not_none c h e = let f = P.placed.few in omega arith

  -- no more codes than bytes
  module _ (text : List ℕ) (e : BacktrackEncoder) (work : List ℕ) (R : EncoderReady file n text e work) where
    pub count_pos : e.count ≤ e.pos
    count_pos = omega (arith, R.reached, stack-length work e.count, stack-place (dictionary_of file) filled_row (stack_of work e.count))

    pub count-text : e.count ≤ length text
    count-text = omega (arith, count_pos, R.inside)

    pub count_room : (c : ℕ) → EndsIn file text e c → e.count < length text
    count_room c h = omega (arith, count_pos, filled_row c)

-- where all tables are in form, the rows may be read
pub rows_ready : (T : Tables) (n : ℕ) (text work : List ℕ)
    → TextReady T n text work → RowsReady T.file T.places T.area n text work
rows_ready T n text work K = record {
  places_ready = K.tables.places_ready;
  area_room = K.tables.area_room;
  short = K.short;
  room = K.room;
}
