-- The encoder at the start, a code that is added, and a code that is taken back. Assumes nothing.
use mathlib.Core.Path.{◌≡◌, refl, sym, ap, ◌∙◌}
use mathlib.Core.Logic.{inl, inr}
use mathlib.Core.List.{List, [], ◌∷◌}
use mathlib.Core.Bool.{Bool, true, false, not, ◌&&◌, ◌||◌}
use Prim.Native.Nat.{ℕ, ◌+◌, ◌-◌, ◌≤◌, ◌<◌}
use native.Mathlib.Decide.{ℕ_discrete}
use native.Mathlib.Omega.{arith}
use lib.ListN.{length, length-set, get_or, drop, set}
use lib.Seq.{get_or-set_same, get_or-set_other, drop-set-lt}
use lib.Dec.{eqb}
use Rattle.theory.specs.Parts.{rows_at}
use Rattle.theory.specs.Backtracking.{State, mark, place}
use Rattle.theory.specs.Dictionary.{none}
use Rattle.placed_rows.specs.Rows.{row}
use Rattle.placed_rows.specs.Texts.{Small}
use Rattle.bitfield.specs.Bits.{is_set, without}
use Rattle.bitfield.proofs.Sets.{all-below}
use Rattle.tables.specs.Tables.{tables}
use Rattle.tables.specs.Ready.{PlacesReady}
use Rattle.search_area.specs.Answers.{NextMatch}
use Rattle.built_tables.specs.Built.{dictionary_of}
use Rattle.backtrack_encoder.specs.declared.BacktrackEncoder.{BacktrackEncoder}
use Rattle.backtrack_encoder.specs.Encoder.{RowsReady, stack_of, EncoderReady, Shows}
use Rattle.backtrack_encoder.specs.Steps.{EndsIn, Started, Added, TakenBack}
use Rattle.backtrack_encoder.proofs.Stack.{stack-nil, stack-last, stack_push, try_none, try_row}
use Rattle.backtrack_encoder.proofs.Sizes.{read_length, not_none, count_room}
use Rattle.backtrack_encoder.proofs.Nexts.{Bytes, bytes_drop, next-bound, next-tried}

-- before any step
pub move_start : (file places area : List ℕ) (n : ℕ) (text : List ℕ) (r l : ℕ) → PlacesReady file places n → length text ≤ 4096 → Bytes text
    → NextMatch file places n area (drop 0 text) r l → Started file places area n text (record { count = 0; pos = 0; next = r })
move_start file places area n text r l P short b m = record {
  ready = λ work. record {
    codes = λ i h. absurd (omega arith);
    reached = sym (ap (place (dictionary_of file)) (stack-nil work));
    inside = omega arith;
    next = next-bound file places n area text r l m;
  };
  built = λ lefts rights prefixes B work alive e. record {
    stack = sym (stack-nil work);
    next = next-tried (tables file places lefts rights prefixes area) n B P text r l (bytes_drop 0 text b) m;
    bits = λ p h. ap (λ (f : ℕ → Bool). f p) e ∙ all-below p (omega arith);
  };
}

-- a row c of l bytes is added
module _ (file places area : List ℕ) (n : ℕ) (text : List ℕ) (e : BacktrackEncoder) (work : List ℕ) (c l : ℕ)
    (T : RowsReady file places area n text work) (R : EncoderReady file n text e work) (h : c < n) (i : EndsIn file text e c)
    (S : Small (length (row file places n c)) 256 l) where
  length-read : l ≡ length ((dictionary_of file).bytes c)
  length-read = read_length file places n T.places_ready c l h S

  add-room : e.count < length text
  add-room = count_room file places n T.places_ready text e work R c i

  pub add-inside : e.pos + l ≤ length text
  add-inside = omega (arith, length-read)

  pushed : stack_of (set work e.count c) (e.count + 1) ≡ c ∷ stack_of work e.count
  pushed = let m = add-room in let k = T.room in stack_push work c e.count (omega arith)

  pub move_add : (r k : ℕ) → Bytes text → NextMatch file places n area (drop (e.pos + l) text) r k
      → Added file places area n text e work c (record { count = e.count + 1; pos = e.pos + l; next = r }) (set work e.count c)
  move_add r k b m = record {
    ready = record {
      codes = code;
      reached = let p = R.reached in omega (arith, ap (place (dictionary_of file)) pushed, length-read);
      inside = add-inside;
      next = next-bound file places n area (drop (e.pos + l) text) r k m;
    };
    work_length = length-set work e.count c;
    work_beyond = drop-set-lt (length text) work e.count c add-room;
    built = λ lefts rights prefixes B s alive v.
        let p : place (dictionary_of file) (c ∷ s.stack) ≡ e.pos + l =
        ap (λ (x : ℕ). x + length ((dictionary_of file).bytes c)) (ap (place (dictionary_of file)) v.stack ∙ sym R.reached) ∙ ap (λ (x : ℕ). e.pos + x) (sym length-read) in
        record {
          stack = ap (λ (K : List ℕ). c ∷ K) v.stack ∙ sym pushed;
          next = ap (λ (x : ℕ). rows_at (dictionary_of file) (drop x text)) p
              ∙ next-tried (tables file places lefts rights prefixes area) n B T.places_ready (drop (e.pos + l) text) r k (bytes_drop (e.pos + l) text b) m;
          bits = v.bits;
        };
  }
    where
      code : (j : ℕ) → j < e.count + 1 → get_or (set work e.count c) j 0 < n
      code j g = go (ℕ_discrete j e.count)
        where
          go : Dec (j ≡ e.count) → get_or (set work e.count c) j 0 < n
          go (yes q) = let m = add-room in let k = T.room in rw (q, get_or-set_same work e.count c 0 (omega arith)) h
          go (no q) = rw (get_or-set_other work e.count j c 0 q) (R.codes j (omega arith))

not-or : (a b : Bool) → not a && not b ≡ not (a || b)
not-or true b = refl
not-or false b = refl

-- a place is marked dead as its bit is cleared
pub mark_bit : (bits : ℕ → Bool) (dead : ℕ → Bool) (i p : ℕ) → bits p ≡ not (dead p) → without bits i p ≡ not (mark dead i p)
unfolding without
mark_bit bits dead i p e = ap (λ (b : Bool). not (eqb p i) && b) e ∙ not-or (eqb p i) (dead p)

module _ (file places : List ℕ) (n : ℕ) (text : List ℕ) (e : BacktrackEncoder) (work alive alive' : List ℕ) (P : PlacesReady file places n)
    (R : EncoderReady file n text e work) (cleared : is_set alive' ≡ without (is_set alive) e.pos) where
  still-alive : (s : State) → Shows (dictionary_of file) text e work alive s → (p : ℕ) → p ≤ length text → is_set alive' p ≡ not (mark s.dead (place (dictionary_of file) s.stack) p)
  still-alive s v p h =
      ap (λ (f : ℕ → Bool). f p) cleared
      ∙ mark_bit (is_set alive) s.dead e.pos p (v.bits p h)
      ∙ ap (λ (i : ℕ). not (mark s.dead i p)) (R.reached ∙ ap (place (dictionary_of file)) (sym v.stack))

  -- there is no code to take back
  pub back_none : e.count ≡ 0 → TakenBack file n text e work alive (record { count = 0; pos = 0; next = none }) alive'
  back_none z = record {
    ready = record { codes = λ i h. absurd (omega arith); reached = sym (ap (place (dictionary_of file)) (stack-nil work)); inside = omega arith; next = inl refl };
    state = λ s v.
        let k : s.stack ≡ [] = v.stack ∙ ap (stack_of work) z ∙ stack-nil work in
        let a : (p : ℕ) → p ≤ length text → is_set alive' p ≡ not (mark s.dead (place (dictionary_of file) s.stack) p) = still-alive s v in
        rw k (record { stack = sym (stack-nil work); next = sym (try_none (dictionary_of file)); bits = rw k at a });
  }

  -- the last code x of l bytes is taken back
  module _ (some : e.count ≡ 0 → ⊥) (l : ℕ) (S : Small (length (row file places n (get_or work (e.count - 1) 0))) 256 l) where
    abbrev x : ℕ
    x = get_or work (e.count - 1) 0

    below : x < n
    below = R.codes (e.count - 1) (omega arith)

    last : stack_of work e.count ≡ x ∷ stack_of work (e.count - 1)
    last = stack-last work e.count some

    length_last : l ≡ length ((dictionary_of file).bytes x)
    length_last = read_length file places n P x l below S

    whole : e.pos ≡ place (dictionary_of file) (stack_of work (e.count - 1)) + l
    whole = R.reached ∙ ap (place (dictionary_of file)) last ∙ ap (λ (y : ℕ). place (dictionary_of file) (stack_of work (e.count - 1)) + y) (sym length_last)

    pub back_pos : l ≤ e.pos
    back_pos = omega (arith, whole)

    pub back_last : TakenBack file n text e work alive (record { count = e.count - 1; pos = e.pos - l; next = x }) alive'
    back_last = record {
      ready = record {
        codes = λ i h. R.codes i (omega arith);
        reached = omega (arith, whole);
        inside = let i = R.inside in omega arith;
        next = inr below;
      };
      state = λ s v.
          let k : s.stack ≡ x ∷ stack_of work (e.count - 1) = v.stack ∙ last in
          let a : (p : ℕ) → p ≤ length text → is_set alive' p ≡ not (mark s.dead (place (dictionary_of file) s.stack) p) = still-alive s v in
          rw k (record { stack = refl; next = sym (try_row (dictionary_of file) x (not_none file places n P x below)); bits = rw k at a });
    }
