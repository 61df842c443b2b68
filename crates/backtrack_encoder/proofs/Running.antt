-- The run of an encoder: what is known after each step, and its codes at the end. Assumes nothing.
use mathlib.Core.Path.{◌≡◌, refl, sym, ap, ◌∙◌}
use mathlib.Core.Logic.{◌⊎◌, ⊎_elim}
use mathlib.Core.List.{List}
use Prim.Native.Nat.{ℕ, ◌+◌, ◌*◌, ◌≤◌}
use native.Mathlib.Numerals.{add-one}
use native.Mathlib.Omega.{arith}
use lib.ListN.{length, drop}
use lib.Seq.{length-take-le}
use Rattle.theory.specs.Dictionary.{Dictionary, none}
use Rattle.theory.specs.Merge.{encode}
use Rattle.theory.specs.Backtracking.{codes, start, run}
use Rattle.theory.proofs.Backtracking.{going_end, run-codes}
use Rattle.bitfield.specs.Bits.{is_set, all_set}
use Rattle.built_tables.specs.Built.{Built, dictionary_of}
use Rattle.built_tables.proofs.Rows.{octets, lawful-is, known}
use Rattle.backtrack_encoder.specs.declared.BacktrackEncoder.{BacktrackEncoder}
use Rattle.backtrack_encoder.specs.Encoder.{TextReady, EncoderReady, Shows}
use Rattle.backtrack_encoder.specs.Steps.{Started, Stepped}
use Rattle.backtrack_encoder.specs.Answers.{Backtracked, CountIs}
use Rattle.backtrack_encoder.proofs.Stack.{stack-codes}
use Rattle.backtrack_encoder.proofs.Sizes.{count-text}
use Rattle.backtrack_encoder.proofs.Nexts.{Bytes}
use Rattle.backtrack_encoder.proofs.Stepping.{shows-end, on_the_way}
use Rattle.tables.specs.Tables.{Tables}

module _ (T : Tables) (n : ℕ) (text entry : List ℕ) where
  open T use {file, places, lefts, rights, prefixes, area}

  abbrev D : Dictionary
  D = dictionary_of file

  -- what is known after so many steps; `entry` is the work buffer at the start
  pub record Running (done : ℕ) (e : BacktrackEncoder) (work alive : List ℕ) : Type 0 where
    pub text_ready : TextReady T n text work
    pub ready : EncoderReady file n text e work
    pub kept : length work ≡ length entry
    pub beyond : drop (length text) work ≡ drop (length text) entry
    pub shows : Built T n → Shows D text e work alive (run D text done (start D text))

  pub running-start : (e : BacktrackEncoder) (alive : List ℕ) → TextReady T n text entry
      → Started file places area n text e → is_set alive ≡ all_set → Running 0 e entry alive
  running-start e alive Q S a = record {
    text_ready = Q;
    ready = S.ready entry;
    kept = refl;
    beyond = refl;
    shows = λ B. S.built lefts rights prefixes B entry alive a;
  }

  module _ (done : ℕ) (e : BacktrackEncoder) (work alive : List ℕ) (U : Running done e work alive) where
    pub running-step : (r : BacktrackEncoder) (work' alive' : List ℕ)
        → Stepped T n text e work alive r work' alive' → Running (done + 1) r work' alive'
    running-step r work' alive' K = record {
      text_ready = record { tables = U.text_ready.tables; short = U.text_ready.short; room = let q = U.text_ready.room in let l = K.work_length in omega arith };
      ready = K.ready;
      kept = K.work_length ∙ U.kept;
      beyond = K.work_beyond ∙ U.beyond;
      shows = λ B. rw add-one (K.built B done (U.shows B));
    }

    -- no more codes than bytes
    pub running-few : e.count ≤ length text
    running-few = count-text file places n U.text_ready.tables.places_ready text e work U.ready

    -- the codes at the end
    pub running-end : Bytes text → (2 * length text ≤ done) ⊎ (e.next ≡ none) → Backtracked T n text entry e.count work
    running-end b o = record {
      few = running-few;
      work_length = U.kept;
      work_beyond = U.beyond;
      codes = U.ready.codes;
      built = λ B.
          let q = U.text_ready.room in
          let f = running-few in
          sym (stack-codes work e.count (omega arith)) ∙ ap codes (sym (U.shows B).stack) ∙ all B;
    }
      where
        all : Built T n → codes (run D text done (start D text)).stack ≡ encode D text
        all B = ⊎_elim
            (λ h. run-codes D (lawful-is T n B) text (known T n B text (octets text b)) done h)
            (λ z. going_end D text (run D text done (start D text)) (on_the_way T n text B b done)
            (shows-end D text e work alive (run D text done (start D text)) (U.shows B) z))
            o

-- the number of codes
pub codes-count : (T : Tables) (n : ℕ) (text work : List ℕ) (r : ℕ) (work' : List ℕ)
    → TextReady T n text work → Backtracked T n text work r work'
    → Built T n → r ≡ length (encode (dictionary_of T.file) text)
codes-count T n text work r work' Q K B =
    let f = K.few in
    let m = Q.room in
    let l = K.work_length in
    sym (length-take-le r work' (omega arith)) ∙ ap length (K.built B)

pub counted-codes : (T : Tables) (n : ℕ) (text work : List ℕ) (r : ℕ) (work' : List ℕ)
    → TextReady T n text work → Backtracked T n text work r work'
    → CountIs T n text work r work'
counted-codes T n text work r work' Q K = record {
  few = K.few;
  work_length = K.work_length;
  work_beyond = K.work_beyond;
  built = codes-count T n text work r work' Q K;
}
