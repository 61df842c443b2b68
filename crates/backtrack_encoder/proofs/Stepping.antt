-- A step of the encoder is a step of the definition. Assumes nothing.
use mathlib.Core.Path.{◌≡◌, refl, sym, ap, ◌∙◌}
use mathlib.Core.Logic.{inl, ⊎_elim}
use mathlib.Core.List.{List}
use mathlib.Core.Bool.{Bool, true, false}
use Prim.Native.Nat.{ℕ, zero, suc, ◌<◌}
use native.Mathlib.Omega.{arith}
use lib.ListN.{length-drop}
use Rattle.theory.specs.Lists.{In}
use Rattle.theory.specs.Dictionary.{Dictionary, none}
use Rattle.theory.specs.Backtracking.{State, place, first_fit, step, start, is_nil, finished, run}
use Rattle.theory.proofs.Backtracking.{Going, going_start, going_run, step-add, step_back}
use Rattle.built_tables.specs.Built.{Built, dictionary_of}
use Rattle.built_tables.proofs.Rows.{octets, lawful-is, known}
use Rattle.backtrack_encoder.specs.declared.BacktrackEncoder.{BacktrackEncoder}
use Rattle.backtrack_encoder.specs.Encoder.{to_try, EncoderReady, Shows}
use Rattle.backtrack_encoder.specs.Steps.{EndsIn, row_or, FirstFitIs, Added, TakenBack, Stepped}
use Rattle.backtrack_encoder.proofs.Stack.{try_none, try_row, row-none, row-some}
use Rattle.backtrack_encoder.proofs.Nexts.{Bytes}
use Rattle.tables.specs.Tables.{Tables}

module _ (D : Dictionary) (text : List ℕ) where
  run-stays : (k : ℕ) (s : State) → finished D text s ≡ true → run D text k s ≡ s
  run-stays zero s e = refl
  run-stays (suc k) s e = rw (e, run)

  run-next : (k : ℕ) (s : State) → finished D text s ≡ false → run D text (suc k) s ≡ run D text k (step D text s)
  run-next k s e = rw (e, run)

  -- the last of the steps
  run-last : (k : ℕ) (s : State) → run D text (suc k) s ≡ run D text 1 (run D text k s)
  run-last zero s = refl
  run-last (suc k) s = go (finished D text s) refl (run-last k (step D text s))
    where
      go : (b : Bool) → finished D text s ≡ b → run D text (suc k) (step D text s) ≡ run D text 1 (run D text k (step D text s))
          → run D text (suc (suc k)) s ≡ run D text 1 (run D text (suc k) s)
      go true e ih = run-stays (suc (suc k)) s e ∙ sym (ap (run D text 1) (run-stays (suc k) s e) ∙ run-stays 1 s e)
      go false e ih = run-next (suc k) s e ∙ ih ∙ sym (ap (run D text 1) (run-next k s e))

  module _ (k : ℕ) (s : State) where
    pub run_end : finished D text (run D text k s) ≡ true → run D text (suc k) s ≡ run D text k s
    run_end e = run-last k s ∙ run-stays 1 (run D text k s) e

    pub run_more : finished D text (run D text k s) ≡ false → run D text (suc k) s ≡ step D text (run D text k s)
    run_more e = run-last k s ∙ run-next 0 (run D text k s) e

  -- whether anything is left to try
  module _ (e : BacktrackEncoder) (work alive : List ℕ) (s : State) (v : Shows D text e work alive s) where
    pub shows-end : e.next ≡ none → finished D text s ≡ true
    shows-end z = ap (is_nil D text) (v.next ∙ ap (to_try D) z ∙ try_none D)

    pub shows_more : (e.next ≡ none → ⊥) → finished D text s ≡ false
    shows_more z = ap (is_nil D text) (v.next ∙ try_row D e.next z)

module _ (T : Tables) (n : ℕ) (text : List ℕ) where
  open T use {file, places, lefts, rights, prefixes, area}

  abbrev D : Dictionary
  D = dictionary_of file

  -- every state that is reached is on the way
  pub on_the_way : Built T n → Bytes text → (k : ℕ) → Going D text (run D text k (start D text))
  on_the_way B b k =
      let L = lawful-is T n B in
      let q = known T n B text (octets text b) in
      going_run D L text q k (start D text) (going_start D L text q)

  module _ (e : BacktrackEncoder) (work alive : List ℕ) where
    -- nothing is left to try
    pub step-none : EncoderReady file n text e work → e.next ≡ none → Stepped T n text e work alive e work alive
    step-none R z = record {
      ready = R;
      work_length = refl;
      work_beyond = refl;
      built = λ B k v. rw (run_end D text k (start D text) (shows-end D text e work alive (run D text k (start D text)) v z)) v;
    }

    module _ (R : EncoderReady file n text e work) (b : Bytes text) (z : e.next ≡ none → ⊥) (c : ℕ) (F : FirstFitIs T n text e work alive c) where
      module _ (B : Built T n) (k : ℕ) (v : Shows D text e work alive (run D text k (start D text))) where
        abbrev s : State
        s = run D text k (start D text)

        more : run D text (suc k) (start D text) ≡ step D text s
        more = run_more D text k (start D text) (shows_more D text e work alive s v z)

        -- the next row begins the text behind the codes
        ends : EndsIn file text e e.next
        ends =
            let g = on_the_way B b k in
            let m : In e.next s.next = rw (v.next ∙ try_row D e.next z) (inl refl) in
            let q = g.begin e.next m in
            let p : e.pos ≡ place D s.stack = R.reached ∙ ap (place D) (sym v.stack) in
            omega (arith, p, q.short, length-drop (place D s.stack) text, R.inside)

        first : first_fit D s.stack s.dead s.next ≡ row_or c
        first = sym (F.built B s v ends)

      pub step-taken : (r : BacktrackEncoder) (alive' : List ℕ) → c ≡ none → TakenBack file n text e work alive r alive'
          → Stepped T n text e work alive r work alive'
      step-taken r alive' q K = record {
        ready = K.ready;
        work_length = refl;
        work_beyond = refl;
        built = λ B k v. rw (more B k v ∙ step_back D text (s B k v) (first B k v ∙ ap row_or q ∙ row-none)) (K.state (s B k v) v);
      }

      pub step_fits : (c ≡ none → ⊥) → (c < n) × EndsIn file text e c
      step_fits q = ⊎_elim (λ y. absurd (q y)) (λ y. y) F.row

      pub step_added : (r : BacktrackEncoder) (work' : List ℕ) → (c ≡ none → ⊥) → Added file places area n text e work c r work'
          → Stepped T n text e work alive r work' alive
      step_added r work' q K = record {
        ready = K.ready;
        work_length = K.work_length;
        work_beyond = K.work_beyond;
        built = λ B k v. rw (more B k v ∙ step-add D text (s B k v) c (first B k v ∙ row-some c q)) (K.built lefts rights prefixes B (s B k v) alive v);
      }
