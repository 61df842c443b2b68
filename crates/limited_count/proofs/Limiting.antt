-- The count with a limit, step by step. Assumes nothing.
use mathlib.Core.Path.{◌≡◌, sym, ap, ◌∙◌}
use mathlib.Core.Logic.{◌⊎◌}
use mathlib.Core.List.{List}
use mathlib.Core.Bool.{Bool, true}
use Prim.Native.Nat.{ℕ, ◌+◌, ◌*◌, ◌≤◌, ◌<◌}
use native.Mathlib.Omega.{arith}
use lib.ListN.{length, get_or}
use Rattle.theory.specs.Dictionary.{none}
use Rattle.theory.specs.Merge.{encode}
use Rattle.theory.specs.Backtracking.{start, run}
use Rattle.theory.specs.CountLimit.{final, count_till_limit}
use Rattle.theory.proofs.CountLimit.{over-counted, final-over, counted_is}
use Rattle.tables.specs.Tables.{Tables, without_prefixes}
use Rattle.built_tables.specs.Built.{Built, dictionary_of}
use Rattle.backtrack_encoder.specs.declared.BacktrackEncoder.{BacktrackEncoder}
use Rattle.backtrack_encoder.specs.Steps.{Stepped}
use Rattle.backtrack_encoder.specs.Encoder.{TextReady}
use Rattle.backtrack_encoder.proofs.Stepping.{on_the_way}
use Rattle.backtrack_encoder.proofs.Running.{Running, running-step, running-few, running-end, codes-count}
use Rattle.std.specs.Prelude.{Option, None}
use Rattle.limited_count.specs.Answers.{limited_of, LimitedIs}
use Rattle.limited_count.specs.Stops.{StaysIf, AheadReady, OverIs}
use Rattle.limited_count.proofs.Staying.{stays-over}

module _ (T : Tables) (n : ℕ) (text entry : List ℕ) (limit : ℕ) where
  open T use {file}

  -- so many steps are done, and it was asked no more often
  pub record Limiting (done asked : ℕ) (e : BacktrackEncoder) (work alive : List ℕ) : Type 0 where
    pub running : Running T n text entry done e work alive
    pub few : asked ≤ done

  pub limiting_start : (e : BacktrackEncoder) (alive : List ℕ) → Running T n text entry 0 e entry alive
      → Limiting 0 0 e entry alive
  limiting_start e alive u = record { running = u; few = omega arith }

  module _ (done asked : ℕ) (e : BacktrackEncoder) (work alive : List ℕ) (W : Limiting done asked e work alive) where
    entry_ready : TextReady T n text entry
    entry_ready =
        let q = W.running.text_ready in
        record { tables = q.tables; short = q.short; room = omega (arith, q.room, W.running.kept) }

    pub limiting_ahead : limit ≤ e.count → AheadReady (without_prefixes T) n text e limit
    limiting_ahead h =
        let q = W.running.text_ready.tables in
        record {
          is_in_form = record { places_ready = q.places_ready; parts_ready = q.parts_ready; area_room = q.area_room };
          short = W.running.text_ready.short;
          inside = W.running.ready.inside;
          few = running-few T n text entry done e work alive W.running;
          reached = h;
        }

    -- "over" is a fact
    told_over : (Built T n → limit < length (encode (dictionary_of file) text)) → LimitedIs T n text limit entry None work
    unfolding count_till_limit
    told_over f = record {
      few = λ k c. absurd (over-counted k c);
      work_length = W.running.kept;
      work_beyond = W.running.beyond;
      built = λ B. sym (final-over limit _ (f B));
    }

    pub limiting_over : (r : Bool) → OverIs (without_prefixes T) n text limit r → r ≡ true → LimitedIs T n text limit entry None work
    limiting_over r S y = told_over (λ B. S.over y T.prefixes B)

    module _ (bytes : (i : ℕ) → get_or text i 0 < 256) where
      -- the answer for the final count
      pub limiting_end : (r : Option ℕ) → (2 * length text ≤ done) ⊎ (e.next ≡ none) → limited_of r ≡ final limit e.count
          → LimitedIs T n text limit entry r work
      unfolding count_till_limit
      limiting_end r o f =
          let K = running-end T n text entry done e work alive W.running bytes o in
          record {
            few = λ k c. let q = counted_is limit e.count k (sym f ∙ c) in (omega (arith, q.0, K.few), q.1);
            work_length = W.running.kept;
            work_beyond = W.running.beyond;
            built = λ B. f ∙ ap (final limit) (codes-count T n text entry e.count work entry_ready K B);
          }

      -- the codes so far stay
      pub limiting_stays : (r : Bool) → limit ≤ e.count → StaysIf T.area text e.pos r → r ≡ true → LimitedIs T n text limit entry None work
      limiting_stays r h f y = told_over (λ B.
          omega (
            arith,
            stays-over T n B text bytes e work alive (run (dictionary_of file) text done (start (dictionary_of file) text))
                (on_the_way T n text B bytes done) W.running.ready (W.running.shows B) (f.stays y),
          ))

    -- or not: a step more, asked or not asked before it
    pub limiting_next : (asked' : ℕ) (r : BacktrackEncoder) (work' alive' : List ℕ) → asked' ≤ asked + 1
        → Stepped T n text e work alive r work' alive' → Limiting (done + 1) asked' r work' alive'
    limiting_next asked' r work' alive' a K = record {
      running = running-step T n text entry done e work alive W.running r work' alive' K;
      few = let q = W.few in omega arith;
    }
