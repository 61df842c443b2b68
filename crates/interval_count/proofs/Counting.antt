-- The count of a piece: it is encoded step by step until the prepared tables take over, or to its end. Assumes nothing.
use mathlib.Core.Path.{◌≡◌, ap, ◌∙◌}
use mathlib.Core.Logic.{◌⊎◌}
use mathlib.Core.List.{List}
use Prim.Native.Nat.{ℕ, ◌+◌, ◌-◌, ◌*◌, ◌≤◌}
use native.Mathlib.Omega.{arith}
use lib.ListN.{length, get_or}
use Rattle.theory.specs.Dictionary.{none}
use Rattle.theory.specs.Merge.{encode}
use Rattle.theory.specs.Tree.{interval_count}
use Rattle.theory.specs.Backtracking.{start, run}
use Rattle.bitfield.specs.Bits.{is_set, all_set}
use Rattle.built_tables.specs.Built.{dictionary_of}
use Rattle.built_tables.proofs.Rows.{lawful-is}
use Rattle.backtrack_encoder.specs.declared.BacktrackEncoder.{BacktrackEncoder}
use Rattle.backtrack_encoder.specs.Steps.{Started, Stepped}
use Rattle.backtrack_encoder.proofs.Sizes.{count_pos}
use Rattle.backtrack_encoder.proofs.Nexts.{Bytes}
use Rattle.backtrack_encoder.proofs.Stepping.{on_the_way}
use Rattle.backtrack_encoder.proofs.Running.{Running, running-start, running-step, running-end, codes-count}
use Rattle.interval_count.specs.Steps.{MeetsReady, Meets, PieceReady, PieceCounts}
use Rattle.interval_count.proofs.Meeting.{met-count}
use Rattle.tables.specs.Tables.{Tables}

module _ (T : Tables) (n : ℕ) (piece codes numbers ends depths : List ℕ) (from to : ℕ) (entry : List ℕ) where
  open T use {file, places, area}

  -- what is known after so many steps; `entry` is the work buffer at the start
  pub record Counting (done : ℕ) (e : BacktrackEncoder) (work alive : List ℕ) : Type 0 where
    pub piece_ready : PieceReady T n piece codes numbers ends depths from to entry
    pub running : Running T n piece entry done e work alive

  pub counting-start : (e : BacktrackEncoder) (alive : List ℕ) → PieceReady T n piece codes numbers ends depths from to entry
      → Started file places area n piece e → is_set alive ≡ all_set → Counting 0 e entry alive
  counting-start e alive R S a = record { piece_ready = R; running = running-start T n piece entry e alive R.ready S a }

  module _ (done : ℕ) (e : BacktrackEncoder) (work alive : List ℕ) (C : Counting done e work alive) where
    pub counting-step : (r : BacktrackEncoder) (work' alive' : List ℕ)
        → Stepped T n piece e work alive r work' alive' → Counting (done + 1) r work' alive'
    counting-step r work' alive' K = record { piece_ready = C.piece_ready; running = running-step T n piece entry done e work alive C.running r work' alive' K }

    few : e.count ≤ e.pos
    few = count_pos file places n C.piece_ready.ready.tables.places_ready piece e work C.running.ready

    -- the encoder's place in the text is no further than `to`
    inside : from + e.pos ≤ to
    inside = omega (arith, C.running.ready.inside, C.piece_ready.size)

    room : e.count ≤ length work
    room = omega (arith, few, C.running.ready.inside, C.running.text_ready.room)

    pub meets-ready : MeetsReady e work codes numbers ends from to
    meets-ready = record {
      codes_fit = room;
      few = few;
      inside = inside;
      codes_room = C.piece_ready.codes_room;
      numbers_room = C.piece_ready.numbers_room;
      ends_room = C.piece_ready.ends_room;
    }

    pub sum_fits : (d : ℕ) → d ≡ get_or depths to 0 - get_or depths (from + e.pos) 0 → e.count + d ≤ 8193
    sum_fits d s = omega (arith, few, inside, C.piece_ready.short, C.piece_ready.shallow)

    -- the prepared tables take over
    pub counting-met : Bytes piece → Meets e work codes numbers ends from to → (d : ℕ) → d ≡ get_or depths to 0 - get_or depths (from + e.pos) 0
        → PieceCounts T n piece codes numbers ends depths from to entry (e.count + d) work
    counting-met b M d s = record {
      few = omega (arith, few, C.running.ready.inside);
      work_length = C.running.kept;
      work_beyond = C.running.beyond;
      built = λ B text fits is P.
          let D = dictionary_of file in
          ap (λ (k : ℕ). e.count + k) s
          ∙ met-count file n piece work e C.running.ready room
          (run D piece done (start D piece))
          (on_the_way T n piece B b done)
          (C.running.shows B).stack
          text codes numbers ends depths from to (lawful-is T n B) P few C.piece_ready.size fits is M;
    }

    -- the piece is encoded to its end
    pub counting-end : Bytes piece → (2 * length piece ≤ done) ⊎ (e.next ≡ none) → PieceCounts T n piece codes numbers ends depths from to entry e.count work
    unfolding interval_count
    counting-end b o =
        let K = running-end T n piece entry done e work alive C.running b o in
        record {
          few = omega (arith, K.few);
          work_length = K.work_length;
          work_beyond = K.work_beyond;
          built = λ B text fits is P.
              codes-count T n piece entry e.count work C.piece_ready.ready K B
              ∙ ap (λ (l : List ℕ). length (encode (dictionary_of file) l)) is;
        }
