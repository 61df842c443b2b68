-- The count of an interval by that of its piece, and the cases of the answer. Assumes nothing.
use mathlib.Core.Path.{◌≡◌, refl, sym, ap, subst, ◌∙◌}
use mathlib.Core.Option.{none, some}
use mathlib.Core.List.{List}
use mathlib.Core.Bool.{true, false}
use Prim.Native.Nat.{ℕ, ◌+◌, ◌-◌, ◌≤◌, ◌<◌}
use native.Mathlib.Omega.{arith}
use lib.ListN.{length, length-drop, take, drop}
use lib.Seq.{length-take-le, drop-drop}
use borrow.Author.Tests.{lt-ltb, le-ltb}
use Rattle.causes.specs.declared.Cause.{Cause}
use Rattle.causes.specs.declared.Cause.TheVariants.{TooShort, OutOfForm, TooLong, BadInterval}
use Rattle.std.specs.Prelude.{Option, None, Ok, Err}
use Rattle.causes.specs.Call.{to_number}
use Rattle.causes.proofs.Calls.{call-refused, call-given}
use Rattle.phrase_file.proofs.Checks.{accepted}
use Rattle.tables.specs.Tables.{Tables, given}
use Rattle.tables.specs.declared.row_tables.RowTables.{RowTables}
use Rattle.tables.specs.Formed.{Formed}
use Rattle.tables.specs.InForm.{form_of}
use Rattle.tables.proofs.Readiness.{ready}
use Rattle.built_tables.specs.IntervalTables.{interval_in_form}
use Rattle.interval_count.specs.Steps.{PieceReady, PieceCounts}
use Rattle.interval_count.specs.Answers.{interval_refusal, CoreReady, CoreCounts, Counts}
use Rattle.interval_count.proofs.Forms.{Entries, entries}

module _ (T : Tables) (n : ℕ) (text codes numbers ends depths : List ℕ) (from to : ℕ) (work : List ℕ)
    (R : CoreReady T n text codes numbers ends depths from to work) where
  abbrev piece : List ℕ
  piece = take (to - from) (drop from text)

  size : length piece ≡ to - from
  size = length-take-le (to - from) (drop from text) (omega (arith, length-drop from text, R.ordered, R.inside))

  tables : Entries n text codes numbers ends depths
  tables = entries n text codes numbers ends depths R.is_in_form

  pub piece_ready : PieceReady T n piece codes numbers ends depths from to work
  piece_ready =
      let s = size in
      let t = R.inside in
      let u = R.ready.short in
      record {
        ready = record { tables = R.ready.tables; short = omega arith; room = omega (arith, R.ready.room) };
        size = omega (arith, R.ordered);
        short = omega arith;
        codes_room = omega (arith, tables.codes_room);
        numbers_room = omega (arith, tables.numbers_room);
        ends_room = omega (arith, tables.ends_room);
        depths_room = omega (arith, tables.depths_room);
        shallow = omega (arith, tables.depths_few to t);
      }

  pub piece-counted : (r : ℕ) (work' : List ℕ) → PieceCounts T n piece codes numbers ends depths from to work r work'
      → CoreCounts T n text codes numbers ends depths from to work r work'
  piece-counted r work' P =
      let s = size in
      let z : length piece + (length text - length piece) ≡ length text = omega (arith, R.inside) in
      record {
        counted = record {
          few = omega (arith, P.few, tables.depths_few to R.inside, R.inside);
          work_length = P.work_length;
          work_beyond =
              ap (λ (k : ℕ). drop k work') (sym z) ∙ sym (drop-drop (length text - length piece) (length piece) work')
              ∙ ap (drop (length text - length piece)) P.work_beyond
              ∙ drop-drop (length text - length piece) (length piece) work ∙ ap (λ (k : ℕ). drop k work) z;
        };
        built = λ B Q. P.built B text R.inside refl Q;
      }

module _ (T : Tables) (text codes numbers ends depths : List ℕ) (from to : ℕ) (work : List ℕ) where
  open T use {file}

  abbrev form : Option ℕ
  form = form_of T

  refused : (cause : Cause) → interval_refusal T text codes numbers ends depths from to work ≡ some cause
      → Counts T text codes numbers ends depths from to work work (Err cause)
  refused cause e = call-refused to_number e 0 refl

  pub refused-long : 4096 < length text → Counts T text codes numbers ends depths from to work work (Err TooLong)
  unfolding interval_refusal
  refused-long h = refused TooLong (rw (lt-ltb 4096 (length text) h))

  module _ (short : length text ≤ 4096) where
    pub refused-short : length work < length text → Counts T text codes numbers ends depths from to work work (Err TooShort)
    unfolding interval_refusal
    refused-short h = refused TooShort (rw (le-ltb 4096 (length text) short, lt-ltb (length work) (length text) h))

    module _ (room : length text ≤ length work) where
      pub refused_out : form ≡ None → Counts T text codes numbers ends depths from to work work (Err OutOfForm)
      unfolding interval_refusal
      refused_out e = refused OutOfForm (rw (le-ltb 4096 (length text) short, le-ltb (length work) (length text) room, e))

      module _ (t : RowTables) (F : Formed T t) where
        abbrev n : ℕ
        n = t.rows.n

        pub refused_interval : interval_in_form n text codes numbers ends depths ≡ false
            → Counts T text codes numbers ends depths from to work work (Err OutOfForm)
        unfolding interval_refusal
        refused_interval i = refused OutOfForm (rw (le-ltb 4096 (length text) short, le-ltb (length work) (length text) room, F.formed, i))

        module _ (i : interval_in_form n text codes numbers ends depths ≡ true) where
          pub refused-order : to < from → Counts T text codes numbers ends depths from to work work (Err BadInterval)
          unfolding interval_refusal
          refused-order h = refused BadInterval (rw (le-ltb 4096 (length text) short, le-ltb (length work) (length text) room, F.formed, i, lt-ltb to from h))

          module _ (order : from ≤ to) where
            pub refused_end : length text < to → Counts T text codes numbers ends depths from to work work (Err BadInterval)
            unfolding interval_refusal
            refused_end h = refused BadInterval (rw (le-ltb 4096 (length text) short, le-ltb (length work) (length text) room, F.formed, i, le-ltb to from order, lt-ltb (length text) to h))

            module _ (inside : to ≤ length text) where
              none-refused : interval_refusal T text codes numbers ends depths from to work ≡ none
              unfolding interval_refusal
              none-refused = rw (le-ltb 4096 (length text) short, le-ltb (length work) (length text) room, F.formed, i, le-ltb to from order, le-ltb (length text) to inside)

              pub core_ready : CoreReady (given t) n text codes numbers ends depths from to work
              core_ready = record {
                ready = record { tables = ready (given t) n (rw F.same F.formed); short = short; room = room };
                is_in_form = i;
                ordered = order;
                inside = inside;
              }

              pub counted : (r : ℕ) (work' : List ℕ) → CoreCounts (given t) n text codes numbers ends depths from to work r work'
                  → Counts T text codes numbers ends depths from to work work' (Ok r)
              counted r work' K =
                  let C = subst (λ (X : Tables). CoreCounts X n text codes numbers ends depths from to work r work') F.same K in
                  call-given to_number none-refused r (record {
                    counted = C.counted;
                    built = λ m B P.
                        let q : m ≡ n = (accepted file m B.passed).count ∙ sym (ready T n F.formed).places_ready.count in
                        C.built (rw q at B) P;
                  })
