-- The cases of the refusals of preparation, and what holds where there is none. Assumes nothing.
use mathlib.Core.Path.{◌≡◌, refl, sym, subst, ◌∙◌}
use mathlib.Core.Option.{none, some}
use mathlib.Core.Logic.{⊎_elim}
use mathlib.Core.List.{List}
use mathlib.Core.Bool.{true, false}
use Prim.Native.Nat.{ℕ, ◌+◌, ◌≤◌, ◌<◌}
use native.Mathlib.Omega.{arith}
use lib.ListN.{length}
use lib.Dec.{leb}
use borrow.Author.Tests.{lt-ltb, le-ltb, le-leb, lt-leb, ltb-false}
use Rattle.causes.specs.declared.Cause.{Cause}
use Rattle.causes.specs.declared.Cause.TheVariants.{TooShort, OutOfForm, TooLong}
use Rattle.std.specs.Prelude.{Option, None, Ok, Err}
use Rattle.causes.specs.Order.{shorter}
use Rattle.causes.specs.Call.{to_number}
use Rattle.causes.proofs.Calls.{call-refused, call-given}
use Rattle.causes.proofs.None.{neither}
use Rattle.phrase_file.specs.Form.{rows}
use Rattle.phrase_file.proofs.Checks.{accepted}
use Rattle.tables.specs.Tables.{Tables, without_prefixes, given, pair_given}
use Rattle.tables.specs.declared.row_tables.RowTables.{RowTables}
use Rattle.tables.specs.Formed.{Formed}
use Rattle.tables.specs.InForm.{form_of}
use Rattle.tables.proofs.Readiness.{ready}
use Rattle.theory.proofs.Lists.{lt_or_ge}
use Rattle.interval_prepare.specs.Answers.{short_tree, too_short, prepare_refusal, CoreReady, CorePrepares, Prepares}

-- a tree table is too short if it has no more numbers than the text has bytes
pub short_tree_lem : (table text : List ℕ) → leb (length table) (length text) ≡ short_tree table text
short_tree_lem table text = ⊎_elim
    (λ h. rw (lt-leb (length table) (length text) h, le-ltb (length table) (length text + 1) (omega arith)))
    (λ h. rw (le-leb (length table) (length text) h, lt-ltb (length table) (length text + 1) (omega arith)))
    (lt_or_ge (length text) (length table))

module _ (text last_codes numbers ends depths work : List ℕ) where
  pub short-codes : length last_codes < length text → true ≡ too_short text last_codes numbers ends depths work
  unfolding too_short
  short-codes h = rw (lt-ltb (length last_codes) (length text) h)

  module _ (a : length text ≤ length last_codes) where
    pub short_work : length work < length text → true ≡ too_short text last_codes numbers ends depths work
    unfolding too_short
    short_work h = rw (le-ltb (length last_codes) (length text) a, lt-ltb (length work) (length text) h)

    module _ (b : length text ≤ length work) where
      pub short-numbers : length numbers ≤ length text → true ≡ too_short text last_codes numbers ends depths work
      unfolding too_short
      short-numbers h = rw (le-ltb (length last_codes) (length text) a, le-ltb (length work) (length text) b, lt-ltb (length numbers) (length text + 1) (omega arith))

      module _ (c : length text < length numbers) where
        pub short-ends : length ends ≤ length text → true ≡ too_short text last_codes numbers ends depths work
        unfolding too_short
        short-ends h = rw (
          le-ltb (length last_codes) (length text) a,
          le-ltb (length work) (length text) b,
          le-ltb (length numbers) (length text + 1) (omega arith),
          lt-ltb (length ends) (length text + 1) (omega arith),
        )

        pub short_depths : length text < length ends → leb (length depths) (length text) ≡ too_short text last_codes numbers ends depths work
        unfolding too_short
        short_depths d = rw (
          le-ltb (length last_codes) (length text) a,
          le-ltb (length work) (length text) b,
          le-ltb (length numbers) (length text + 1) (omega arith),
          le-ltb (length ends) (length text + 1) (omega arith),
        ) (short_tree_lem depths text)

-- the buffers are long enough
pub record Roomy (text last_codes numbers ends depths work : List ℕ) : Type 0 where
  pub codes_room : length text ≤ length last_codes
  pub work_room : length text ≤ length work
  pub numbers_room : length text < length numbers
  pub ends_room : length text < length ends
  pub depths_room : length text < length depths

pub long-enough : (text last_codes numbers ends depths work : List ℕ) → too_short text last_codes numbers ends depths work ≡ false → Roomy text last_codes numbers ends depths work
unfolding too_short
long-enough text last_codes numbers ends depths work e =
    let a = neither (shorter last_codes text) _ e in
    let b = neither (shorter work text) _ a.1 in
    let c = neither (short_tree numbers text) _ b.1 in
    let d = neither (short_tree ends text) (short_tree depths text) c.1 in
    record {
      codes_room = ltb-false _ _ a.0;
      work_room = ltb-false _ _ b.0;
      numbers_room = omega (arith, ltb-false (length numbers) (length text + 1) c.0);
      ends_room = omega (arith, ltb-false (length ends) (length text + 1) d.0);
      depths_room = omega (arith, ltb-false (length depths) (length text + 1) d.1);
    }

module _ (T : Tables) (text last_codes numbers ends depths work : List ℕ) where
  open T use {file, prefixes}

  abbrev form : Option ℕ
  form = form_of T

  refused : (cause : Cause) → prepare_refusal T text last_codes numbers ends depths work ≡ some cause
      → Prepares T text last_codes numbers ends depths work last_codes numbers ends depths work (Err cause)
  refused cause e =
      call-refused to_number e 0
      (record { last_codes_are = refl; numbers_same = refl; ends_same = refl; depths_same = refl; work_same = refl })

  pub refused-long : 4096 < length text
      → Prepares T text last_codes numbers ends depths work last_codes numbers ends depths work (Err TooLong)
  unfolding prepare_refusal
  refused-long h = refused TooLong (rw (lt-ltb 4096 (length text) h))

  module _ (short : length text ≤ 4096) where
    pub refused-short : too_short text last_codes numbers ends depths work ≡ true
        → Prepares T text last_codes numbers ends depths work last_codes numbers ends depths work (Err TooShort)
    unfolding prepare_refusal
    refused-short e = refused TooShort (rw (le-ltb 4096 (length text) short, e))

    module _ (room : too_short text last_codes numbers ends depths work ≡ false) where
      pub refused_out : form ≡ None
          → Prepares T text last_codes numbers ends depths work last_codes numbers ends depths work (Err OutOfForm)
      unfolding prepare_refusal
      refused_out e = refused OutOfForm (rw (le-ltb 4096 (length text) short, room, e))

      module _ (t : RowTables) (F : Formed T t) where
        abbrev n : ℕ
        n = t.rows.n

        pub core_ready : CoreReady (pair_given t) n text last_codes numbers ends depths work
        core_ready =
            let K = ready (given t) n (rw F.same F.formed) in
            let r = long-enough text last_codes numbers ends depths work room in
            record {
              is_in_form = record { places_ready = K.places_ready; parts_ready = K.parts_ready; area_room = K.area_room };
              short = short;
              codes_room = r.codes_room;
              numbers_room = r.numbers_room;
              ends_room = r.ends_room;
              depths_room = r.depths_room;
              work_room = r.work_room;
            }

        none-refused : prepare_refusal T text last_codes numbers ends depths work ≡ none
        unfolding prepare_refusal
        none-refused = rw (le-ltb 4096 (length text) short, room, F.formed)

        pub prepared : (lastCodes' numbers' ends' depths' work' : List ℕ)
            → CorePrepares (pair_given t) n text last_codes numbers ends depths work lastCodes' numbers' ends' depths' work'
            → Prepares T text last_codes numbers ends depths work lastCodes' numbers' ends' depths' work' (Ok (length text))
        prepared lastCodes' numbers' ends' depths' work' K =
            let C = subst (λ (X : Tables). CorePrepares (without_prefixes X) n text last_codes numbers ends depths work lastCodes' numbers' ends' depths' work') F.same K in
            let rows_are : n ≡ length (rows file) = (ready T n F.formed).places_ready.count in
            call-given to_number none-refused (length text) (record {
              number_is = refl;
              filled = rw (← rows_are) C.filled;
              built = λ m B.
                  let q : m ≡ n = (accepted file m B.passed).count ∙ sym rows_are in
                  C.built prefixes (rw q at B);
            })
