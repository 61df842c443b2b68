-- The count after preparation: the tables that preparation leaves are in form for it, and it counts the codes of the piece. Assumes nothing.
use mathlib.Core.Path.{◌≡◌, refl, ap, ◌∙◌}
use mathlib.Core.Option.{none}
use mathlib.Core.List.{List, [], ◌∷◌}
use mathlib.Core.Bool.{true}
use Prim.Native.Nat.{ℕ, ◌≤◌}
use lib.ListN.{length}
use borrow.Author.Tests.{le-ltb, ltb-false}
use Rattle.std.specs.Prelude.{Result, Ok, Some}
use Rattle.causes.specs.declared.Cause.{Cause}
use Rattle.causes.specs.declared.Cause.TheVariants.{TooShort, OutOfForm, TooLong}
use Rattle.causes.specs.Order.{other_order, when, over}
use Rattle.causes.specs.Call.{to_number}
use Rattle.causes.proofs.Calls.{given-answer}
use Rattle.causes.proofs.None.{none-applies}
use Rattle.phrase_file.specs.Form.{rows}
use Rattle.tables.specs.Tables.{Tables}
use Rattle.tables.specs.InForm.{is_out, form_of}
use Rattle.tables.proofs.Readiness.{ready, form-rows}
use Rattle.theory.specs.Tree.{interval_count}
use Rattle.built_tables.specs.Built.{dictionary_of, Built}
use Rattle.built_tables.specs.IntervalTables.{interval_in_form}
use Rattle.interval_prepare.specs.Answers.{too_short, prepare_refusal, Prepares}
use Rattle.interval_count.specs.Answers.{interval_refusal, Counts}

-- where preparation is not refused, the text is short and the dictionary tables are in form
record NotRefused (T : Tables) (text : List ℕ) : Type 0 where
  short : length text ≤ 4096
  is_in_form : (n : ℕ) × (form_of T ≡ Some n)

not_refused : (T : Tables) (text codes numbers ends depths work : List ℕ)
    → prepare_refusal T text codes numbers ends depths work ≡ none → NotRefused T text
unfolding prepare_refusal
not_refused T text codes numbers ends depths work e =
    let f = none-applies other_order
    (when (over text) TooLong ∷ when (too_short text codes numbers ends depths work) TooShort ∷ when (is_out (form_of T)) OutOfForm ∷ [])
    e in
    record { short = ltb-false 4096 (length text) (f.0 refl); is_in_form = form-rows T (f.1.1.0 refl) }

-- where the tables and the interval tables are in form, the count of an interval of the text is not refused
none-refused : (T : Tables) (text codes numbers ends depths : List ℕ) (from to : ℕ) (work : List ℕ) → length text ≤ 4096 → length text ≤ length work
    → (n : ℕ) → form_of T ≡ Some n → interval_in_form n text codes numbers ends depths ≡ true → from ≤ to → to ≤ length text
    → interval_refusal T text codes numbers ends depths from to work ≡ none
unfolding interval_refusal
none-refused T text codes numbers ends depths from to work short room n e i order inside =
    rw (le-ltb 4096 (length text) short, le-ltb (length work) (length text) room, e, i, le-ltb to from order, le-ltb (length text) to inside)

-- after a preparation that was not refused, over the tables of one build, the count of an interval of the text is that of the merge procedure on the piece
pub count_after_preparation : (T : Tables) (n : ℕ) → Built T n
    → (text codes numbers ends depths work codes' numbers' ends' depths' work' : List ℕ) (r : Result ℕ Cause)
    → Prepares T text codes numbers ends depths work codes' numbers' ends' depths' work' r
    → prepare_refusal T text codes numbers ends depths work ≡ none
    → (from to : ℕ) → from ≤ to → to ≤ length text → (buffer buffer' : List ℕ) → length text ≤ length buffer → (a : Result ℕ Cause)
    → Counts T text codes' numbers' ends' depths' from to buffer buffer' a
    → a ≡ Ok (interval_count (dictionary_of T.file) text from to)
count_after_preparation T n B text codes numbers ends depths work codes' numbers' ends' depths' work' r P e from to order inside buffer buffer' room a C =
    let q = not_refused T text codes numbers ends depths work e in
    let m : ℕ = q.is_in_form.0 in
    let k : m ≡ length (rows T.file) = (ready T m q.is_in_form.1).places_ready.count in
    let f : interval_in_form m text codes' numbers' ends' depths' ≡ true = rw k (P.given e).filled.is_in_form in
    let g : interval_refusal T text codes' numbers' ends' depths' from to buffer ≡ none =
    none-refused T text codes' numbers' ends' depths' from to buffer q.short room m q.is_in_form.1 f order inside in
    given-answer to_number C g ∙ ap Ok ((C.given g).built n B ((P.given e).built n B))
