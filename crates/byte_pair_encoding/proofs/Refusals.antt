-- The cases of the refusals, and what holds where there is none. Assumes nothing.
use mathlib.Core.Path.{◌≡◌, refl}
use mathlib.Core.Option.{none, some}
use mathlib.Core.List.{List, [], ◌∷◌}
use mathlib.Core.Bool.{Bool, true, false, ◌||◌}
use Prim.Native.Nat.{ℕ, ◌≤◌, ◌<◌}
use lib.ListN.{length}
use borrow.Author.Tests.{lt-ltb, le-ltb, ltb-false}
use Rattle.std.specs.Prelude.{Some, None}
use Rattle.causes.specs.declared.Cause.TheVariants.{TooShort, OutOfForm, TooLong}
use Rattle.causes.specs.Order.{other_order, when, over, shorter, first_of}
use Rattle.causes.proofs.None.{none-applies, neither}
use Rattle.tables.specs.Tables.{Tables}
use Rattle.tables.specs.InForm.{is_out, form_of}
use Rattle.tables.proofs.Readiness.{form-rows}
use Rattle.byte_pair_encoding.specs.Refusals.{send_refusal, count_refusal}

-- with the output given as work buffer too, a call with a work buffer alone is refused alike
pub count_as_send : (T : Tables) (text work : List ℕ) → count_refusal T text work ≡ send_refusal T text work work
unfolding count_refusal send_refusal
count_as_send T text work = go (shorter work text) where
  go : (b : Bool)
      → first_of other_order (when (over text) TooLong ∷ when b TooShort ∷ when (is_out (form_of T)) OutOfForm ∷ [])
      ≡ first_of other_order (when (over text) TooLong ∷ when (b || b) TooShort ∷ when (is_out (form_of T)) OutOfForm ∷ [])
  go true = refl
  go false = refl

-- no cause applies
pub record NoRefusal (T : Tables) (text out work : List ℕ) : Type 0 where
  pub short : length text ≤ 4096
  pub out_room : length text ≤ length out
  pub work_room : length text ≤ length work
  pub is_in_form : (n : ℕ) × (form_of T ≡ Some n)

module _ (T : Tables) (text out work : List ℕ) where
  pub too_long : 4096 < length text → send_refusal T text out work ≡ some TooLong
  unfolding send_refusal
  too_long h = rw (lt-ltb 4096 (length text) h)

  module _ (s : length text ≤ 4096) where
    pub short-output : length out < length text → send_refusal T text out work ≡ some TooShort
    unfolding send_refusal
    short-output h = rw (le-ltb 4096 (length text) s, lt-ltb (length out) (length text) h)

    module _ (o : length text ≤ length out) where
      pub short_work : length work < length text → send_refusal T text out work ≡ some TooShort
      unfolding send_refusal
      short_work h =
          rw (le-ltb 4096 (length text) s, le-ltb (length out) (length text) o, lt-ltb (length work) (length text) h)

      module _ (w : length text ≤ length work) where
        pub out_of_form : form_of T ≡ None → send_refusal T text out work ≡ some OutOfForm
        unfolding send_refusal
        out_of_form e =
            rw (le-ltb 4096 (length text) s, le-ltb (length out) (length text) o, le-ltb (length work) (length text) w, e)

        pub not_refused : (n : ℕ) → form_of T ≡ Some n → send_refusal T text out work ≡ none
        unfolding send_refusal
        not_refused n e =
            rw (le-ltb 4096 (length text) s, le-ltb (length out) (length text) o, le-ltb (length work) (length text) w, e)

  -- a refusal tells nothing but its cause: where there is none, each condition fails
  pub no-refusal : send_refusal T text out work ≡ none → NoRefusal T text out work
  unfolding send_refusal
  no-refusal e =
      let f = none-applies other_order
      (when (over text) TooLong ∷ when (shorter out text || shorter work text) TooShort ∷ when (is_out (form_of T)) OutOfForm ∷ [])
      e in
      let room = neither (shorter out text) (shorter work text) (f.1.0 refl) in
      record {
        short = ltb-false 4096 (length text) (f.0 refl);
        out_room = ltb-false (length out) (length text) room.0;
        work_room = ltb-false (length work) (length text) room.1;
        is_in_form = form-rows T (f.1.1.0 refl);
      }
