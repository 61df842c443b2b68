-- What holds where a typing call is not refused. Assumes nothing.
use mathlib.Core.Path.{◌≡◌, refl}
use mathlib.Core.Option.{none}
use mathlib.Core.List.{List, [], ◌∷◌}
use mathlib.Core.Bool.{Bool, false, not, ◌||◌}
use Prim.Native.Nat.{ℕ, ◌≤◌, ◌+◌}
use lib.ListN.{length}
use lib.Dec.{ltb}
use borrow.Author.Tests.{ltb-false}
use Rattle.causes.specs.declared.Cause.TheVariants.{OutOfForm}
use Rattle.std.specs.Prelude.{Option}
use Rattle.causes.specs.Order.{other_order, when}
use Rattle.causes.proofs.None.{AllFail, none-applies, neither}
use Rattle.tables.specs.Tables.{Tables}
use Rattle.tables.specs.InForm.{is_out, form_of}
use Rattle.typing_columns.specs.Refusals.{head_out, any_out, extend_conditions, extend_refusal, token_count_refusal}

-- the head's length is within the slice and 4,096
pub head-fits : (len size : ℕ) → head_out len size ≡ false → (len ≤ size) × (len ≤ 4096)
head-fits len size e = let both = neither (ltb size len) (ltb 4096 len) e in (ltb-false size len both.0, ltb-false 4096 len both.1)

any_in : (form : Option ℕ) (len size : ℕ) (fine : Bool) → any_out form len size fine ≡ false → head_out len size ≡ false
any_in form len size fine e = (neither (head_out len size) (not fine) (neither (is_out form) (head_out len size || not fine) e).1).0

pub counted_in : (T : Tables) (len size : ℕ) (fine : Bool) → token_count_refusal T len size fine ≡ none → head_out len size ≡ false
unfolding token_count_refusal
counted_in T len size fine e =
    any_in (form_of T) len size fine ((none-applies other_order (when (any_out (form_of T) len size fine) OutOfForm ∷ []) e).0 refl)

-- the head is in form, and the new length is within the slice and 4,096
pub record Extends (len size : ℕ) (typed : List ℕ) : Type 0 where
  pub head_in : head_out len size ≡ false
  pub slice_fits : len + length typed ≤ size
  pub most_fits : len + length typed ≤ 4096

module _ (T : Tables) (len size : ℕ) (fine : Bool) (typed : List ℕ) (e : extend_refusal T len size fine typed ≡ none) where
  all_fail : AllFail other_order (extend_conditions T len size fine typed)
  unfolding extend_refusal
  all_fail = none-applies other_order (extend_conditions T len size fine typed) e

  -- the tables are in form
  pub tables_in : is_out (form_of T) ≡ false
  tables_in = (neither (is_out (form_of T)) (head_out len size || not fine) (all_fail.1.0 refl)).0

  pub extends : Extends len size typed
  extends =
      let fits = neither (ltb size (len + length typed)) (ltb 4096 (len + length typed)) (all_fail.1.1.0 refl) in
      record {
        head_in = any_in (form_of T) len size fine (all_fail.1.0 refl);
        slice_fits = ltb-false size (len + length typed) fits.0;
        most_fits = ltb-false 4096 (len + length typed) fits.1;
      }
