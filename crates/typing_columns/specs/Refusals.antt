-- Why a typing call is refused.
use Rattle.std.proofs.Math.Option as Refusal
use Rattle.std.specs.Prelude.{Option, List, [], ◌∷◌, Bool, not, ◌||◌, ℕ, ◌+◌, length, ltb}
use Rattle.causes.specs.declared.Cause.{Cause}
use Rattle.causes.specs.declared.Cause.TheVariants.{OutOfForm, TooLong, Full}
use Rattle.causes.specs.Order.{other_order, Condition, when, over, first_of}
use Rattle.tables.specs.Tables.{Tables}
use Rattle.tables.specs.InForm.{is_out, form_of}

-- the head is out of form: its length exceeds the slice, which has `size` records, or 4,096
abbrev pub head_out : ℕ → ℕ → Bool
head_out len size = ltb size len || ltb 4096 len

-- tables, head or records out of form; `fine`: the records below the length are in form
abbrev pub any_out : Option ℕ → ℕ → ℕ → Bool → Bool
any_out form len size fine = is_out form || (head_out len size || not fine)

-- beyond the slice or 4,096
abbrev pub full : ℕ → ℕ → List ℕ → Bool
full len size typed = ltb size (len + length typed) || ltb 4096 (len + length typed)

-- push and extend: 9 (more than 4,096 bytes), 8, 12 with the current length
abbrev pub extend_conditions : (T : Tables) (len size : ℕ) (fine : Bool) (typed : List ℕ) → List Condition
extend_conditions T len size fine typed =
    when (over typed) TooLong
    ∷ when (any_out (form_of T) len size fine) OutOfForm
    ∷ when (full len size typed) (Full len)
    ∷ []

unfoldable pub extend_refusal : (T : Tables) (len size : ℕ) (fine : Bool) (typed : List ℕ) → Refusal.Option Cause
extend_refusal T len size fine typed = first_of other_order (extend_conditions T len size fine typed)

-- `token_count`: 8
unfoldable pub token_count_refusal : (T : Tables) (len size : ℕ) (fine : Bool) → Refusal.Option Cause
token_count_refusal T len size fine = first_of other_order (when (any_out (form_of T) len size fine) OutOfForm ∷ [])

-- truncate looks at the head alone: 8
unfoldable pub truncate_refusal : (len size : ℕ) → Refusal.Option Cause
truncate_refusal len size = first_of other_order (when (head_out len size) OutOfForm ∷ [])
