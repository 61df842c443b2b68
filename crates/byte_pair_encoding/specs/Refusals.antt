-- Why sending and counting are refused: 9, 7, 8.
use Rattle.std.proofs.Math.Option.{Option}
use Rattle.std.specs.Prelude.{List, [], ◌∷◌, ◌||◌, ℕ}
use Rattle.causes.specs.declared.Cause.{Cause}
use Rattle.causes.specs.declared.Cause.TheVariants.{TooShort, OutOfForm, TooLong}
use Rattle.causes.specs.Order.{other_order, when, over, shorter, first_of}
use Rattle.tables.specs.Tables.{Tables}
use Rattle.tables.specs.InForm.{is_out, form_of}

-- "Encoders .. need output and work buffers with one number per text byte"
unfoldable pub send_refusal : (T : Tables) (text out work : List ℕ) → Option Cause
send_refusal T text out work =
    first_of other_order
    (when (over text) TooLong
    ∷ when (shorter out text || shorter work text) TooShort
    ∷ when (is_out (form_of T)) OutOfForm
    ∷ [])

-- "`count`, `count_till_limit` .. need a work buffer of one number per byte of the whole text"
unfoldable pub count_refusal : (T : Tables) (text work : List ℕ) → Option Cause
count_refusal T text work =
    first_of other_order
    (when (over text) TooLong ∷ when (shorter work text) TooShort ∷ when (is_out (form_of T)) OutOfForm ∷ [])
