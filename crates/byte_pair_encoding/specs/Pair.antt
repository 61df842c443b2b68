-- What the public pair check answers.
use Rattle.std.specs.Prelude.{◌≡◌, [], ◌∷◌, Bool, ℕ, Result}
use Rattle.std.proofs.Math.Option.{Option}
use Rattle.causes.specs.declared.Cause.{Cause}
use Rattle.causes.specs.declared.Cause.TheVariants.{OutOfForm}
use Rattle.causes.specs.Order.{other_order, when, unknown, first_of}
use Rattle.causes.specs.Call.{Call, to_passes, no_buffer}
use Rattle.theory.specs.PairCheck.{passes}
use Rattle.tables.specs.Tables.{Tables}
use Rattle.tables.specs.InForm.{count, is_out, form_of}
use Rattle.built_tables.specs.Built.{dictionary_of, Built}

-- 8; 10 with index 0 for the left code and 1 for the right
unfoldable pub pair_refusal : Tables → ℕ → ℕ → Option Cause
pair_refusal T token1 token2 =
    first_of other_order (when (is_out (form_of T)) OutOfForm ∷ unknown (count T.file) (token1 ∷ token2 ∷ []) ∷ [])

-- over tables that build left the answer is the definition's, over all rows; elsewhere it is free
abbrev pub PairIs : Tables → ℕ → ℕ → Bool → Type 0
PairIs T token1 token2 b = (n : ℕ) → Built T n → b ≡ passes (dictionary_of T.file) n token1 token2

-- `is_valid_token_pair`
abbrev pub PairChecked : (T : Tables) (token1 token2 : ℕ) → Result Bool Cause → Type 0
PairChecked T token1 token2 r = Call to_passes (pair_refusal T token1 token2) no_buffer (PairIs T token1 token2) r
