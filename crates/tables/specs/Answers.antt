-- What the calls answer that need only the file and tables in form.
use Rattle.std.specs.Prelude.{◌≡◌, [], ◌∷◌, ℕ, Result}
use Rattle.std.proofs.Math.Option.{Option}
use Rattle.causes.specs.declared.Cause.{Cause}
use Rattle.causes.specs.declared.Cause.TheVariants.{OutOfForm}
use Rattle.causes.specs.Order.{other_order, when, unknown, first_of}
use Rattle.causes.specs.Call.{Call, to_number, no_buffer}
use Rattle.tables.specs.Tables.{Tables}
use Rattle.tables.specs.InForm.{count, row_size, is_out, form_of}

-- `num_tokens`: 8, or n
unfoldable pub num_tokens_refusal : Tables → Option Cause
num_tokens_refusal T = first_of other_order (when (is_out (form_of T)) OutOfForm ∷ [])

abbrev pub NumTokens : Tables → Result ℕ Cause → Type 0
NumTokens T r = Call to_number (num_tokens_refusal T) no_buffer (λ n. n ≡ count T.file) r

-- `token_len`: 8, 10, or the number of the row's bytes
unfoldable pub token_len_refusal : Tables → ℕ → Option Cause
token_len_refusal T token =
    first_of other_order (when (is_out (form_of T)) OutOfForm ∷ unknown (count T.file) (token ∷ []) ∷ [])

abbrev pub TokenLen : Tables → ℕ → Result ℕ Cause → Type 0
TokenLen T token r = Call to_number (token_len_refusal T token) no_buffer (λ size. size ≡ row_size T.file token) r
