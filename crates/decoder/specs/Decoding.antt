-- `decode_tokens` and `token_bytes` of document 01: "the codes' bytes joined, a row's bytes".
use Rattle.std.specs.Prelude.{◌≡◌, List, [], ◌∷◌, ◌++◌, Result, ℕ, length, drop}
use Rattle.std.proofs.Math.Option.{Option}
use Rattle.causes.specs.declared.Cause.{Cause}
use Rattle.causes.specs.declared.Cause.TheVariants.{TooShort, OutOfForm, TooLong}
use Rattle.causes.specs.Order.{decode_order, when, over, shorter, unknown, first_of}
use Rattle.causes.specs.Call.{Call, to_number}
use Rattle.theory.specs.Dictionary.{spell}
use Rattle.tables.specs.Tables.{Tables}
use Rattle.tables.specs.InForm.{count, is_out, form_of}
use Rattle.built_tables.specs.Built.{dictionary_of}

-- why decoding is refused; "output needs the bytes spelled"
unfoldable pub decode_refusal : (T : Tables) (tokens out : List ℕ) → Option Cause
decode_refusal T tokens out =
    first_of decode_order
    (when (over tokens) TooLong
    ∷ when (is_out (form_of T)) OutOfForm
    ∷ unknown (count T.file) tokens
    ∷ when (shorter out (spell (dictionary_of T.file) tokens)) TooShort
    ∷ [])

-- the bytes that the codes spell stand at the front of the output, and beyond them what stood there
pub record Spelled (T : Tables) (tokens out out' : List ℕ) (size : ℕ) : Type 0 where
  pub size_is : size ≡ length (spell (dictionary_of T.file) tokens)
  pub output : out' ≡ spell (dictionary_of T.file) tokens ++ drop size out

-- a refusal leaves the output as it was; else the answer is the number of bytes that the codes spell
abbrev pub Decodes : (T : Tables) (tokens out out' : List ℕ) → Result ℕ Cause → Type 0
Decodes T tokens out out' r =
    Call to_number (decode_refusal T tokens out) (λ cause. out' ≡ out) (Spelled T tokens out out') r
