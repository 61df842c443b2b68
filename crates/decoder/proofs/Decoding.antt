-- The cases of decoding, and what holds where there is no refusal. Assumes nothing.
use mathlib.Core.Path.{◌≡◌, refl, sym, ap, ◌∙◌}
use mathlib.Core.Option.{none, some}
use mathlib.Core.List.{List, [], ◌∷◌, ◌++◌, append-nil}
use Prim.Native.Nat.{ℕ, ◌≤◌, ◌<◌}
use native.Mathlib.Omega.{arith}
use lib.ListN.{length, get_or, drop}
use borrow.Author.Tests.{lt-ltb, le-ltb}
use Rattle.causes.specs.declared.Cause.{Cause}
use Rattle.causes.specs.declared.Cause.TheVariants.{TooShort, OutOfForm, TooLong, UnknownCode}
use Rattle.std.specs.Prelude.{None, Some, Ok, Err, nat_le, position}
use Rattle.causes.specs.Order.{first_unknown}
use Rattle.causes.specs.Call.{to_number}
use Rattle.causes.proofs.Calls.{call-refused, call-given}
use Rattle.phrase_file.specs.Form.{rows}
use Rattle.theory.specs.Dictionary.{spell}
use Rattle.tables.specs.Tables.{Tables}
use Rattle.tables.specs.declared.row_tables.RowTables.{RowTables}
use Rattle.tables.specs.InForm.{form_of}
use Rattle.tables.specs.Formed.{Formed}
use Rattle.tables.proofs.Readiness.{ready}
use Rattle.built_tables.specs.Built.{dictionary_of}
use Rattle.decoder.specs.Decoding.{decode_refusal, Decodes}
use Rattle.decoder.specs.Steps.{CodesReady}
use Rattle.decoder.proofs.Codes.{all_known, known-all, unknown_at, unknown_nowhere}
use Rattle.decoder.proofs.Spelling.{row-bytes}

module _ (T : Tables) (tokens out : List ℕ) where
  abbrev spelled : List ℕ
  spelled = spell (dictionary_of T.file) tokens

  -- 9
  pub too_many : 4096 < length tokens → decode_refusal T tokens out ≡ some TooLong
  unfolding decode_refusal
  too_many h = rw (lt-ltb 4096 (length tokens) h)

  module _ (few : length tokens ≤ 4096) where
    -- 8
    pub out_of_form : form_of T ≡ None → decode_refusal T tokens out ≡ some OutOfForm
    unfolding decode_refusal
    out_of_form e = rw (le-ltb 4096 (length tokens) few, e)

    module _ (n : ℕ) (e : form_of T ≡ Some n) where
      counted : n ≡ length (rows T.file)
      counted = (ready T n e).places_ready.count

      -- 10
      pub unknown-code : first_unknown n tokens < length tokens
          → decode_refusal T tokens out ≡ some (UnknownCode (first_unknown n tokens))
      unfolding decode_refusal
      unknown-code h =
          rw (le-ltb 4096 (length tokens) few, e, ← counted, lt-ltb (first_unknown n tokens) (length tokens) h)

      module _ (known : length tokens ≤ first_unknown n tokens) where
        -- 7
        pub short-output : length out < length spelled → decode_refusal T tokens out ≡ some TooShort
        unfolding decode_refusal
        short-output h =
            rw (
              le-ltb 4096 (length tokens) few,
              e,
              ← counted,
              le-ltb (first_unknown n tokens) (length tokens) known,
              lt-ltb (length out) (length spelled) h,
            )

        pub not_refused : length spelled ≤ length out → decode_refusal T tokens out ≡ none
        unfolding decode_refusal
        not_refused h =
            rw (
              le-ltb 4096 (length tokens) few,
              e,
              ← counted,
              le-ltb (first_unknown n tokens) (length tokens) known,
              le-ltb (length out) (length spelled) h,
            )

-- one code spells its row, as it stands in the file
pub token_row : (T : Tables) (n token : ℕ) → form_of T ≡ Some n → token < n
    → spell (dictionary_of T.file) (token ∷ []) ≡ get_or (rows T.file) token []
token_row T n token e h =
    let P = (ready T n e).places_ready in
    append-nil ((dictionary_of T.file).bytes token) ∙ sym (row-bytes T.file T.places n P token h) ∙ P.rows_are token h

module _ (T : Tables) (tokens out : List ℕ) where
  -- what a caller has to see to
  pub decode_of : (n : ℕ) → form_of T ≡ Some n → ((i : ℕ) → i < length tokens → get_or tokens i 0 < n) → length tokens ≤ 4096
      → length (spelled T tokens out) ≤ length out → decode_refusal T tokens out ≡ none
  decode_of n e k f r = not_refused T tokens out f n e (omega (arith, known-all n tokens k)) r

  -- a refusal leaves the output
  pub decodes_refused : (cause : Cause) → decode_refusal T tokens out ≡ some cause → Decodes T tokens out out (Err cause)
  decodes_refused cause e = call-refused to_number e 0 refl

  -- else the bytes are written to the first part of the output, and counted
  pub decodes_none : (part : List ℕ) (size : ℕ) → decode_refusal T tokens out ≡ none → size ≡ length (spelled T tokens out)
      → part ≡ spelled T tokens out → Decodes T tokens out (part ++ drop size out) (Ok size)
  decodes_none part size e s o =
      call-given to_number e size (record { size_is = s; output = ap (λ (w : List ℕ). w ++ drop size out) o })

-- the cases of the call, where the tables are in form
module _ (T : Tables) (tokens out : List ℕ) (few : length tokens ≤ 4096) (r : RowTables) (f : Formed T r) where
  -- document 01's rows, as they are read
  file_is : r.rows.file.now ≡ T.file
  file_is = ap (λ (t : Tables). t.file) f.same

  places_are : r.rows.places.now ≡ T.places
  places_are = ap (λ (t : Tables). t.places) f.same

  abbrev read : List ℕ
  read = spell (dictionary_of r.rows.file.now) tokens

  read-is : read ≡ spelled T tokens out
  read-is = ap (λ (file : List ℕ). spell (dictionary_of file) tokens) file_is

  pub decodes-unknown : (i : ℕ) → Some i ≡ position (nat_le r.rows.n) tokens → Decodes T tokens out out (Err (UnknownCode i))
  decodes-unknown i e =
      let u = unknown_at r.rows.n tokens i (sym e) in
      decodes_refused T tokens out (UnknownCode i) (unknown-code T tokens out few r.rows.n f.formed u.1 ∙ ap (λ (k : ℕ). some (UnknownCode k)) (sym u.0))

  module _ (k : None ≡ position (nat_le r.rows.n) tokens) where
    known : length tokens ≤ first_unknown r.rows.n tokens
    known = unknown_nowhere r.rows.n tokens (sym k)

    pub codes_ready : CodesReady r.rows.file.now r.rows.places.now r.rows.n tokens
    codes_ready = rw (file_is, places_are) (record {
      places_ready = (ready T r.rows.n f.formed).places_ready;
      few = few;
      known = all_known r.rows.n tokens known;
    })

    module _ (size : ℕ) (s : size ≡ length read) where
      size_is : size ≡ length (spelled T tokens out)
      size_is = s ∙ ap length read-is

      pub decodes-short : length out < size → Decodes T tokens out out (Err TooShort)
      decodes-short h = decodes_refused T tokens out TooShort (short-output T tokens out few r.rows.n f.formed known (omega (arith, size_is)))

      pub decodes-given : size ≤ length out → (part : List ℕ) → part ≡ read → Decodes T tokens out (part ++ drop size out) (Ok size)
      decodes-given h part e =
          decodes_none T tokens out part size (not_refused T tokens out few r.rows.n f.formed known (omega (arith, size_is))) size_is (e ∙ read-is)
