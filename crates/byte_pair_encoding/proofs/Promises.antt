-- What a caller has of the contracts: over tables that an accepting build left, with a text of at most 4,096 bytes and room for it, no call is
-- refused and the answer is the definition's; a refusal changes nothing. Assumes nothing.
use mathlib.Core.Path.{◌≡◌, refl, sym, ap, ◌∙◌}
use mathlib.Core.Logic.{◌↔◌}
use mathlib.Core.Option.{none, some}
use mathlib.Core.List.{List, ◌++◌}
use Prim.Native.Nat.{ℕ, ◌≤◌, ◌<◌}
use lib.ListN.{length, drop}
use Rattle.std.specs.Prelude.{Option, Some, None, Result, Ok, Err}
use Rattle.causes.specs.declared.Cause.{Cause}
use Rattle.causes.specs.declared.Cause.TheVariants.{TooShort, OutOfForm, TooLong}
use Rattle.causes.specs.Causes.{limit_place}
use Rattle.causes.specs.Call.{to_number}
use Rattle.causes.proofs.Calls.{refused-answer, given-answer, value-given}
use Rattle.phrase_file.specs.Form.{rows}
use Rattle.theory.specs.Dictionary.{Dictionary}
use Rattle.theory.specs.Merge.{encode}
use Rattle.theory.specs.CountLimit.{Limited, counted, over, count_till_limit}
use Rattle.theory.proofs.Demands.{limited_count_is, limited_count_over}
use Rattle.tables.specs.Tables.{Tables}
use Rattle.tables.specs.InForm.{form_of}
use Rattle.built_tables.specs.Built.{dictionary_of, Built}
use Rattle.built_tables.proofs.InForm.{is_in_form}
use Rattle.byte_pair_encoding.specs.Refusals.{send_refusal, count_refusal}
use Rattle.limited_count.specs.Answers.{limited_of}
use Rattle.byte_pair_encoding.specs.Sending.{Sends}
use Rattle.byte_pair_encoding.specs.Counting.{Counts, CountsTillLimit}
use Rattle.byte_pair_encoding.proofs.Refusals.{count_as_send, too_long, short-output, short_work, out_of_form, not_refused}

module _ (T : Tables) (text : List ℕ) (n : ℕ) (B : Built T n) (short : length text ≤ 4096) where
  -- tables that build left are in form, so that nothing is left to refuse
  pub sending_allowed : (out work : List ℕ) → length text ≤ length out → length text ≤ length work
      → send_refusal T text out work ≡ none
  sending_allowed out work o w = not_refused T text out work short o w n (is_in_form T n B)

  pub counting_allowed : (work : List ℕ) → length text ≤ length work → count_refusal T text work ≡ none
  counting_allowed work w = count_as_send T text work ∙ sending_allowed work work w w

-- encoders

-- the codes w are answered by their number and stand at the front of the output, the rest of it as before
pub record SentCodes (w out out' : List ℕ) (r : Result ℕ Cause) : Type 0 where
  pub answer : r ≡ Ok (length w)
  pub codes : out' ≡ w ++ drop (length w) out

-- a refusal: the buffers are unchanged
pub record SendRefused (cause : Cause) (out work out' work' : List ℕ) (r : Result ℕ Cause) : Type 0 where
  pub answer : r ≡ Err cause
  pub out_kept : out' ≡ out
  pub work_kept : work' ≡ work

module _ (M : Dictionary → List ℕ → List ℕ) (T : Tables) (text out work out' work' : List ℕ) (r : Result ℕ Cause)
    (s : Sends M T text out work out' work' r) where
  open T use {file}

  pub sends_refused : (cause : Cause) → send_refusal T text out work ≡ some cause
      → SendRefused cause out work out' work' r
  sends_refused cause e =
      let k = s.refused cause e in
      record { answer = refused-answer to_number s e; out_kept = k.0; work_kept = k.1 }

  -- the causes in their order, each whatever the later ones say: 9, 7, 8
  pub sends_too_long : 4096 < length text → SendRefused TooLong out work out' work' r
  sends_too_long h = sends_refused TooLong (too_long T text out work h)

  pub sends_short_output : length text ≤ 4096 → length out < length text → SendRefused TooShort out work out' work' r
  sends_short_output s h = sends_refused TooShort (short-output T text out work s h)

  pub sends_short_work : length text ≤ 4096 → length text ≤ length out → length work < length text → SendRefused TooShort out work out' work' r
  sends_short_work s o h = sends_refused TooShort (short_work T text out work s o h)

  pub sends_out_of_form : length text ≤ 4096 → length text ≤ length out → length text ≤ length work
      → form_of T ≡ None → SendRefused OutOfForm out work out' work' r
  sends_out_of_form s o w e = sends_refused OutOfForm (out_of_form T text out work s o w e)

  pub sends_codes : (n : ℕ) → Built T n → length text ≤ 4096 → length text ≤ length out → length text ≤ length work
      → SentCodes (M (dictionary_of file) text) out out' r
  sends_codes n B short o w =
      let e = sending_allowed T text n B short out work o w in
      let b = (s.given e).built n B in
      record {
        answer = given-answer to_number s e ∙ ap Ok b.count_is;
        codes = b.codes_are ∙ ap (λ (k : ℕ). M (dictionary_of file) text ++ drop k out) b.count_is;
      }

-- `count`
module _ (T : Tables) (text work work' : List ℕ) (r : Result ℕ Cause)
    (s : Counts T text work work' r) where
  open T use {file}

  pub counts-refused : (cause : Cause) → count_refusal T text work ≡ some cause → (r ≡ Err cause) × (work' ≡ work)
  counts-refused cause e = (refused-answer to_number s e, s.refused cause e)

  pub counts-codes : (n : ℕ) → Built T n → length text ≤ 4096 → length text ≤ length work
      → r ≡ Ok (length (encode (dictionary_of file) text))
  counts-codes n B short w =
      let e = counting_allowed T text n B short work w in
      given-answer to_number s e ∙ ap Ok ((s.given e).built n B)

-- `count_till_limit`

-- the definition's answer as the call gives it
abbrev pub limit_given : Limited → Option ℕ
limit_given (counted count) = Some count
limit_given over = None

given_back : (count : Option ℕ) → limit_given (limited_of count) ≡ count
given_back (Some count) = refl
given_back None = refl

module _ (T : Tables) (text : List ℕ) (limit : ℕ) (work work' : List ℕ) (r : Result (Option ℕ) Cause)
    (s : CountsTillLimit T text limit work work' r) where
  open T use {file}

  pub limits-refused : (cause : Cause) → count_refusal T text work ≡ some cause → (r ≡ Err cause) × (work' ≡ work)
  limits-refused cause e = (refused-answer limit_place s e, s.refused cause e)

  module _ (n : ℕ) (B : Built T n) (short : length text ≤ 4096) (room : length text ≤ length work) where
    value-is : limited_of s.value ≡ count_till_limit (dictionary_of file) text limit
    value-is = (s.given (counting_allowed T text n B short work room)).built n B

    -- the answer is the definition's
    pub limits-count : r ≡ Ok (limit_given (count_till_limit (dictionary_of file) text limit))
    limits-count =
        given-answer limit_place s (counting_allowed T text n B short work room)
        ∙ ap Ok (sym (given_back s.value) ∙ ap limit_given value-is)

    said : (count : Option ℕ) → r ≡ Ok count → limited_of count ≡ count_till_limit (dictionary_of file) text limit
    said count e = ap limited_of (sym (value-given s count e).1) ∙ value-is

    -- a count that is given is the number of the merge procedure's codes, and does not exceed the limit
    pub limits-counted : (k : ℕ) → r ≡ Ok (Some k) → (k ≡ length (encode (dictionary_of file) text)) × (k ≤ limit)
    unfolding dictionary_of
    limits-counted k e = limited_count_is (rows file) B.accepted text limit k (sym (said (Some k) e))

    -- it is "over" exactly if that number exceeds the limit
    pub limits-over : (r ≡ Ok None) ↔ (limit < length (encode (dictionary_of file) text))
    unfolding dictionary_of
    limits-over =
        let q = limited_count_over (rows file) B.accepted text limit in
        (λ e. q.0 (sym (said None e)), λ h. limits-count ∙ ap (λ (l : Limited). Ok (limit_given l)) (q.1 h))
