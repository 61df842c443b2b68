-- The sender, the counter and the typing encoder on one text: the cases of `sender_against_counters`. Assumes nothing.
use mathlib.Core.Path.{◌≡◌, refl, sym, ap, ◌∙◌}
use mathlib.Core.Option.{Option, none, some}
use mathlib.Core.List.{List}
use Prim.Native.Nat.{ℕ, zero, suc, ◌-◌, ◌≤◌, ◌<◌, min}
use native.Mathlib.Omega.{arith}
use lib.ListN.{length, get_or}
use borrow.Author.Tests.{eq-eqb, ne_eqb}
use Rattle.causes.specs.declared.Cause.{Cause}
use Rattle.theory.specs.Merge.{encode}
use Rattle.theory.specs.Typing.{append, count_at}
use Rattle.theory.proofs.Typing.{count_at-last}
use Rattle.theory.proofs.Encode.{encode-spells}
use Rattle.theory.proofs.Decoding.{codes_fit}
use Rattle.causes.proofs.Calls.{some-none, value-given, refused-given}
use Rattle.tables.specs.Tables.{Tables}
use Rattle.std.specs.Prelude.{Result, Ok, Err, Some, None, IsErrAnd}
use Rattle.built_tables.specs.Built.{dictionary_of, Built}
use Rattle.built_tables.proofs.Rows.{lawful-is}
use Rattle.byte_pair_encoding.specs.Sending.{Written, Sends}
use Rattle.byte_pair_encoding.specs.Counting.{Counts}
use Rattle.byte_pair_encoding.specs.Refusals.{send_refusal, count_refusal}
use Rattle.byte_pair_encoding.proofs.Refusals.{count_as_send, not_refused, no-refusal}
use Rattle.byte_pair_encoding.proofs.Promises.{sending_allowed}
use Rattle.typing.specs.Text.{TextTyped}
use Rattle.typing_columns.specs.Columns.{last_count}
use Rattle.agreement.specs.Agreement.{Agreement, agreement_of, TypedCount, Compared, AsMerged, Agrees}

-- the cases of the answer
all_same : (refusal : Option Cause) (sent counted last : ℕ) → refusal ≡ none → sent ≡ counted → sent ≡ last → agreement_of refusal sent counted last ≡ Ok (Some sent)
all_same refusal sent counted last e f g = rw (e, eq-eqb sent counted f, eq-eqb sent last g)

other-count : (refusal : Option Cause) (sent counted last : ℕ) → refusal ≡ none → (sent ≡ counted → ⊥) → agreement_of refusal sent counted last ≡ (Ok None)
other-count refusal sent counted last e f = rw (e, ne_eqb sent counted f)

other_last : (refusal : Option Cause) (sent counted last : ℕ) → refusal ≡ none → sent ≡ counted → (sent ≡ last → ⊥) → agreement_of refusal sent counted last ≡ (Ok None)
other_last refusal sent counted last e f g = rw (e, eq-eqb sent counted f, ne_eqb sent last g)

-- the count of the last byte, where there is one
last_is : (typed : ℕ) (counts : List ℕ) → (typed ≡ 0 → ⊥) → get_or counts (typed - 1) 0 ≡ last_count counts typed
last_is zero counts any = absurd (any refl)
last_is (suc i) counts any = ap (λ (k : ℕ). get_or counts k 0) (let e : suc i - 1 ≡ i = omega arith in e)

module _ (T : Tables) (text counts : List ℕ) where
  open T use {file}

  -- no byte was typed
  pub typed-none : (r : ℕ) (counts' : List ℕ) → TextTyped T append text counts r counts' → r ≡ 0
      → TypedCount T text counts counts' 0
  typed-none r counts' t e = record { typed = r; is = ap (λ (k : ℕ). last_count counts' k) (sym e); text_typed = t }

  -- the count after the last byte
  pub typed-last : (r : ℕ) (counts' : List ℕ) → TextTyped T append text counts r counts' → (r ≡ 0 → ⊥)
      → (k : ℕ) → k ≡ get_or counts' (r - 1) 0 → TypedCount T text counts counts' k
  typed-last r counts' t any k is = record { typed = r; is = is ∙ last_is r counts' any; text_typed = t }

  -- with room for all counts the last one is that of the whole text
  last-merged : (n : ℕ) → Built T n → length text ≤ length counts → (counts' : List ℕ) (typed : ℕ) → typed ≡ min (length text) (length counts)
      → ((i : ℕ) → i < typed → get_or counts' i 0 ≡ count_at (dictionary_of file) append text i) → last_count counts' typed ≡ length (encode (dictionary_of file) text)
  last-merged n B room counts' zero all are =
      let spelled = ap length (encode-spells (dictionary_of file) (lawful-is T n B) text) in
      let fit = codes_fit (dictionary_of file) (lawful-is T n B) (encode (dictionary_of file) text) in
      omega (arith, all, room, spelled, fit)
  last-merged n B room counts' (suc i) all are = are i (omega arith) ∙ count_at-last (dictionary_of file) append text i (omega (arith, all, room))

  module _ (out work : List ℕ) where
    abbrev refusal : Option Cause
    refusal = send_refusal T text out work

    -- the promise where nothing was refused, from what holds then
    compared_agrees : (out' work' counts' : List ℕ) (r : Agreement) (sent counted typed : ℕ) → refusal ≡ none
        → r ≡ agreement_of refusal sent counted (last_count counts' typed)
        → Compared file text out work counts out' work' counts' sent counted typed
        → ((n : ℕ) → Built T n → AsMerged file text out counts out' counts' sent counted typed)
        → Agrees T text out work counts out' work' counts' r
    compared_agrees out' work' counts' r sent counted typed allowed is holds merged = record {
      sent = sent;
      counted = counted;
      typed = typed;
      answer = is;
      refused = λ cause e. some-none e allowed;
      compared = λ e. holds;
      merged = λ n B e. merged n B;
      built = λ n B room.
          let m = merged n B in
          let last = last-merged n B room.counts_room counts' typed m.typed_is m.counts_are in
          is ∙ all_same refusal sent counted (last_count counts' typed) allowed (m.sent_is ∙ sym m.counted_is) (m.sent_is ∙ sym last) ∙ ap (λ (k : ℕ). Ok (Some k)) m.sent_is;
    }

    module _ (out' work' : List ℕ) (sending : Result ℕ Cause) (s : Sends encode T text out work out' work' sending) where
      -- the sender refuses
      refused-sending : (cause : Cause) → sending ≡ Err cause → Agrees T text out work counts out' work' counts (Err cause)
      refused-sending cause e =
          let why : refusal ≡ some cause = refused-given s cause e in
          record {
            sent = 0;
            counted = 0;
            typed = 0;
            answer = sym (ap (λ (o : Option Cause). agreement_of o 0 0 0) why);
            refused = λ other f. let k = s.refused other f in (k.0, k.1, refl);
            compared = λ f. some-none why f;
            merged = λ n B f. some-none why f;
            built = λ n B room.
                some-none why (sending_allowed T text n B room.short out work room.out_room room.work_room);
          }

      -- and its refusal is handed on
      pub send_refused : (cause : Cause) → sending ≡ Err cause → (r : Agreement) → IsErrAnd r (λ (given : Cause). given ≡ cause)
          → Agrees T text out work counts out' work' counts r
      send_refused cause e (Ok number) h = absurd h
      send_refused cause e (Err given) h = rw h (refused-sending cause e)

      module _ (number : ℕ) (e : sending ≡ Ok number) where
        sent-given : (refusal ≡ none) × (s.value ≡ number)
        sent-given = value-given s number e

        module _ (work'' : List ℕ) (counting : Result ℕ Cause) (c : Counts T text work' work'' counting) where
          abbrev counter_refusal : Option Cause
          counter_refusal = count_refusal T text work'

          -- the counter asks for less than the sender, and the sender keeps the work buffer's length
          count_allowed : counter_refusal ≡ none
          count_allowed =
              let held = no-refusal T text out work sent-given.0 in
              let kept = (s.given sent-given.0).written.work_length in
              let room : length text ≤ length work' = omega (arith, held.work_room, kept) in
              count_as_send T text work' ∙ not_refused T text work' work' held.short room room held.is_in_form.0 held.is_in_form.1

          -- so that it cannot refuse
          pub count-refused : (cause : Cause) → counting ≡ Err cause → (r : Agreement) → Agrees T text out work counts out' work'' counts r
          count-refused cause f r = some-none (refused-given c cause f) count_allowed

          module _ (k : ℕ) (f : counting ≡ Ok k) where
            count_is : c.value ≡ k
            count_is = (value-given c k f).1

            both-written : Written file text out work out' work'' s.value
            both-written =
                let w = (s.given sent-given.0).written in
                let v = (c.given count_allowed).worked in
                record {
                  few = w.few;
                  out_length = w.out_length;
                  out_beyond = w.out_beyond;
                  codes = w.codes;
                  work_length = v.work_length ∙ w.work_length;
                  work_beyond = v.work_beyond ∙ w.work_beyond;
                }

            -- over tables that a build left both have the merge procedure's number
            both-merged : (n : ℕ) → Built T n → s.value ≡ c.value
            both-merged n B = ((s.given sent-given.0).built n B).count_is ∙ sym ((c.given count_allowed).built n B)

            -- sender and counter differ: nothing is typed
            pub count_differs : (number ≡ k → ⊥) → Agrees T text out work counts out' work'' counts (Ok None)
            count_differs d =
                let differ : s.value ≡ c.value → ⊥ = λ q. d (sym sent-given.1 ∙ q ∙ count_is) in
                compared_agrees out' work'' counts (Ok None) s.value c.value 0 sent-given.0
                (sym (other-count refusal s.value c.value 0 sent-given.0 differ))
                (record { written = both-written; few_counted = (c.given count_allowed).few; few_typed = omega arith; counts_length = refl; counts_beyond = refl; counts_kept = λ q. refl })
                (λ n B. absurd (differ (both-merged n B)))

            module _ (same : number ≡ k) (counts' : List ℕ) (t : ℕ) (typing : TypedCount T text counts counts' t) where
              same_numbers : s.value ≡ c.value
              same_numbers = sent-given.1 ∙ same ∙ sym count_is

              -- the text was typed
              all_typed : (r : Agreement) → r ≡ agreement_of refusal s.value c.value (last_count counts' typing.typed)
                  → Agrees T text out work counts out' work'' counts' r
              all_typed r is =
                  let held = no-refusal T text out work sent-given.0 in
                  let x = typing.text_typed in
                  compared_agrees out' work'' counts' r s.value c.value typing.typed sent-given.0 is
                  (record {
                    written = both-written;
                    few_counted = (c.given count_allowed).few;
                    few_typed = let q = x.at_most in omega (arith, q);
                    counts_length = x.size_kept;
                    counts_beyond = x.beyond_kept;
                    counts_kept = λ d. absurd (d same_numbers);
                  })
                  (λ n B.
                  let b = (s.given sent-given.0).built n B in
                  record {
                    sent_is = b.count_is;
                    counted_is = (c.given count_allowed).built n B;
                    codes = b.codes_are;
                    typed_is = let q = x.typed n B in omega (arith, q, held.short);
                    counts_are = x.counted n B;
                  })

              pub typing_differs : (number ≡ t → ⊥) → Agrees T text out work counts out' work'' counts' (Ok None)
              typing_differs d =
                  all_typed (Ok None)
                  (sym (other_last refusal s.value c.value (last_count counts' typing.typed) sent-given.0 same_numbers (λ q. d (sym sent-given.1 ∙ q ∙ sym typing.is))))

              pub all_agree : number ≡ t → Agrees T text out work counts out' work'' counts' (Ok (Some number))
              all_agree q =
                  all_typed (Ok (Some number))
                  (ap (λ (k : ℕ). Ok (Some k)) (sym sent-given.1)
                  ∙ sym (all_same refusal s.value c.value (last_count counts' typing.typed) sent-given.0 same_numbers (sent-given.1 ∙ q ∙ typing.is)))
