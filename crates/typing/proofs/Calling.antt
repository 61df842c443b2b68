-- The typing calls, from what their steps give. Assumes nothing.
use mathlib.Core.Path.{◌≡◌, refl, sym, ◌∙◌, ap, subst}
use mathlib.Core.Option.{none}
use mathlib.Core.List.{List, ◌++◌}
use Prim.Native.Nat.{ℕ, ◌+◌, ◌<◌, ◌≤◌}
use native.Mathlib.Omega.{arith}
use lib.ListN.{length, get_or, take, length-map}
use lib.Seq.{get_or-append-add, length-take-le}
use Rattle.std.specs.Prelude.{Result, Ok, Err}
use Rattle.theory.proofs.Lists.{bool_cases}
use Rattle.theory.specs.Typing.{Side, entry_at, code_at, count_at}
use Rattle.causes.specs.declared.Cause.{Cause}
use Rattle.causes.specs.Call.{to_number}
use Rattle.causes.proofs.Calls.{call_of, call-refused, call-given, answer_with, value-given, refused-given}
use Rattle.tables.specs.Tables.{Tables}
use Rattle.built_tables.specs.Built.{dictionary_of, Built}
use Rattle.typing_columns.specs.Refusals.{head_out, extend_refusal, token_count_refusal}
use Rattle.typing_columns.specs.Columns.{last_count, Added, Typed, ColumnsExtended, ExtendedColumns, CountedColumns}
use Rattle.typing.specs.declared.State.{State}
use Rattle.typing.specs.Records.{no_state, entry_of, bytes_of, counts_of}
use Rattle.typing.specs.Steps.{usable_of, Room, Copied, Places, Stored}
use Rattle.typing.specs.Calls.{Extended, TokenCounted}
use Rattle.typing.proofs.Ending.{usable_out, usable_in}
use Rattle.typing.proofs.Refusals.{head-fits, counted_in, Extends, extends}
use Rattle.typing.proofs.Agreeing.{all_copied, form-same, last-same}

usable_room : (len size : ℕ) → Room (usable_of len size) size
usable_room len size = bool_cases (head_out len size)
    (λ out. subst (λ (k : ℕ). Room k size) (sym (usable_out len size out)) record { slice_fits = omega arith; columns_fit = omega arith })
    (λ fits. subst (λ (k : ℕ). Room k size) (sym (usable_in len size fits)) record { slice_fits = (head-fits len size fits).0; columns_fit = (head-fits len size fits).1 })

pub ready : (len size k : ℕ) → k ≡ usable_of len size → Room k size
ready len size k e = rw e (usable_room len size)

module _ (T : Tables) (side : Side) (states : List State) (bytes codes counts : List ℕ) where
  open T use {file}

  pub token_counted : (len k : ℕ) (r : Result ℕ Cause) → k ≡ usable_of len (length states) → Copied states k bytes codes counts
      → CountedColumns T side len (length states) bytes codes counts r
      → TokenCounted T side len states r
  token_counted len k r usable copied counted =
      let all : Copied states (usable_of len (length states)) bytes codes counts = subst (λ (m : ℕ). Copied states m bytes codes counts) usable copied in
      record {
        fine = counted.fine;
        form = form-same states len bytes codes counts all T side counted.fine counted.form;
        call =
            let number_is : token_count_refusal T len (length states) counted.fine ≡ none → counted.call.value ≡ last_count (counts_of states) len =
            λ o. counted.call.given o ∙ last-same states len bytes codes counts all (counted_in T len (length states) counted.fine o) in
            call_of to_number (last_count (counts_of states) len) (answer_with to_number counted.call (last_count (counts_of states) len) number_is)
            (λ cause o. record {}) (λ o. refl);
      }

  module _ (len k : ℕ) (usable : k ≡ usable_of len (length states)) (some : Copied states k bytes codes counts) where
    copied : Copied states (usable_of len (length states)) bytes codes counts
    copied = subst (λ (m : ℕ). Copied states m bytes codes counts) usable some

    pub refused : (typed bytes' codes' counts' : List ℕ) (cause : Cause)
        → ExtendedColumns T side len (length states) bytes codes counts typed (Err cause) bytes' codes' counts'
        → Extended T side len states typed (Err cause) len states
    refused typed bytes' codes' counts' cause done = record {
      fine = done.fine;
      form = form-same states len bytes codes counts copied T side done.fine done.form;
      call = call-refused to_number (refused-given done.call cause refl) 0 (refl, refl);
      size_kept = refl;
      before_kept = refl;
      beyond_kept = refl;
    }

    module _ (typed bytes' codes' counts' : List ℕ) (end : ℕ)
        (done : ExtendedColumns T side len (length states) bytes codes counts typed (Ok end) bytes' codes' counts') where
      free : extend_refusal T len (length states) done.fine typed ≡ none
      free = (value-given done.call end refl).0

      all : ColumnsExtended T side len (length states) bytes codes counts typed bytes' codes' counts' done.call.value
      all = done.call.given free

      longer : end ≡ len + length typed
      longer = sym (value-given done.call end refl).1 ∙ all.number_is

      fits : Extends len (length states) typed
      fits = extends T len (length states) done.fine typed free

      -- the places that a call stores to
      pub places : Places len end (length states)
      places = record { order = omega (arith, longer); room = λ l. record { slice_fits = omega (arith, fits, longer); columns_fit = omega (arith, fits, longer) } }

      module _ (states' : List State) (stored : Stored states len end bytes' codes' counts' states') where
        -- a record added
        entry : (n : ℕ) → Built T n → (k : ℕ) → k < length typed
            → entry_of (get_or states' (len + k) no_state) ≡ entry_at (dictionary_of file) side (take len (bytes_of states) ++ typed) (len + k)
        unfolding entry_at
        entry n b k h =
            let text : take len bytes ≡ take len (bytes_of states) = (all_copied states len bytes codes counts copied fits.head_in).bytes_are in
            let is : Typed T side len (length states) bytes codes counts typed bytes' codes' counts' k = all.built n b k h in
            let long : length (take len (bytes_of states)) ≡ len =
            length-take-le len (bytes_of states) (subst (λ (m : ℕ). len ≤ m) (sym (length-map states (λ (s : State). s.byte))) (head-fits len (length states) fits.head_in).0) in
            let byte : get_or bytes' (len + k) 0 ≡ get_or (take len (bytes_of states) ++ typed) (len + k) 0 =
            (all.added k h).byte ∙ sym (get_or-append-add (take len (bytes_of states)) typed k 0) ∙ ap (λ (m : ℕ). get_or (take len (bytes_of states) ++ typed) (m + k) 0) long in
            let code : get_or codes' (len + k) 0 ≡ code_at (dictionary_of file) side (take len (bytes_of states) ++ typed) (len + k) =
            is.code ∙ ap (λ (s : List ℕ). code_at (dictionary_of file) side (s ++ typed) (len + k)) text in
            let count : get_or counts' (len + k) 0 ≡ count_at (dictionary_of file) side (take len (bytes_of states) ++ typed) (len + k) =
            is.count ∙ ap (λ (s : List ℕ). count_at (dictionary_of file) side (s ++ typed) (len + k)) text in
            ap entry_of (stored.stored (len + k) (omega arith) (omega (arith, h, longer))) ∙ (λ j. record { byte = byte j; code = code j; count = count j })

        added : (k : ℕ) → k < length typed → Added file (len + k) (get_or typed k 0) (entry_of (get_or states' (len + k) no_state))
        added k h = rw (stored.stored (len + k) (omega arith) (omega (arith, h, longer))) (all.added k h)

        pub extended : Extended T side len states typed (Ok end) end states'
        extended = record {
          fine = done.fine;
          form = form-same states len bytes codes counts copied T side done.fine done.form;
          call = call-given to_number free end (record { number_is = longer; longer = longer; added = added; built = entry });
          size_kept = stored.size_kept;
          before_kept = stored.before_kept;
          beyond_kept = stored.beyond_kept;
        }
