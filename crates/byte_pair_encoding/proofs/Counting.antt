-- The cases of the contracts of `count` and `count_till_limit`. Assumes nothing.
use mathlib.Core.Path.{◌≡◌, refl, subst, ◌∙◌}
use mathlib.Core.Option.{none, some}
use mathlib.Core.List.{List}
use Prim.Native.Nat.{ℕ}
use Rattle.std.specs.Prelude.{IsErrAnd, Result, Option, None, Ok, Err}
use Rattle.causes.specs.declared.Cause.{Cause}
use Rattle.causes.specs.Causes.{limit_place}
use Rattle.causes.specs.Call.{to_number}
use Rattle.causes.proofs.Calls.{call-refused, call-given}
use Rattle.tables.specs.declared.row_tables.RowTables.{RowTables}
use Rattle.tables.specs.Tables.{Tables, given}
use Rattle.backtrack_encoder.specs.Encoder.{TextReady}
use Rattle.backtrack_encoder.specs.Answers.{CountIs}
use Rattle.limited_count.specs.Answers.{LimitedIs}
use Rattle.byte_pair_encoding.specs.Refusals.{send_refusal, count_refusal}
use Rattle.byte_pair_encoding.specs.Checked.{Allowed}
use Rattle.byte_pair_encoding.specs.Counting.{Counts, CountsTillLimit}
use Rattle.byte_pair_encoding.proofs.Refusals.{count_as_send}
use Rattle.byte_pair_encoding.proofs.Checking.{Passed, passed}
use Rattle.byte_pair_encoding.proofs.Sending.{built-count}

module _ (T : Tables) (text work : List ℕ) where
  module _ (cause : Cause) (e : send_refusal T text work work ≡ some cause) where
    told : count_refusal T text work ≡ some cause
    told = count_as_send T text work ∙ e

    -- a refusal that `?` hands on

    pub nothing-counted : (r : Result ℕ Cause) → IsErrAnd r (λ given. given ≡ cause) → Counts T text work work r
    nothing-counted (Ok count) h = absurd h
    nothing-counted (Err given) h = rw h (call-refused to_number told 0 refl)

    pub nothing_limited : (limit : ℕ) (r : Result (Option ℕ) Cause) → IsErrAnd r (λ given. given ≡ cause)
        → CountsTillLimit T text limit work work r
    nothing_limited limit (Ok count) h = absurd h
    nothing_limited limit (Err given) h = rw h (call-refused limit_place told None refl)

  module _ (r : RowTables) (a : Allowed T text work work r) where
    p : Passed (given r) text work work r.rows.n
    p = passed T text work work r a

    not_refused : count_refusal (given r) text work ≡ none
    not_refused = count_as_send (given r) text work ∙ p.not_refused

    pub count-ready : TextReady (given r) r.rows.n text work
    count-ready = record { tables = p.tables; short = p.short; room = p.work_room }

    pub text-counted : (work' : List ℕ) (count : ℕ) → CountIs (given r) r.rows.n text work count work'
        → Counts T text work work' (Ok count)
    text-counted work' count s = subst (λ (t : Tables). Counts t text work work' (Ok count)) a.formed.same
        (call-given to_number not_refused count (record {
          few = s.few;
          worked = record { work_length = s.work_length; work_beyond = s.work_beyond };
          built = λ m B. s.built (built-count (given r) m r.rows.n p.count B);
        }))

    pub text_limited : (limit : ℕ) (work' : List ℕ) (count : Option ℕ)
        → LimitedIs (given r) r.rows.n text limit work count work' → CountsTillLimit T text limit work work' (Ok count)
    text_limited limit work' count s = subst (λ (t : Tables). CountsTillLimit t text limit work work' (Ok count)) a.formed.same
        (call-given limit_place not_refused count (record {
          few = s.few;
          worked = record { work_length = s.work_length; work_beyond = s.work_beyond };
          built = λ m B. s.built (built-count (given r) m r.rows.n p.count B);
        }))
