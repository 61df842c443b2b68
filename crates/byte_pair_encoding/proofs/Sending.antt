-- The cases of an encoder's contract, and each encoder over tables in form as one of them. Assumes nothing.
use mathlib.Core.Path.{◌≡◌, refl, sym, subst, ◌∙◌}
use mathlib.Core.Option.{some}
use mathlib.Core.List.{List}
use Prim.Native.Nat.{ℕ, ◌<◌}
use native.Mathlib.Omega.{arith}
use lib.ListN.{length, get_or}
use Rattle.std.specs.Prelude.{IsErrAnd, Result, Ok, Err}
use Rattle.causes.specs.declared.Cause.{Cause}
use Rattle.phrase_file.specs.Form.{rows}
use Rattle.phrase_file.proofs.Checks.{accepted}
use Rattle.theory.specs.Dictionary.{Dictionary}
use Rattle.theory.specs.Merge.{encode}
use Rattle.theory.specs.Shortest.{shortest, greedy}
use Rattle.tables.specs.declared.row_tables.RowTables.{RowTables}
use Rattle.tables.specs.Tables.{Tables, given, pair_given}
use Rattle.causes.specs.Call.{to_number}
use Rattle.causes.proofs.Calls.{call-refused, call-given}
use Rattle.built_tables.specs.Built.{dictionary_of, Built}
use Rattle.backtrack_encoder.specs.Answers.{OutputReady, EncodedInto}
use Rattle.merge_encoder.specs.Encoding as Merge
use Rattle.table_encoder.specs.Walk.{TableReady, TableCodes}
use Rattle.shortest_encoder.specs.Encoders.{MinimalReady, MinimalIs, GreedyReady, GreedyIs}
use Rattle.byte_pair_encoding.specs.Refusals.{send_refusal}
use Rattle.byte_pair_encoding.specs.Checked.{Allowed}
use Rattle.byte_pair_encoding.specs.Sending.{Written, SentAll, Sends}
use Rattle.byte_pair_encoding.proofs.Checking.{Passed, passed}

module _ (T : Tables) where
  open T use {file}

  -- the count of rows is the same for everybody
  pub built-count : (m n : ℕ) → n ≡ length (rows file) → Built T m → Built T n
  built-count m n e B =
      let q : m ≡ n = (accepted file m B.passed).count ∙ sym e in subst (λ (k : ℕ). Built T k) q B

module _ (M : Dictionary → List ℕ → List ℕ) (T : Tables) (text out work : List ℕ) where
  -- a refusal that `?` hands on
  pub nothing-sent : (cause : Cause) → send_refusal T text out work ≡ some cause → (r : Result ℕ Cause)
      → IsErrAnd r (λ given. given ≡ cause) → Sends M T text out work out work r
  nothing-sent cause e (Ok count) h = absurd h
  nothing-sent cause e (Err given) h = rw h (call-refused to_number e 0 (refl, refl))

  sent : (r : RowTables) (count : ℕ) (out' work' : List ℕ) → Allowed T text out work r
      → Written r.rows.file.now text out work out' work' count
      → (Built (given r) r.rows.n → SentAll (M (dictionary_of r.rows.file.now) text) out out' count)
      → Sends M T text out work out' work' (Ok count)
  sent r count out' work' a w b =
      let p = passed T text out work r a in
      subst (λ (t : Tables). Sends M t text out work out' work' (Ok count)) a.formed.same
      (call-given to_number p.not_refused count
      (record { written = w; built = λ m B. b (built-count (given r) m r.rows.n p.count B) }))

module _ (T : Tables) (text out work : List ℕ) (r : RowTables) (a : Allowed T text out work r) where
  abbrev n : ℕ
  n = r.rows.n

  open (given r) use {file, places as placeTable, lefts, rights, prefixes, area}

  p : Passed (given r) text out work n
  p = passed T text out work r a

  codes_below : (out' : List ℕ) (count : ℕ) → ((i : ℕ) → i < count → get_or out' i 0 < n) → (i : ℕ) → i < count → get_or out' i 0 < length (rows file)
  codes_below out' count h i l = omega (arith, h i l, p.count)

  pub bitfield_ready : Merge.EncodeReady (pair_given r) n text out work
  bitfield_ready = record {
    rows_ready = record { places_ready = p.tables.places_ready; area_room = p.tables.area_room };
    parts_ready = p.tables.parts_ready;
    short = p.short;
    out_room = p.out_room;
    work_room = p.work_room;
  }

  pub bitfield_sent : (out' work' : List ℕ) (count : ℕ) → Merge.Encoded (pair_given r) n text out out' work work' count
      → Sends encode T text out work out' work' (Ok count)
  bitfield_sent out' work' count s =
      sent encode T text out work r count out' work' a
      (record {
        few = s.few;
        out_length = s.out_length;
        out_beyond = s.out_beyond;
        codes = codes_below out' count s.codes;
        work_length = s.work_length;
        work_beyond = s.work_beyond;
      })
      (λ B. let r = s.built prefixes B in record { count_is = r.count; codes_are = r.codes })

  pub backtracking_ready : OutputReady (given r) n text out work
  backtracking_ready = record { ready = record { tables = p.tables; short = p.short; room = p.work_room }; out_room = p.out_room }

  pub backtracking_sent : (out' work' : List ℕ) (count : ℕ) → EncodedInto (given r) n text out work count out' work'
      → Sends encode T text out work out' work' (Ok count)
  backtracking_sent out' work' count s =
      sent encode T text out work r count out' work' a
      (record {
        few = s.few;
        out_length = s.out_length;
        out_beyond = s.out_beyond;
        codes = codes_below out' count s.codes;
        work_length = s.work_length;
        work_beyond = s.work_beyond;
      })
      (λ B. record { count_is = s.count_is B; codes_are = rw (s.count_is B) (s.codes_are B) })

  pub table_ready : TableReady (pair_given r) n text out work
  table_ready = record {
    is_in_form = record { places_ready = p.tables.places_ready; parts_ready = p.tables.parts_ready; area_room = p.tables.area_room };
    out_room = p.out_room;
    work_room = p.work_room;
  }

  pub table_sent : (out' work' : List ℕ) (count : ℕ) → TableCodes (pair_given r) n text out work out' work' count
      → Sends encode T text out work out' work' (Ok count)
  table_sent out' work' count s =
      sent encode T text out work r count out' work' a
      (record {
        few = s.few;
        out_length = s.out_length;
        out_beyond = s.out_beyond;
        codes = codes_below out' count s.rows;
        work_length = s.work_length;
        work_beyond = s.work_beyond;
      })
      (λ B. let r = s.built prefixes B in record { count_is = r.0; codes_are = r.1 })

  pub minimal-ready : MinimalReady file placeTable area n text out work
  minimal-ready = record {
    ready = record {
      places_ready = p.tables.places_ready;
      area_room = p.tables.area_room;
      few = p.short;
      room = p.work_room;
    };
    out_room = p.out_room;
  }

  pub minimal-sent : (out' work' : List ℕ) (count : ℕ) → MinimalIs file placeTable area n text out out' work work' count
      → Sends shortest T text out work out' work' (Ok count)
  minimal-sent out' work' count s =
      sent shortest T text out work r count out' work' a
      (record {
        few = s.written.few;
        out_length = s.written.size;
        out_beyond = s.written.beyond;
        codes = codes_below out' count s.written.rows;
        work_length = s.work_size;
        work_beyond = s.work_beyond;
      })
      (λ B. let r = s.built lefts rights prefixes B in record { count_is = r.count; codes_are = r.codes })

  pub greedy-ready : GreedyReady file placeTable area n text out
  greedy-ready = record { places_ready = p.tables.places_ready; area_room = p.tables.area_room; few = p.short; out_room = p.out_room }

  pub greedy-sent : (out' : List ℕ) (count : ℕ) → GreedyIs file placeTable area n text out out' count
      → Sends greedy T text out work out' work (Ok count)
  greedy-sent out' count s =
      sent greedy T text out work r count out' work a
      (record {
        few = s.written.few;
        out_length = s.written.size;
        out_beyond = s.written.beyond;
        codes = codes_below out' count s.written.rows;
        work_length = refl;
        work_beyond = refl;
      })
      (λ B. let r = s.built lefts rights prefixes B in record { count_is = r.count; codes_are = r.codes })
