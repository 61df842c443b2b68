-- The answers of the calls on columns, case by case. Assumes nothing.
use mathlib.Core.Path.{◌≡◌, refl, sym, subst, ◌∙◌}
use mathlib.Core.Option.{none, some}
use mathlib.Core.List.{List}
use mathlib.Core.Bool.{Bool, true, false}
use Prim.Native.Nat.{ℕ, zero, suc, ◌+◌, ◌-◌, ◌≤◌, ◌<◌}
use native.Mathlib.Omega.{arith}
use lib.ListN.{length, get_or}
use borrow.Author.Tests.{lt-ltb, le-ltb}
use Rattle.std.specs.Prelude.{Option, None, Some, Result, Ok, Err}
use Rattle.std.specs.Option.{ok_or}
use Rattle.causes.specs.declared.Cause.{Cause}
use Rattle.causes.specs.declared.Cause.TheVariants.{OutOfForm, TooLong, Full}
use Rattle.causes.specs.Call.{to_number}
use Rattle.causes.proofs.Calls.{call-refused, call-given, ok_err, ok_same, err_same}
use Rattle.phrase_file.proofs.Checks.{accepted}
use Rattle.theory.specs.Dictionary.{Octets}
use Rattle.theory.specs.Typing.{Side, check_at, in_form, TrueAt}
use Rattle.theory.proofs.Typing.{forms_true}
use Rattle.tables.specs.declared.row_tables.RowTables.{RowTables}
use Rattle.tables.specs.Tables.{Tables, without_prefixes, given, pair_given}
use Rattle.tables.specs.InForm.{form_of, all_below}
use Rattle.tables.specs.Formed.{Formed}
use Rattle.tables.specs.Ready.{PlacesReady, Ready}
use Rattle.tables.proofs.Sweeps.{all-each}
use Rattle.tables.proofs.Readiness.{ready}
use Rattle.built_tables.specs.Built.{dictionary_of, Built}
use Rattle.built_tables.proofs.Rows.{lawful-is, known}
use Rattle.typing_columns.specs.Refusals.{head_out, any_out, extend_refusal, token_count_refusal}
use Rattle.typing_columns.specs.Columns.{last_count, FormOf, ExtendedColumns, CountedColumns}
use Rattle.typing_columns.specs.Steps.{Mirrored, RecordsReady, RecordsAre, ExtendReady, ExtendedBy, Passed, Checked}
use Rattle.typing_columns.proofs.Rows.{parts_in_form_lem}
use Rattle.typing_columns.proofs.Recording.{checks_as}

-- the refusals of push and extend
module _ (T : Tables) (len size : ℕ) (fine : Bool) (typed : List ℕ) where
  refuse_long : 4096 < length typed → extend_refusal T len size fine typed ≡ some TooLong
  unfolding extend_refusal
  refuse_long h = rw (lt-ltb 4096 (length typed) h)

  module _ (short : length typed ≤ 4096) where
    refuse_out : any_out (form_of T) len size fine ≡ true → extend_refusal T len size fine typed ≡ some OutOfForm
    unfolding extend_refusal
    refuse_out e = rw (le-ltb 4096 (length typed) short, e)

    module _ (e : any_out (form_of T) len size fine ≡ false) where
      refuse_slice : size < len + length typed → extend_refusal T len size fine typed ≡ some (Full len)
      unfolding extend_refusal
      refuse_slice h = rw (le-ltb 4096 (length typed) short, e, lt-ltb size (len + length typed) h)

      module _ (fits : len + length typed ≤ size) where
        refuse_most : 4096 < len + length typed → extend_refusal T len size fine typed ≡ some (Full len)
        unfolding extend_refusal
        refuse_most h = rw (le-ltb 4096 (length typed) short, e, le-ltb size (len + length typed) fits, lt-ltb 4096 (len + length typed) h)

        refuse_none : len + length typed ≤ 4096 → extend_refusal T len size fine typed ≡ none
        unfolding extend_refusal
        refuse_none h = rw (le-ltb 4096 (length typed) short, e, le-ltb size (len + length typed) fits, le-ltb 4096 (len + length typed) h)

last_is : (counts : List ℕ) (len : ℕ) → (len ≡ 0 → ⊥) → last_count counts len ≡ get_or counts (len - 1) 0
last_is counts zero h = absurd (h refl)
last_is counts (suc i) h = let z : suc i - 1 ≡ i = omega arith in rw z

-- the count of rows is the same for everybody
same_build : (T : Tables) (n m : ℕ) → PlacesReady T.file T.places n → Built T m → Built T n
same_build T n m P B =
    subst (λ (x : ℕ). Built T x) ((accepted T.file m B.passed).count ∙ sym P.count) B

-- the records may be read
pub checked_records_ready : (T : Tables) (len : ℕ) (bytes codes counts reading : List ℕ) (t : RowTables)
    → Formed T t → Mirrored bytes reading len → length codes ≡ 4096 → length counts ≡ 4096
    → RecordsReady (pair_given t) t.rows.n bytes reading codes counts len
checked_records_ready T len bytes codes counts reading t F M codes_size counts_size = record {
  is_in_form = parts_in_form_lem (given t) t.rows.n (ready (given t) t.rows.n (rw F.same F.formed));
  mirrored = M;
  codes_size = codes_size;
  counts_size = counts_size;
}

module _ (T : Tables) (side : Side) (len size : ℕ) (bytes codes counts : List ℕ) where
  open T use {file, prefixes}

  abbrev form : Option ℕ
  form = form_of T

  abbrev formed : Bool
  formed = all_below len (in_form (dictionary_of file) side bytes codes counts)

  -- where the records are not looked at, the definition says whether they are in form
  unread : FormOf T side len size bytes codes counts formed
  unread h = record { passed = check_at (dictionary_of file) side codes; is = refl; built = λ n B i l. refl }

  -- over tables that a build left, the records are in form as defined
  pub form-built : (fine : Bool) → FormOf T side len size bytes codes counts fine → (n : ℕ) → Built T n → head_out len size ≡ false → fine ≡ formed
  form-built fine F n B h =
      (F h).is ∙ checks_as (dictionary_of file) side bytes codes counts len (F h).passed ((F h).built n B)

  pub checked_out : form ≡ None → Checked T side len size bytes codes counts None
  checked_out e = record { fine = formed; form = unread; is = rw e }

  module _ (n : ℕ) (e : form ≡ Some n) where
    read : (r : Bool) → RecordsAre (without_prefixes T) side n bytes codes counts len r → FormOf T side len size bytes codes counts r
    read r R h = record {
      passed = R.passed;
      is = R.is;
      built = λ m B i l. R.built prefixes (same_build T n m (ready T n e).places_ready B) i;
    }

  module _ (t : RowTables) (F : Formed T t) (h : len ≤ size) (k : len ≤ 4096) where
    abbrev n : ℕ
    n = t.rows.n

    same-records : (r : Bool) → RecordsAre (pair_given t) side n bytes codes counts len r → RecordsAre (without_prefixes T) side n bytes codes counts len r
    same-records r = subst (λ (X : Tables). RecordsAre (without_prefixes X) side n bytes codes counts len r) F.same

    pub checked_broken : RecordsAre (pair_given t) side n bytes codes counts len false → Checked T side len size bytes codes counts None
    checked_broken R = record {
      fine = false;
      form = read n F.formed false (same-records false R);
      is = rw (F.formed, le-ltb size len h, le-ltb 4096 len k);
    }

    pub checked-passed : RecordsAre (pair_given t) side n bytes codes counts len true → Octets bytes → length bytes ≡ 4096
        → Checked T side len size bytes codes counts (Some t)
    checked-passed S o bytes_size = record {
      fine = true;
      form = read n F.formed true R;
      is = (
        rw (F.formed, le-ltb size len h, le-ltb 4096 len k),
        record {
          same = F.same;
          tables = ready T n F.formed;
          fits = k;
          rows = R.rows refl;
          small = R.small refl;
          codes_are = λ B j l. (true-at B j l).code;
          counts_are = λ B j l. (true-at B j l).count;
        },
      );
    }
      where
        R : RecordsAre (without_prefixes T) side n bytes codes counts len true
        R = same-records true S

        true-at : Built T n → (j : ℕ) → j < len → TrueAt (dictionary_of file) side bytes codes counts j
        true-at B =
            forms_true (dictionary_of file) side (lawful-is T n B) bytes (known T n B bytes o) codes counts len
            (omega (arith, bytes_size))
            (all-each (in_form (dictionary_of file) side bytes codes counts) len
            (sym (R.is ∙ checks_as (dictionary_of file) side bytes codes counts len R.passed (λ i l. R.built prefixes B i))))

  -- what the checks and their `ok_or` give: the cause is 8 where anything is out of form
  pub checked_err : (o : Option RowTables) (cause : Cause) → Checked T side len size bytes codes counts o
      → ◌≡◌ {A = Result RowTables Cause} (Err cause) (ok_or o OutOfForm) → (cause ≡ OutOfForm) × Checked T side len size bytes codes counts None
  checked_err None cause C e = (err_same e, C)
  checked_err (Some t) cause C e = ok_err (sym e)

  pub checked_ok : (o : Option RowTables) (t : RowTables) → Checked T side len size bytes codes counts o
      → ◌≡◌ {A = Result RowTables Cause} (Ok t) (ok_or o OutOfForm) → Checked T side len size bytes codes counts (Some t)
  checked_ok None t C e = ok_err e
  checked_ok (Some s) t C e = let q : s ≡ t = sym (ok_same e) in rw q at C

  -- push and extend
  module _ (typed bytes' codes' counts' : List ℕ) where
    refused : (fine : Bool) → FormOf T side len size bytes codes counts fine → (cause : Cause) → extend_refusal T len size fine typed ≡ some cause
        → ExtendedColumns T side len size bytes codes counts typed (Err cause) bytes' codes' counts'
    refused fine F cause e = record { fine = fine; form = F; call = call-refused to_number e 0 (record {}) }

    pub extend-long : 4096 < length typed → ExtendedColumns T side len size bytes codes counts typed (Err TooLong) bytes' codes' counts'
    extend-long h = refused formed unread TooLong (refuse_long T len size formed typed h)

    module _ (short : length typed ≤ 4096) where
      pub extend_out : Checked T side len size bytes codes counts None
          → ExtendedColumns T side len size bytes codes counts typed (Err OutOfForm) bytes' codes' counts'
      extend_out C = refused C.fine C.form OutOfForm (refuse_out T len size C.fine typed short C.is)

      module _ (t : RowTables) (C : Checked T side len size bytes codes counts (Some t)) where
        pub extend-slice : size < len + length typed → ExtendedColumns T side len size bytes codes counts typed (Err (Full len)) bytes' codes' counts'
        extend-slice h = refused C.fine C.form (Full len) (refuse_slice T len size C.fine typed short C.is.0 h)

        module _ (fits : len + length typed ≤ size) where
          pub extend-most : 4096 < len + length typed → ExtendedColumns T side len size bytes codes counts typed (Err (Full len)) bytes' codes' counts'
          extend-most h = refused C.fine C.form (Full len) (refuse_most T len size C.fine typed short C.is.0 fits h)

          pub extend-done : len + length typed ≤ 4096 → ExtendedBy (pair_given t) side t.rows.n len bytes codes counts typed bytes' codes' counts'
              → ExtendedColumns T side len size bytes codes counts typed (Ok (len + length typed)) bytes' codes' counts'
          extend-done h Y = record {
            fine = C.fine;
            form = C.form;
            call = call-given to_number (refuse_none T len size C.fine typed short C.is.0 fits h) (len + length typed) (record {
              number_is = refl;
              added = λ k l. record {
                byte = X.bytes_are k l;
                row = let c = P.tables.places_ready.count in omega (arith, X.rows (len + k) (omega arith), c);
                few = X.small (len + k) (omega arith);
              };
              built = λ m B k l.
                  let B' = same_build T t.rows.n m P.tables.places_ready B in
                  let true = X.built prefixes B' (P.codes_are B') (P.counts_are B') in
                  record { code = true.0 (len + k) (omega arith); count = true.1 (len + k) (omega arith) };
            });
          }
            where
              P : Passed T side len bytes codes counts t
              P = C.is.1

              X : ExtendedBy (without_prefixes T) side t.rows.n len bytes codes counts typed bytes' codes' counts'
              X = subst (λ (Z : Tables). ExtendedBy (without_prefixes Z) side t.rows.n len bytes codes counts typed bytes' codes' counts') P.same Y

  -- the columns may be extended
  pub extend-ready : (typed : List ℕ) (t : RowTables) → Checked T side len size bytes codes counts (Some t)
      → len + length typed ≤ 4096 → length bytes ≡ 4096 → length codes ≡ 4096 → length counts ≡ 4096 → ExtendReady (pair_given t) t.rows.n len bytes codes counts typed
  extend-ready typed t C h b c k =
      let P = C.is.1 in
      let tables : Ready (given t) t.rows.n = rw P.same P.tables in
      record { is_in_form = parts_in_form_lem (given t) t.rows.n tables; room = h; bytes_size = b; codes_size = c; counts_size = k; rows = P.rows; small = P.small }

  -- `token_count`
  pub count_out : Checked T side len size bytes codes counts None → CountedColumns T side len size bytes codes counts (Err OutOfForm)
  unfolding token_count_refusal
  count_out C = record { fine = C.fine; form = C.form; call = call-refused to_number (rw C.is) 0 (record {}) }

  module _ (t : RowTables) (C : Checked T side len size bytes codes counts (Some t)) where
    counted : (x : ℕ) → x ≡ last_count counts len → CountedColumns T side len size bytes codes counts (Ok x)
    unfolding token_count_refusal
    counted x e = record { fine = C.fine; form = C.form; call = call-given to_number (rw C.is.0) x e }

    pub count_none : len ≡ 0 → CountedColumns T side len size bytes codes counts (Ok 0)
    count_none e = counted 0 (rw e)

    pub count-last : (x : ℕ) → (len ≡ 0 → ⊥) → x ≡ get_or counts (len - 1) 0 → CountedColumns T side len size bytes codes counts (Ok x)
    count-last x h e = counted x (e ∙ sym (last_is counts len h))
