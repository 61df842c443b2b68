-- The answers of build, each with the tables after it. Assumes nothing.
use mathlib.Core.Path.{◌≡◌, refl, sym, ap, ◌∙◌}
use mathlib.Core.Option.{Option, none, some}
use mathlib.Core.Bool.{Bool, true, false, cond, ◌||◌}
use Prim.Native.Nat.{ℕ, ◌≤◌, ◌<◌}
use native.Mathlib.Omega.{arith}
use lib.ListN.{length}
use lib.Dec.{ltb}
use borrow.Author.Tests.{lt-ltb, le-ltb, eq-eqb, ne_eqb}
use Rattle.causes.specs.declared.Cause.{Cause}
use Rattle.causes.specs.declared.Cause.TheVariants.{FactorZero, BadRecord, RowCount, MissingByte, EqualRow, SameHash, NoParts, TooShort}
use Rattle.std.specs.Prelude.{Result, Ok, Err}
use Rattle.causes.specs.Order.{build_order, first_of}
use Rattle.causes.specs.Call.{to_number}
use Rattle.causes.proofs.Calls.{ok_same, call-refused, call-given, value-said, cause-said}
use Rattle.causes.proofs.None.{AllFail, none-applies}
use Rattle.phrase_file.specs.Form.{rows, records_end}
use Rattle.phrase_file.specs.Checks.{missing_byte, file_conditions, check_of}
use Rattle.phrase_file.proofs.Checks.{accepted}
use Rattle.parts.specs.Parts.{first_without}
use Rattle.tables.specs.Tables.{Tables}
use Rattle.clashes.specs.Clashes.{first_with, shares_hash}
use Rattle.clashes.proofs.Laws.{none_equal, none-clashes, shared_clashes}
use Rattle.dictionary.specs.Build.{too_short, bytes_at, equal_row, same_hash, row_conditions, build_refusal, all_cleared, clears, after_refusal, BuildIs}
use Rattle.dictionary.specs.Steps.{rows_answer, shared_hash, Buildable, TablesFilled}
use Rattle.dictionary.proofs.Clearing.{cleared-beyond}

-- of the file the first cause counts, whatever is later in the order, and it clears nothing
file-first : (end n m : ℕ) (a b c d : Bool) (later : Option Cause) (cause : Cause)
    → cond a (some (BadRecord 65536)) (cond b (some (BadRecord end)) (cond c (some (RowCount n)) (cond d (some (MissingByte m)) none)))
    ≡ some cause
    → (cond a (some (BadRecord 65536)) (cond b (some (BadRecord end)) (cond c (some (RowCount n)) (cond d (some (MissingByte m)) later)))
    ≡ some cause) × (clears cause ≡ false)
file-first end n m true b c d later cause e = let q : BadRecord 65536 ≡ cause = cc in (e, ap clears (sym q))
file-first end n m false true c d later cause e = let q : BadRecord end ≡ cause = cc in (e, ap clears (sym q))
file-first end n m false false true d later cause e = let q : RowCount n ≡ cause = cc in (e, ap clears (sym q))
file-first end n m false false false true later cause e = let q : MissingByte m ≡ cause = cc in (e, ap clears (sym q))
file-first end n m false false false false later cause e = absurd (let z : ◌≡◌ {A = ℕ} 0 1 = cc in omega arith)

module _ (factor : ℕ) (T : Tables) where
  open T use {file}

  pub refused_factor : factor ≡ 0 → BuildIs factor T T (Err FactorZero)
  unfolding build_refusal after_refusal
  refused_factor e = call-refused to_number (rw (eq-eqb factor 0 e)) 0 refl

  module _ (f : factor ≡ 0 → ⊥) where
    pub refused-file : (cause : Cause) → Err cause ≡ check_of file → BuildIs factor T T (Err cause)
    unfolding build_refusal after_refusal check_of
    refused-file cause e =
        let first = cause-said (first_of build_order (file_conditions file)) (length (rows file)) cause (sym e) in
        let n = length (rows file) in
        let told = file-first (records_end file) n (missing_byte file) (ltb 65536 (length file))
        (ltb (records_end file) (length file)) (ltb n 256 || ltb 4096 n) (ltb (missing_byte file) 256)
        (cond (too_short T n) (some TooShort) (first_of build_order (row_conditions factor file n))) cause first in
        call-refused to_number (rw (ne_eqb factor 0 f) told.0) 0 (rw told.1)

    module _ (n : ℕ) (passed : Ok n ≡ check_of file) where
      counted : n ≡ length (rows file)
      counted = (accepted file n (sym passed)).count

      fails : AllFail build_order (file_conditions file)
      unfolding check_of
      fails = none-applies build_order (file_conditions file)
          (value-said (first_of build_order (file_conditions file)) (length (rows file)) n (sym passed)).0

      -- what is left to refuse after 7: 5, 13 and 6
      abbrev left : Option Cause
      left = first_of build_order (row_conditions factor file n)

      from-rows : build_refusal factor T ≡ cond (too_short T n) (some TooShort) left
      unfolding build_refusal
      from-rows = rw (
        ne_eqb factor 0 f,
        fails.0 refl,
        fails.1.0 refl,
        fails.1.1.0 refl,
        fails.1.1.1.0 refl,
        ← counted,
      )

      pub refused-short : too_short T n ≡ true → BuildIs factor T T (Err TooShort)
      unfolding after_refusal
      refused-short t = call-refused to_number (from-rows ∙ rw t) 0 refl

      pub buildable : too_short T n ≡ false → Buildable factor T n
      buildable t = record { some_factor = f; passed = sym passed; room = t }

-- the refusals 5, 13 and 6 clear the tables
rows-clear : (a b c : Bool) (i j k : ℕ) (cause : Cause)
    → cond a (some (EqualRow i)) (cond b (some (SameHash j)) (cond c (some (NoParts k)) none)) ≡ some cause
    → clears cause ≡ true
rows-clear true b c i j k cause e = let q : EqualRow i ≡ cause = cc in ap clears (sym q)
rows-clear false true c i j k cause e = let q : SameHash j ≡ cause = cc in ap clears (sym q)
rows-clear false false true i j k cause e = let q : NoParts k ≡ cause = cc in ap clears (sym q)
rows-clear false false false i j k cause e = absurd (let z : ◌≡◌ {A = ℕ} 0 1 = cc in omega arith)

module _ (factor : ℕ) (T : Tables) (n : ℕ) (A : Buildable factor T n) where
  open T use {file}

  count : n ≡ length (rows file)
  count = (accepted file n A.passed).count

  -- the answers of the searches: the lowest row with the bytes of an earlier one and, where there is none, the lowest
  -- with the hash of one
  pub answer-equal : equal_row file < n → Err (EqualRow (equal_row file)) ≡ rows_answer factor T n
  unfolding rows_answer
  answer-equal h = rw (lt-ltb (equal_row file) n h)

  module _ (shared : ℕ) (s : shared ≡ shared_hash file factor) where
    shared_is : n ≤ equal_row file → shared ≡ same_hash file factor
    unfolding equal_row same_hash shared_hash
    shared_is d = s ∙ shared_clashes (bytes_at file) factor (length (rows file)) (let k = count in omega arith)

    pub answer_hash : n ≤ equal_row file → shared < n → Err (SameHash shared) ≡ rows_answer factor T n
    unfolding rows_answer
    answer_hash d h = rw (le-ltb (equal_row file) n d, ← shared_is d, lt-ltb shared n h)

    -- no two rows have one hash: neither 5 nor 13
    module _ (d : n ≤ shared) where
      none_shared : length (rows file) ≤ first_with (shares_hash (bytes_at file) factor) (length (rows file))
      unfolding shared_hash
      none_shared = let k = count in omega arith

      no-equal : n ≤ equal_row file
      unfolding equal_row
      no-equal = omega (arith, count, none_equal (bytes_at file) factor (length (rows file)) none_shared)

      no-clash : n ≤ same_hash file factor
      unfolding same_hash
      no-clash = omega (arith, count, none-clashes (bytes_at file) factor (length (rows file)) none_shared)

      module _ (without : ℕ) (t : without ≡ first_without (rows file)) where
        pub answer-parts : without < n → Err (NoParts without) ≡ rows_answer factor T n
        unfolding rows_answer
        answer-parts h = rw (le-ltb _ _ no-equal, le-ltb _ _ no-clash, ← t, lt-ltb without n h)

        pub answer-rows : n ≤ without → Ok n ≡ rows_answer factor T n
        unfolding rows_answer
        answer-rows h = rw (le-ltb _ _ no-equal, le-ltb _ _ no-clash, ← t, le-ltb without n h)

  abbrev rest : Option Cause
  rest = left factor T A.some_factor n (sym A.passed)

  refusal_is : build_refusal factor T ≡ rest
  refusal_is = from-rows factor T A.some_factor n (sym A.passed) ∙ rw A.room

  -- the tables were filled, and the answer was r
  module _ (T₁ : Tables) (r : Result ℕ Cause) (F : TablesFilled factor n T T₁ r) where
    pub built-rows : (m : ℕ) → r ≡ Ok m → BuildIs factor T T₁ (Ok m)
    unfolding rows_answer
    built-rows m e =
        let none_left = (value-said rest n m (sym F.answer ∙ e)).0 in
        let B = F.built m e in
        call-given to_number (refusal_is ∙ none_left) m (record {
          built = B;
          beyond_kept =
              rw (ok_same (sym B.passed ∙ ap (λ (d : Tables). check_of d.file) F.beyond_kept ∙ A.passed)) F.beyond_kept;
        })

    pub cleared-rows : (cause : Cause) (T' : Tables) → r ≡ Err cause → T' ≡ all_cleared n T₁ → BuildIs factor T T' (Err cause)
    unfolding after_refusal rows_answer
    cleared-rows cause T' e f =
        let told = cause-said rest n cause (sym F.answer ∙ e) in
        let c = rows-clear (ltb (equal_row file) n) (ltb (same_hash file factor) n) (ltb (first_without (rows file)) n)
        (equal_row file) (same_hash file factor) (first_without (rows file)) cause told in
        call-refused to_number (refusal_is ∙ told) 0
        (rw (c, ← (accepted file n A.passed).count) (f ∙ cleared-beyond n T T₁ F.beyond_kept))
