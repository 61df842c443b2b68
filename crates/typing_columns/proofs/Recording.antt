-- Records in form, test by test, and one record after the other. Assumes nothing.
use mathlib.Core.Path.{◌≡◌, refl, sym, ap, ◌∙◌}
use mathlib.Core.Logic.{⊎_elim}
use mathlib.Core.List.{List}
use mathlib.Core.Bool.{Bool, true, false, cond, ◌&&◌, ◌||◌}
use Prim.Native.Nat.{ℕ, suc, ◌+◌, ◌-◌, ◌≤◌, ◌<◌}
use native.Mathlib.Nat.{eq-or-lt_of_le}
use native.Mathlib.Omega.{arith}
use lib.ListN.{length, get_or}
use lib.Dec.{ltb, eqb}
use borrow.Author.Count.{below_more}
use borrow.Author.Tests.{lt-ltb, le-ltb, lt-leb, ne_eqb, eq-eqb, eqb-true}
use Rattle.theory.specs.Dictionary.{Dictionary}
use Rattle.theory.specs.Typing.{Side, check_at, in_form_if, in_form}
use Rattle.theory.proofs.Lists.{true-false, bool_cases, lt_or_ge}
use Rattle.tables.specs.Tables.{PairTables, with_prefixes}
use Rattle.tables.specs.InForm.{all_below}
use Rattle.tables.proofs.Sweeps.{all_more, all-fails, all_same}
use Rattle.built_tables.specs.Built.{dictionary_of, Built}
use Rattle.end_code.specs.Tables.{RowsTo}
use Rattle.typing_columns.specs.Steps.{CountsTo, ends_bytes, follows_if, count_with, FollowsIs, CountIs, RecordsReady, RecordReady, RecordIs, RecordsAre}
use Rattle.typing_columns.proofs.Rows.{row_count}

or-last : (a : Bool) → a || false ≡ a
or-last true = refl
or-last false = refl

and_last : (a : Bool) → a && false ≡ false
and_last true = refl
and_last false = refl

and_three : (a b d : Bool) → (a && b) && d ≡ a && (b && d)
and_three true b d = refl
and_three false b d = refl

-- where the pair check answers as defined, the records are in form as defined
pub checks_as : (D : Dictionary) (side : Side) (bytes codes counts : List ℕ) (len : ℕ) (passed : ℕ → Bool) → ((i : ℕ) → i < len → passed i ≡ check_at D side codes i)
    → all_below len (λ i. in_form_if D side bytes codes counts (passed i) i) ≡ all_below len (in_form D side bytes codes counts)
checks_as D side bytes codes counts len passed h =
    all_same (λ i. in_form_if D side bytes codes counts (passed i) i) (in_form D side bytes codes counts) len (λ i l. ap (λ (b : Bool). in_form_if D side bytes codes counts b i) (h i l))

module _ (D : Dictionary) (side : Side) (bytes codes counts : List ℕ) (passed : Bool) (i : ℕ) where
  abbrev c : ℕ
  c = get_or codes i 0

  abbrev k : ℕ
  k = get_or counts i 0

  abbrev size : ℕ
  size = length (D.bytes c)

  abbrev Tested : Type 0
  Tested = in_form_if D side bytes codes counts passed i
      ≡ ltb c D.count && (ends_bytes D side bytes i c && (follows_if D passed i c && eqb k (count_with D counts i c)))

  longer : suc i < size → Tested
  unfolding in_form_if ends_bytes follows_if count_with
  longer h = rw (lt-leb size (suc i) h, and_last)

  whole : size ≡ suc i → Tested
  unfolding in_form_if ends_bytes follows_if count_with
  whole h = rw (eq-eqb size (suc i) h, le-ltb size (suc i) (omega arith), or-last) (and_three (ltb c D.count) (ends_bytes D side bytes i c) (eqb k 1))

  shorter : size < suc i → Tested
  unfolding in_form_if ends_bytes follows_if count_with
  shorter h = rw (ne_eqb size (suc i) (λ e. omega arith), lt-ltb size (suc i) h)
      (and_three (ltb c D.count) (ends_bytes D side bytes i c) (passed && eqb k (suc (get_or counts (i - size) 0))))

  -- the tests of a record in form, one by one
  tests : Tested
  tests = ⊎_elim longer (λ l. ⊎_elim whole shorter (eq-or-lt_of_le l)) (lt_or_ge (suc i) size)

-- what the tests of record i need
module _ (P : PairTables) (side : Side) (n : ℕ) (bytes reading codes counts : List ℕ) (i : ℕ)
    (R : RecordReady P n bytes reading codes counts i) where
  open P use {file, places}

  abbrev D' : Dictionary
  D' = dictionary_of file

  abbrev c' : ℕ
  c' = get_or codes i 0

  counted : D'.count ≡ n
  counted = row_count file places n R.ready.is_in_form.places_ready

  -- a record that fails a test, by an answer of the pair check
  fails : (passed : Bool) → ((prefixes : List ℕ) → Built (with_prefixes P prefixes) n → passed ≡ check_at D' side codes i)
      → false ≡ ltb c' D'.count && (ends_bytes D' side bytes i c' && (follows_if D' passed i c' && eqb (get_or counts i 0) (count_with D' counts i c')))
      → RecordIs P side n bytes codes counts i false
  fails passed b f = record {
    passed = passed;
    is = f ∙ sym (tests D' side bytes codes counts passed i);
    row = λ e. absurd (true-false (sym e));
    small = λ e. absurd (true-false (sym e));
    built = b;
  }

  -- before the pair check is asked
  fails_early : false ≡ ltb c' D'.count && (ends_bytes D' side bytes i c' && (follows_if D' (check_at D' side codes i) i c' && eqb (get_or counts i 0) (count_with D' counts i c')))
      → RecordIs P side n bytes codes counts i false
  fails_early = fails (check_at D' side codes i) (λ prefixes B. refl)

  -- its code is no row
  pub record_unknown : n ≤ c' → RecordIs P side n bytes codes counts i false
  record_unknown h = fails_early (rw (le-ltb c' D'.count (omega (arith, counted))))

  module _ (h : c' < n) where
    known : ltb c' D'.count ≡ true
    known = lt-ltb c' D'.count (omega (arith, counted))

    -- its row does not end the bytes
    pub record_other : ends_bytes D' side bytes i c' ≡ false → RecordIs P side n bytes codes counts i false
    record_other e = fails_early (rw (known, e))

    module _ (ends : ends_bytes D' side bytes i c' ≡ true) where
      -- its row does not follow the code before it
      pub record_apart : FollowsIs P side n codes i c' false → RecordIs P side n bytes codes counts i false
      record_apart F = fails F.passed F.built (rw (known, ends, ← F.is))

      -- the count decides
      pub record_counted : FollowsIs P side n codes i c' true → (k : ℕ) → CountIs file counts i c' k
          → RecordIs P side n bytes codes counts i (eqb (get_or counts i 0) k)
      record_counted F k C = record {
        passed = F.passed;
        is = rw (tests D' side bytes codes counts F.passed i, known, ends, ← F.is, C.is);
        row = λ _. h;
        small = λ e. let z = eqb-true (get_or counts i 0) k e in omega (arith, C.small);
        built = F.built;
      }

-- the pair check's answers with that of record i
abbrev with_answer : (ℕ → Bool) → ℕ → Bool → ℕ → Bool
with_answer passed i b j = cond (eqb j i) b (passed j)

answers_as : (passed defined : ℕ → Bool) (i : ℕ) (b : Bool) → ((j : ℕ) → passed j ≡ defined j) → b ≡ defined i → (j : ℕ) → with_answer passed i b j ≡ defined j
answers_as passed defined i b h e j = bool_cases (eqb j i) (λ f. let z : j ≡ i = eqb-true j i f in rw (f, z) e) (λ f. rw f (h j))

module _ (P : PairTables) (side : Side) (n : ℕ) (bytes reading codes counts : List ℕ) (len : ℕ) where
  open P use {file}

  -- record i in form, by an answer of the pair check
  abbrev formed : (ℕ → Bool) → ℕ → Bool
  formed passed i = in_form_if (dictionary_of file) side bytes codes counts (passed i) i

  abbrev AsDefined : (ℕ → Bool) → Type 0
  AsDefined passed = (prefixes : List ℕ) → Built (with_prefixes P prefixes) n → (i : ℕ) → passed i ≡ check_at (dictionary_of file) side codes i

  -- the records below i are in form
  pub record Recorded (i : ℕ) : Type 0 where
    pub ready : RecordsReady P n bytes reading codes counts len
    pub within : i ≤ len
    pub rows : RowsTo n codes i
    pub small : CountsTo counts i
    pub passed : ℕ → Bool
    pub fine : all_below i (formed passed) ≡ true
    pub built : AsDefined passed

  pub records-start : RecordsReady P n bytes reading codes counts len → Recorded 0
  unfolding all_below
  records-start R = record {
    ready = R;
    within = omega arith;
    rows = λ j h. absurd (omega arith);
    small = λ j h. absurd (omega arith);
    passed = check_at (dictionary_of file) side codes;
    fine = refl;
    built = λ prefixes B j. refl;
  }

  module _ (i : ℕ) (S : Recorded i) where
    module _ (h : i < len) where
      module _ (r : Bool) (F : RecordIs P side n bytes codes counts i r) where
        abbrev passed' : ℕ → Bool
        passed' = with_answer S.passed i F.passed

        here : formed passed' i ≡ r
        here =
            ap (λ (b : Bool). in_form_if (dictionary_of file) side bytes codes counts (cond b F.passed (S.passed i)) i) (eq-eqb i i refl) ∙ sym F.is

        front : all_below i (formed passed') ≡ true
        front = all_same (formed passed') (formed S.passed) i
            (λ j l. ap (λ (b : Bool). in_form_if (dictionary_of file) side bytes codes counts (cond b F.passed (S.passed j)) j) (ne_eqb j i (λ e. omega arith))) ∙ S.fine

        as_defined : AsDefined passed'
        as_defined prefixes B = answers_as S.passed (check_at (dictionary_of file) side codes) i F.passed (S.built prefixes B) (F.built prefixes B)

      pub records_fail : RecordIs P side n bytes codes counts i false → RecordsAre P side n bytes codes counts len false
      records_fail F = record {
        passed = passed' false F;
        is = all-fails (formed (passed' false F)) len i h (here false F);
        rows = λ e. absurd (true-false (sym e));
        small = λ e. absurd (true-false (sym e));
        built = as_defined false F;
      }

      pub records-more : RecordIs P side n bytes codes counts i true → Recorded (i + 1)
      records-more F = record {
        ready = S.ready;
        within = omega arith;
        rows = below_more _ i S.rows (F.row refl);
        small = below_more _ i S.small (F.small refl);
        passed = passed' true F;
        fine = all_more (formed (passed' true F)) i (front true F) (here true F);
        built = as_defined true F;
      }
