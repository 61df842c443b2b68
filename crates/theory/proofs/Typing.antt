-- Typing records: records in form are the true ones, and a record depends on the bytes up to it alone.
use mathlib.Core.Path.{◌≡◌, sym, ap, ◌∙◌}
use mathlib.Core.Logic.{◌↔◌, ◌⊎◌, inl, inr, ⊎_elim}
use mathlib.Core.List.{List, ◌++◌}
use mathlib.Core.Bool.{Bool, true, ◌&&◌, ◌||◌}
use Prim.Native.Nat.{ℕ, zero, suc, ◌-◌, ◌≤◌, ◌<◌}
use native.Mathlib.Nat.{eq-or-lt_of_le}
use native.Mathlib.Omega.{arith}
use lib.ListN.{length, get_or, take, drop}
use lib.Seq.{take-take, take-append-le, take-length, get_or-take}
use lib.Dec.{ltb, leb, eqb}
use borrow.Author.Tests.{ltb-true, leb-true, eqb-true, lt-ltb, le-leb, eq-eqb}
use Rattle.theory.specs.Lists.{equal}
use Rattle.theory.specs.Dictionary.{Dictionary, KnownText}
use Rattle.theory.specs.Merge.{encode}
use Rattle.theory.specs.Typing.{Side, in_order, end_code, Entry, code_at, count_at, entry_at, passes_beside, row_ends, follows, check_at, in_form_if, in_form, TrueAt}
use Rattle.theory.proofs.Lists.{and_both, equal_eq, equal_refl}
use Rattle.theory.proofs.TypingLists.{and-true, or_either, or-true}
use Rattle.theory.proofs.PairCheck.{Lawful}
use Rattle.theory.proofs.TypingRows.{EndsAt, CountedAt, one-row, one-count}

module _ (D : Dictionary) (side : Side) where
  same-entry : (s t : List ℕ) (i : ℕ) → take (suc i) s ≡ take (suc i) t → entry_at D side s i ≡ entry_at D side t i
  unfolding entry_at code_at count_at
  same-entry s t i e =
      let byte : get_or s i 0 ≡ get_or t i 0 = sym (get_or-take (suc i) s i 0 (omega arith)) ∙ ap (λ (l : List ℕ). get_or l i 0) e ∙ get_or-take (suc i) t i 0 (omega arith) in
      λ j. record { byte = byte j; code = end_code side (encode D (in_order side (e j))); count = length (encode D (in_order side (e j))) }

  -- a record depends on the bytes up to it alone
  pub entry_at_append : (s u : List ℕ) (i : ℕ) → i < length s → entry_at D side (s ++ u) i ≡ entry_at D side s i
  entry_at_append s u i h = same-entry (s ++ u) s i (take-append-le (suc i) s u h)

  pub entry_at_take : (s : List ℕ) (n i : ℕ) → i < n → entry_at D side (take n s) i ≡ entry_at D side s i
  entry_at_take s n i h = same-entry (take n s) s i (take-take (suc i) n s h)

  pub code_at_append : (s u : List ℕ) (i : ℕ) → i < length s → code_at D side (s ++ u) i ≡ code_at D side s i
  unfolding entry_at
  code_at_append s u i h = ap (λ (r : Entry). r.code) (entry_at_append s u i h)

  pub code_at_take : (s : List ℕ) (n i : ℕ) → i < n → code_at D side (take n s) i ≡ code_at D side s i
  unfolding entry_at
  code_at_take s n i h = ap (λ (r : Entry). r.code) (entry_at_take s n i h)

  pub count_at-append : (s u : List ℕ) (i : ℕ) → i < length s → count_at D side (s ++ u) i ≡ count_at D side s i
  unfolding entry_at
  count_at-append s u i h = ap (λ (r : Entry). r.count) (entry_at_append s u i h)

  pub count_at-take : (s : List ℕ) (n i : ℕ) → i < n → count_at D side (take n s) i ≡ count_at D side s i
  unfolding entry_at
  count_at-take s n i h = ap (λ (r : Entry). r.count) (entry_at_take s n i h)

  -- whether a record is in form depends on the records up to it alone
  pub same-form : (n : ℕ) (bytes codes counts bytes' codes' counts' : List ℕ) → take n bytes ≡ take n bytes' → take n codes ≡ take n codes'
      → take n counts ≡ take n counts' → (passed : Bool) (i : ℕ) → i < n → in_form_if D side bytes codes counts passed i ≡ in_form_if D side bytes' codes' counts' passed i
  unfolding in_form_if
  same-form n bytes codes counts bytes' codes' counts' eb ec ek passed i l =
      let b : take (suc i) bytes ≡ take (suc i) bytes' = sym (take-take (suc i) n bytes l) ∙ ap (take (suc i)) eb ∙ take-take (suc i) n bytes' l in
      let c : get_or codes i 0 ≡ get_or codes' i 0 = at codes codes' ec i l in
      let k : get_or counts i 0 ≡ get_or counts' i 0 = at counts counts' ek i l in
      let before : get_or counts (i - length (D.bytes (get_or codes i 0))) 0 ≡ get_or counts' (i - length (D.bytes (get_or codes' i 0))) 0 =
      ap (λ (x : ℕ). get_or counts (i - length (D.bytes x)) 0) c ∙ at counts counts' ek (i - length (D.bytes (get_or codes' i 0))) (omega arith) in
      λ j. (ltb (c j) D.count && (leb (length (D.bytes (c j))) (suc i) && equal (drop (suc i - length (D.bytes (c j))) (b j)) (in_order side (D.bytes (c j)))))
      && ((eqb (length (D.bytes (c j))) (suc i) && eqb (k j) 1) || (ltb (length (D.bytes (c j))) (suc i) && (passed && eqb (k j) (suc (before j)))))
    where
      at : (s t : List ℕ) → take n s ≡ take n t → (j : ℕ) → j < n → get_or s j 0 ≡ get_or t j 0
      at s t e j h = sym (get_or-take n s j 0 h) ∙ ap (λ (x : List ℕ). get_or x j 0) e ∙ get_or-take n t j 0 h

  -- and so does the pair check that it asks for
  pub same_check : (n : ℕ) (codes codes' : List ℕ) → take n codes ≡ take n codes' → (i : ℕ) → i < n → check_at D side codes i ≡ check_at D side codes' i
  same_check n codes codes' e i l =
      let c : get_or codes i 0 ≡ get_or codes' i 0 = at i l in
      let before : get_or codes (i - length (D.bytes (get_or codes i 0))) 0 ≡ get_or codes' (i - length (D.bytes (get_or codes' i 0))) 0 =
      ap (λ (x : ℕ). get_or codes (i - length (D.bytes x)) 0) c ∙ at (i - length (D.bytes (get_or codes' i 0))) (omega arith) in
      λ j. passes_beside D side (before j) (c j)
    where
      at : (j : ℕ) → j < n → get_or codes j 0 ≡ get_or codes' j 0
      at j h = sym (get_or-take n codes j 0 h) ∙ ap (λ (x : List ℕ). get_or x j 0) e ∙ get_or-take n codes' j 0 h

  -- the last record has the end code and the count of the whole text
  pub code_at_last : (s : List ℕ) (i : ℕ) → length s ≡ suc i → code_at D side s i ≡ end_code side (encode D (in_order side s))
  unfolding code_at
  code_at_last s i h = ap (λ (l : List ℕ). end_code side (encode D (in_order side l))) (rw (← h) (take-length s))

  pub count_at-last : (s : List ℕ) (i : ℕ) → length s ≡ suc i → count_at D side s i ≡ length (encode D (in_order side s))
  unfolding count_at
  count_at-last s i h = ap (λ (l : List ℕ). length (encode D (in_order side l))) (rw (← h) (take-length s))

  -- what a record in form says
  record FormAt (s codes counts : List ℕ) (i : ℕ) : Type 0 where
    code : EndsAt D side s (λ j. get_or codes j 0) i (get_or codes i 0)
    count : CountedAt D side (λ j. get_or counts j 0) i (get_or codes i 0) (get_or counts i 0)

  module _ (s codes counts : List ℕ) (i : ℕ) where
    abbrev c : ℕ
    c = get_or codes i 0

    abbrev k : ℕ
    k = get_or counts i 0

    abbrev size : ℕ
    size = length (D.bytes c)

    -- the tests of the two ways in which a record follows
    abbrev reaches : Bool
    reaches = eqb size (suc i) && eqb k 1

    abbrev goes_on : Bool
    goes_on = ltb size (suc i) && (passes_beside D side (get_or codes (i - size) 0) c && eqb k (suc (get_or counts (i - size) 0)))

    to-form : in_form D side s codes counts i ≡ true → FormAt s codes counts i
    unfolding in_form_if
    to-form e = ⊎_elim one more (or_either reaches goes_on both.1)
      where
        both : (row_ends D side s codes counts i c ≡ true) × (follows D side s codes counts (check_at D side codes i) i c k ≡ true)
        both = and_both _ _ e

        -- the row ends the bytes, and the rest is given
        with_row : (size ≡ suc i) ⊎ ((size < suc i) × (passes_beside D side (get_or codes (i - size) 0) c ≡ true)) → CountedAt D side (λ j. get_or counts j 0) i c k → FormAt s codes counts i
        with_row f g =
            let known = and_both (ltb c D.count) _ both.0 in
            let fitting = and_both (leb size (suc i)) _ known.1 in
            record {
              code = record { row = ltb-true c D.count known.0; fits = leb-true size (suc i) fitting.0; ends = equal_eq _ _ fitting.1; follows = f };
              count = g;
            }

        one : reaches ≡ true → FormAt s codes counts i
        one f =
            let q = and_both (eqb size (suc i)) _ f in
            let l = eqb-true size (suc i) q.0 in
            with_row (inl l) (record { reaching = λ _. eqb-true k 1 q.1; behind = λ g. absurd (omega arith) })

        more : goes_on ≡ true → FormAt s codes counts i
        more f =
            let q = and_both (ltb size (suc i)) _ f in
            let r = and_both (passes_beside D side (get_or codes (i - size) 0) c) _ q.1 in
            let l = ltb-true size (suc i) q.0 in
            with_row (inr (l, r.0)) (record { reaching = λ g. absurd (omega arith); behind = λ _. eqb-true k (suc (get_or counts (i - size) 0)) r.1 })

    of_form : FormAt s codes counts i → in_form D side s codes counts i ≡ true
    unfolding in_form_if
    of_form f = and-true row (or-true reaches goes_on (⊎_elim (λ e. inl (one e)) (λ e. inr (more e.0 e.1)) f.code.follows))
      where
        row : row_ends D side s codes counts i c ≡ true
        row = and-true (lt-ltb c D.count f.code.row) (and-true (le-leb size (suc i) f.code.fits) (rw f.code.ends (equal_refl (in_order side (D.bytes c)))))

        one : size ≡ suc i → reaches ≡ true
        one e = and-true (eq-eqb size (suc i) e) (eq-eqb k 1 (f.count.reaching e))

        more : size < suc i → passes_beside D side (get_or codes (i - size) 0) c ≡ true → goes_on ≡ true
        more l p = and-true (lt-ltb size (suc i) l) (and-true p (eq-eqb k (suc (get_or counts (i - size) 0)) (f.count.behind l)))

  module _ (A : Lawful D) (s : List ℕ) (known : KnownText D s) (codes counts : List ℕ) where
    -- behind true records, a record is in form exactly if it is true
    pub form-true : (i : ℕ) → i < length s → ((j : ℕ) → j < i → TrueAt D side s codes counts j) → (in_form D side s codes counts i ≡ true) ↔ TrueAt D side s codes counts i
    form-true i h below = (λ e. to-true (to-form s codes counts i e), λ t. of_form s codes counts i (of_true t))
      where
        row : EndsAt D side s (λ j. get_or codes j 0) i (get_or codes i 0) ↔ (get_or codes i 0 ≡ code_at D side s i)
        row = one-row D side A s known i h (λ j. get_or codes j 0) (get_or codes i 0) (λ j l. (below j l).code)

        count : EndsAt D side s (λ j. get_or codes j 0) i (get_or codes i 0) → CountedAt D side (λ j. get_or counts j 0) i (get_or codes i 0) (get_or counts i 0) ↔ (get_or counts i 0 ≡ count_at D side s i)
        count = one-count D side A s known i h (λ j. get_or codes j 0) (λ j. get_or counts j 0) (get_or codes i 0) (get_or counts i 0) (λ j l. (below j l).code) (λ j l. (below j l).count)

        to-true : FormAt s codes counts i → TrueAt D side s codes counts i
        to-true f = record { code = row.0 f.code; count = (count f.code).0 f.count }

        of_true : TrueAt D side s codes counts i → FormAt s codes counts i
        of_true t = let e = row.1 t.code in record { code = e; count = (count e).1 t.count }

    -- records in form are the true ones
    pub forms_true : (n : ℕ) → n ≤ length s → ((i : ℕ) → i < n → in_form D side s codes counts i ≡ true) → (i : ℕ) → i < n → TrueAt D side s codes counts i
    forms_true zero h f i l = absurd (omega arith)
    forms_true (suc n) h f i l = go (forms_true n (omega arith) (λ j m. f j (omega arith)))
      where
        go : ((j : ℕ) → j < n → TrueAt D side s codes counts j) → TrueAt D side s codes counts i
        go below = ⊎_elim (λ e. let i-is : i ≡ n = omega arith in rw i-is ((form-true n h below).0 (f n (omega arith)))) (λ m. below i (omega arith)) (eq-or-lt_of_le l)

    -- and the true ones are in form
    pub trues_form : (n : ℕ) → n ≤ length s → ((i : ℕ) → i < n → TrueAt D side s codes counts i) → (i : ℕ) → i < n → in_form D side s codes counts i ≡ true
    trues_form n h t i l = (form-true i (omega arith) (λ j m. t j (omega arith))).1 (t i l)
