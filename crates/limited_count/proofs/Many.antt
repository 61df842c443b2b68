-- The codes up to each place, counted by its last code. Assumes nothing.
use mathlib.Core.Path.{◌≡◌, refl, sym, ap, ◌∙◌}
use mathlib.Core.Logic.{⊎_elim}
use mathlib.Core.List.{List, [], ◌∷◌}
use mathlib.Core.Bool.{true}
use Prim.Native.Nat.{ℕ, suc, ◌+◌, ◌-◌, ◌≤◌, ◌<◌}
use native.Mathlib.Nat.{eq-or-lt_of_le}
use native.Mathlib.Numerals.{add-one}
use native.Mathlib.Omega.{arith}
use lib.ListN.{length, length-append, length-set, get_or, set, take}
use borrow.Author.Tests.{lt-ltb, le-ltb}
use Rattle.theory.specs.Dictionary.{Dictionary}
use Rattle.theory.specs.Merge.{encode}
use Rattle.theory.specs.Table.{last_code}
use Rattle.theory.specs.Typing.{append, code_at}
use Rattle.theory.proofs.Lists.{lt_or_ge}
use Rattle.theory.proofs.Encode.{encode-nil}
use Rattle.theory.proofs.Table.{last-at, code_at_last_code}
use Rattle.tables.specs.Tables.{PairTables, with_prefixes}
use Rattle.built_tables.specs.Built.{Built, dictionary_of}
use Rattle.built_tables.proofs.Rows.{octets, lawful-is, known}
use Rattle.end_code.specs.Tables.{RowReady, RowsTo, PartsInForm}
use Rattle.end_code.specs.Codes.{CodesTo, CodeReady, CodeIs}
use Rattle.end_code.proofs.Sizes.{at_set, row-some}
use Rattle.limited_count.specs.Stops.{in_a_row, ManyReady, ManyCodes, ManyIs}

module _ (many count limit : ℕ) where
  pub in_a_row_none : count < limit → in_a_row many count limit ≡ 0
  unfolding in_a_row
  in_a_row_none h = rw (lt-ltb count limit h, in_a_row)

  pub in_a_row_more : limit ≤ count → in_a_row many count limit ≡ suc many
  unfolding in_a_row
  in_a_row_more h = rw (le-ltb count limit h, in_a_row)

module _ (P : PairTables) (n : ℕ) (text : List ℕ) (limit : ℕ) where
  open P use {file, places}

  abbrev D : Dictionary
  D = dictionary_of file

  -- the codes up to each of the first i places are counted, the last `many` of them `limit` or more
  pub record Counting (i many : ℕ) (codes counts : List ℕ) : Type 0 where
    pub is_in_form : PartsInForm P n
    pub fits : length text ≤ 512
    pub within : i ≤ length text
    pub codes_size : length codes ≡ 512
    pub room : length text < length counts
    pub rows : RowsTo n codes i
    pub small : (j : ℕ) → j ≤ i → get_or counts j 0 ≤ j
    pub few : many ≤ i
    pub codes_are : (prefixes : List ℕ) → Built (with_prefixes P prefixes) n → CodesTo file append text codes i
    pub counts_are : (prefixes : List ℕ) → Built (with_prefixes P prefixes) n
        → (j : ℕ) → j ≤ i → get_or counts j 0 ≡ length (encode D (take j text))
    pub many_are : (prefixes : List ℕ) → Built (with_prefixes P prefixes) n → ManyCodes file text limit i many

  pub counting-start : (codes counts : List ℕ) → ManyReady P n text → length codes ≡ 512 → length text < length counts
      → get_or counts 0 0 ≡ 0 → Counting 0 0 codes counts
  counting-start codes counts R room more z = record {
    is_in_form = R.is_in_form;
    fits = R.few;
    within = omega arith;
    codes_size = room;
    room = more;
    rows = λ j h. absurd (omega arith);
    small = λ j h. let e : j ≡ 0 = omega arith in rw (e, z) (omega arith);
    few = omega arith;
    codes_are = λ prefixes B j h. absurd (omega arith);
    counts_are = λ prefixes B j h.
        let e : j ≡ 0 = omega arith in
        rw (e, z) (sym (ap length (encode-nil D (lawful-is (with_prefixes P prefixes) n B))));
    many_are = λ prefixes B q h l. absurd (omega arith);
  }

  module _ (i many : ℕ) (codes counts : List ℕ) (C : Counting i many codes counts) where
    -- 64 places in a row
    pub counting-many : many ≡ 64 → ManyIs P n text limit true
    counting-many e = record {
      many = λ _ prefixes B. record { at = i; inside = C.within; codes = rw e at (C.many_are prefixes B) };
    }

    pub counting-ready : i < length text → CodeReady P n text i codes
    counting-ready h = record {
      is_in_form = C.is_in_form;
      inside = h;
      before = record { room = omega (arith, C.codes_size, C.fits); rows = C.rows };
    }

    module _ (h : i < length text) (code : ℕ) (K : CodeIs P append n text i codes code) where
      pub code-ready : RowReady file places n code
      code-ready = record { places_ready = C.is_in_form.places_ready; row = K.row }

      module _ (before : ℕ) (b : before ≡ i + 1 - length (D.bytes code)) where
        pub before-inside : before ≤ i
        before-inside = omega (arith, row-some file places n code code-ready)

        pub before_small : get_or counts before 0 ≤ before
        before_small = C.small before before-inside

        module _ (bytes : (j : ℕ) → get_or text j 0 < 256) (count : ℕ) (k : count ≡ get_or counts before 0 + 1) where
          -- one code more than before the last one
          count_is : (prefixes : List ℕ) → Built (with_prefixes P prefixes) n → count ≡ length (encode D (take (i + 1) text))
          count_is prefixes B =
              let T = with_prefixes P prefixes in
              let own : code ≡ last_code D (take (suc i) text) =
              K.built prefixes B (C.codes_are prefixes B) ∙ code_at_last_code D text i in
              let r = last-at D (lawful-is T n B) text (known T n B text (octets text bytes)) i h in
              let e : suc i - length (D.bytes (last_code D (take (suc i) text))) ≡ before =
              ap (λ (c : ℕ). suc i - length (D.bytes c)) (sym own) ∙ omega (arith, b) in
              let d = C.counts_are prefixes B before before-inside in
              rw add-one
              (k ∙ omega (
                arith,
                d,
                ap (λ (p : ℕ). length (encode D (take p text))) e,
                ap length r.codes,
                length-append (encode D (take (suc i - length (D.bytes (last_code D (take (suc i) text)))) text)) (last_code D (take (suc i) text) ∷ []),
              ))

          -- each code, and each count, up to the one that is written
          each-code : (Q : ℕ → ℕ → Type 0) → ((j : ℕ) → j < i → Q j (get_or codes j 0)) → Q i code
              → (j : ℕ) → j < i + 1 → Q j (get_or (set codes i code) j 0)
          each-code Q = at_set Q codes i code (i + 1) (omega (arith, C.codes_size, C.fits)) (add-one i)

          each : (Q : ℕ → ℕ → Type 0) → ((j : ℕ) → j ≤ i → Q j (get_or counts j 0)) → Q (i + 1) count
              → (j : ℕ) → j ≤ i + 1 → Q j (get_or (set counts (i + 1) count) j 0)
          each Q below here j l =
              at_set Q counts (i + 1) count (suc (i + 1)) (omega (arith, C.room)) refl (λ k m. below k (omega arith)) here j (omega arith)

          pub counting_more : (many' : ℕ) → many' ≡ in_a_row many count limit
              → Counting (i + 1) many' (set codes i code) (set counts (i + 1) count)
          counting_more many' m = ⊎_elim
              (λ l. let z : many' ≡ 0 = m ∙ in_a_row_none many count limit l in
              with_many (omega arith) (λ prefixes B q u v. absurd (omega arith)))
              (λ l. let z : many' ≡ suc many = m ∙ in_a_row_more many count limit l in
              with_many (omega (arith, C.few)) (λ prefixes B q u v. ⊎_elim
              (λ e. omega (arith, ap (λ (p : ℕ). length (encode D (take p text))) e, count_is prefixes B))
              (λ w. C.many_are prefixes B q (omega arith) (omega arith))
              (eq-or-lt_of_le u)))
              (lt_or_ge count limit)
            where
              with_many : many' ≤ i + 1 → ((prefixes : List ℕ) → Built (with_prefixes P prefixes) n → ManyCodes file text limit (i + 1) many')
                  → Counting (i + 1) many' (set codes i code) (set counts (i + 1) count)
              with_many few are = record {
                is_in_form = C.is_in_form;
                fits = C.fits;
                within = omega arith;
                codes_size = length-set codes i code ∙ C.codes_size;
                rows = each-code (λ j c. c < n) C.rows K.row;
                room = omega (arith, C.room, length-set counts (i + 1) count);
                small = each (λ j v. v ≤ j) C.small (omega (arith, before_small, before-inside));
                few = few;
                codes_are = λ prefixes B.
                    each-code (λ j c. c ≡ code_at D append text j) (C.codes_are prefixes B) (K.built prefixes B (C.codes_are prefixes B));
                counts_are = λ prefixes B.
                    each (λ j v. v ≡ length (encode D (take j text))) (C.counts_are prefixes B) (count_is prefixes B);
                many_are = are;
              }
