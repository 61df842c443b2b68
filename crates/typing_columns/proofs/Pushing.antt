-- One byte more, and bytes one after the other. Assumes nothing.
use mathlib.Core.Path.{◌≡◌, refl, sym, ap, ◌∙◌}
use mathlib.Core.Logic.{⊎_elim}
use mathlib.Core.List.{List, ◌++◌}
use Prim.Native.Nat.{ℕ, suc, ◌+◌, ◌-◌, ◌≤◌, ◌<◌}
use native.Mathlib.Nat.{eq-or-lt_of_le}
use native.Mathlib.Omega.{arith}
use lib.ListN.{length, length-append, length-set, get_or, set, take, get_or-append}
use lib.Seq.{length-take-le, get_or-take, get_or-set_same, get_or-set_other, get_or-append-add, ext_get_or}
use Rattle.theory.specs.Dictionary.{Dictionary}
use Rattle.theory.specs.Typing.{Side, code_at, count_at}
use Rattle.theory.proofs.Lists.{lt_or_ge}
use Rattle.theory.proofs.Typing.{code_at_append, code_at_take, count_at-append, count_at-take}
use Rattle.built_tables.specs.Built.{dictionary_of, Built}
use Rattle.end_code.specs.Tables.{RowsTo, PartsInForm}
use Rattle.end_code.proofs.Sizes.{at_set}
use Rattle.typing_columns.specs.Steps.{CountsTo, CodesAre, CountsAre, Pushed, ExtendReady, ExtendedBy}
use Rattle.tables.specs.Tables.{PairTables, with_prefixes}

module _ (P : PairTables) (side : Side) (n len : ℕ) (bytes₀ codes₀ counts₀ typed : List ℕ) where
  open P use {file}

  abbrev D : Dictionary
  D = dictionary_of file

  -- the bytes typed in the end
  abbrev s : List ℕ
  s = take len bytes₀ ++ typed

  -- k of the bytes are typed
  pub record Extending (k : ℕ) (bytes codes counts : List ℕ) : Type 0 where
    pub is_in_form : PartsInForm P n
    pub room : len + length typed ≤ 4096
    pub start_size : length bytes₀ ≡ 4096
    pub within : k ≤ length typed
    pub bytes_size : length bytes ≡ 4096
    pub codes_size : length codes ≡ 4096
    pub counts_size : length counts ≡ 4096
    pub rows : RowsTo n codes (len + k)
    pub small : CountsTo counts (len + k)
    pub bytes_kept : (j : ℕ) → j < len → get_or bytes j 0 ≡ get_or bytes₀ j 0
    pub codes_kept : (j : ℕ) → j < len → get_or codes j 0 ≡ get_or codes₀ j 0
    pub counts_kept : (j : ℕ) → j < len → get_or counts j 0 ≡ get_or counts₀ j 0
    pub bytes_are : (m : ℕ) → m < k → get_or bytes (len + m) 0 ≡ get_or typed m 0
    pub codes_are : (prefixes : List ℕ) → Built (with_prefixes P prefixes) n → CodesAre file side bytes₀ codes₀ len → CountsAre file side bytes₀ counts₀ len → CodesAre file side s codes (len + k)
    pub counts_are : (prefixes : List ℕ) → Built (with_prefixes P prefixes) n → CodesAre file side bytes₀ codes₀ len → CountsAre file side bytes₀ counts₀ len → CountsAre file side s counts (len + k)

  pub extending_start : ExtendReady P n len bytes₀ codes₀ counts₀ typed → Extending 0 bytes₀ codes₀ counts₀
  extending_start R =
      let z : len + 0 ≡ len = omega arith in
      let l : length (take len bytes₀) ≡ len = length-take-le len bytes₀ (omega (arith, R.bytes_size, R.room)) in
      record {
        is_in_form = R.is_in_form;
        room = R.room;
        start_size = R.bytes_size;
        within = omega arith;
        bytes_size = R.bytes_size;
        codes_size = R.codes_size;
        counts_size = R.counts_size;
        rows = λ j h. R.rows j (omega arith);
        small = λ j h. R.small j (omega arith);
        bytes_kept = λ j h. refl;
        codes_kept = λ j h. refl;
        counts_kept = λ j h. refl;
        bytes_are = λ m h. absurd (omega arith);
        codes_are = λ prefixes B c k j h. c j (omega arith) ∙ sym (code_at_append D side (take len bytes₀) typed j (omega arith) ∙ code_at_take D side bytes₀ len j (omega arith));
        counts_are = λ prefixes B c k j h. k j (omega arith) ∙ sym (count_at-append D side (take len bytes₀) typed j (omega arith) ∙ count_at-take D side bytes₀ len j (omega arith));
      }

  module _ (k : ℕ) (bytes codes counts : List ℕ) (E : Extending k bytes codes counts) where
    pub extending_end : length typed ≤ k → ExtendedBy P side n len bytes₀ codes₀ counts₀ typed bytes codes counts
    extending_end h = record {
      bytes_kept = E.bytes_kept;
      codes_kept = E.codes_kept;
      counts_kept = E.counts_kept;
      bytes_are = λ m l. E.bytes_are m (omega arith);
      rows = λ j l. E.rows j (omega arith);
      small = λ j l. E.small j (omega arith);
      built = λ prefixes B c d. (λ j l. E.codes_are prefixes B c d j (omega arith), λ j l. E.counts_are prefixes B c d j (omega arith));
    }

    module _ (h : k < length typed) where
      module _ (bytes' codes' counts' : List ℕ)
          (Q : Pushed P side n (len + k) (get_or typed k 0) bytes codes counts bytes' codes' counts') where
        abbrev i : ℕ
        i = len + k

        abbrev byte : ℕ
        byte = get_or typed k 0

        i-small : i < 4096
        i-small = omega (arith, E.room)

        front : length (take len bytes₀) ≡ len
        front = length-take-le len bytes₀ (omega (arith, E.start_size, E.room))

        -- the first i + 1 bytes are those of the text in the end
        bytes_same : (j : ℕ) → j < suc i → get_or (set bytes i byte) j 0 ≡ get_or s j 0
        bytes_same = at_set (λ j b. b ≡ get_or s j 0) bytes i byte (suc i) (omega (arith, E.bytes_size, i-small)) refl
            (λ j l. ⊎_elim
            (λ m. E.bytes_kept j m ∙ sym (get_or-append (take len bytes₀) typed 0 j (omega (arith, front)) ∙ get_or-take len bytes₀ j 0 m))
            (λ m. let z : j ≡ len + (j - len) = omega arith in ap (λ (x : ℕ). get_or bytes x 0) z ∙ E.bytes_are (j - len) (omega arith) ∙ sym (behind (j - len) j z))
            (lt_or_ge j len))
            (sym (behind k i refl))
          where
            behind : (m x : ℕ) → x ≡ len + m → get_or s x 0 ≡ get_or typed m 0
            behind m x e = let z : x ≡ length (take len bytes₀) + m = omega (arith, front) in ap (λ (y : ℕ). get_or s y 0) z ∙ get_or-append-add (take len bytes₀) typed m 0

        same : take (suc i) bytes' ≡ take (suc i) s
        same =
            let a : length (take (suc i) (set bytes i byte)) ≡ suc i = length-take-le (suc i) (set bytes i byte) (omega (arith, length-set bytes i byte, E.bytes_size, i-small)) in
            let b : length (take (suc i) s) ≡ suc i = length-take-le (suc i) s (omega (arith, length-append (take len bytes₀) typed, front)) in
            ap (take (suc i)) Q.bytes_are
            ∙ ext_get_or 0 (take (suc i) (set bytes i byte)) (take (suc i) s) (a ∙ sym b)
            (λ j l. get_or-take (suc i) (set bytes i byte) j 0 (omega arith) ∙ bytes_same j (omega arith) ∙ sym (get_or-take (suc i) s j 0 (omega arith)))

        code_same : (j : ℕ) → j < suc i → code_at D side bytes' j ≡ code_at D side s j
        code_same j l = sym (code_at_take D side bytes' (suc i) j l) ∙ ap (λ (x : List ℕ). code_at D side x j) same ∙ code_at_take D side s (suc i) j l

        count_same : (j : ℕ) → j < suc i → count_at D side bytes' j ≡ count_at D side s j
        count_same j l = sym (count_at-take D side bytes' (suc i) j l) ∙ ap (λ (x : List ℕ). count_at D side x j) same ∙ count_at-take D side s (suc i) j l

        more : len + (k + 1) ≡ suc i
        more = omega arith

        codes_fit : i < length codes
        codes_fit = omega (arith, E.codes_size, i-small)

        counts_fit : i < length counts
        counts_fit = omega (arith, E.counts_size, i-small)

        pub extending_more : Extending (k + 1) bytes' codes' counts'
        extending_more = record {
          is_in_form = E.is_in_form;
          room = E.room;
          start_size = E.start_size;
          within = omega arith;
          bytes_size = rw Q.bytes_are (length-set bytes i byte ∙ E.bytes_size);
          codes_size = ap length Q.codes_are ∙ length-set codes i Q.code ∙ E.codes_size;
          counts_size = ap length Q.counts_are ∙ length-set counts i Q.count ∙ E.counts_size;
          rows = rw Q.codes_are (at_set (λ j c. c < n) codes i Q.code (len + (k + 1)) codes_fit more E.rows Q.row);
          small = rw Q.counts_are (at_set (λ j c. c ≤ suc j) counts i Q.count (len + (k + 1)) counts_fit more E.small Q.small);
          bytes_kept = λ j l. rw Q.bytes_are (get_or-set_other bytes i j byte 0 (λ y. omega arith) ∙ E.bytes_kept j l);
          codes_kept = λ j l. rw Q.codes_are (get_or-set_other codes i j Q.code 0 (λ y. omega arith) ∙ E.codes_kept j l);
          counts_kept = λ j l. rw Q.counts_are (get_or-set_other counts i j Q.count 0 (λ y. omega arith) ∙ E.counts_kept j l);
          bytes_are = λ m l. rw Q.bytes_are (⊎_elim
              (λ e. let y : m ≡ k = omega arith in rw y (get_or-set_same bytes i byte 0 (omega (arith, E.bytes_size, i-small))))
              (λ b. get_or-set_other bytes i (len + m) byte 0 (λ y. omega arith) ∙ E.bytes_are m (omega arith))
              (eq-or-lt_of_le l));
          codes_are = λ prefixes B c d.
              rw Q.codes_are
              (at_set (λ j x. x ≡ code_at D side s j) codes i Q.code (len + (k + 1)) codes_fit more (E.codes_are prefixes B c d) (Q.code_is prefixes B (codes-before prefixes B c d) ∙ code_same i (omega arith)));
          counts_are = λ prefixes B c d.
              rw Q.counts_are
              (at_set (λ j x. x ≡ count_at D side s j) counts i Q.count (len + (k + 1)) counts_fit more (E.counts_are prefixes B c d)
              (Q.count_is prefixes B (codes-before prefixes B c d) (counts-before prefixes B c d) ∙ count_same i (omega arith)));
        }
          where
            codes-before : (prefixes : List ℕ) → Built (with_prefixes P prefixes) n → CodesAre file side bytes₀ codes₀ len → CountsAre file side bytes₀ counts₀ len → CodesAre file side bytes' codes i
            codes-before prefixes B c d j l = E.codes_are prefixes B c d j l ∙ sym (code_same j (omega arith))

            counts-before : (prefixes : List ℕ) → Built (with_prefixes P prefixes) n → CodesAre file side bytes₀ codes₀ len → CountsAre file side bytes₀ counts₀ len → CountsAre file side bytes' counts i
            counts-before prefixes B c d j l = E.counts_are prefixes B c d j l ∙ sym (count_same j (omega arith))
