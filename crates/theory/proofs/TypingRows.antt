-- The row of a typing record by its index: exactly one row ends the bytes up to it and follows the code before, it is the code of the merge
-- procedure, and it gives the count.
use mathlib.Core.Path.{◌≡◌, sym, ap, ◌∙◌}
use mathlib.Core.Logic.{◌↔◌, ◌⊎◌, inl, inr, ⊎_elim}
use mathlib.Core.List.{List, []}
use mathlib.Core.Bool.{true}
use Prim.Native.Nat.{ℕ, suc, ◌+◌, ◌-◌, ◌≤◌, ◌<◌}
use native.Mathlib.Nat.{eq-or-lt_of_le}
use native.Mathlib.Omega.{arith}
use lib.ListN.{length, take, drop, length-append, take-append-drop}
use lib.Seq.{length-take-le, take-take}
use Rattle.theory.specs.Dictionary.{Dictionary, KnownText}
use Rattle.theory.specs.Merge.{encode}
use Rattle.theory.specs.Typing.{Side, in_order, code_at, count_at, passes_beside, Ends}
use Rattle.theory.proofs.TypingLists.{cut_left, cut_right}
use Rattle.theory.proofs.PairCheck.{Lawful}
use Rattle.theory.proofs.Encode.{encode-nil}
use Rattle.theory.proofs.RowsAt.{filled}
use Rattle.theory.proofs.Sides.{with_code, length_with, end-code, one_end, codes_with_lem, in_order-nil, length-in_order, known-take}

module _ (D : Dictionary) (side : Side) where
  -- a row that ends the first i + 1 typed bytes, and reaches the first byte or passes with the code of the record just before its bytes
  pub record EndsAt (s : List ℕ) (code : ℕ → ℕ) (i c : ℕ) : Type 0 where
    pub row : c < D.count
    pub fits : length (D.bytes c) ≤ suc i
    pub ends : drop (suc i - length (D.bytes c)) (take (suc i) s) ≡ in_order side (D.bytes c)
    pub follows : (length (D.bytes c) ≡ suc i) ⊎ ((length (D.bytes c) < suc i) × (passes_beside D side (code (i - length (D.bytes c))) c ≡ true))

  -- the count of a record with that row: 1 if the row reaches the first byte, else one more than that of the record just before its bytes
  pub record CountedAt (count : ℕ → ℕ) (i c k : ℕ) : Type 0 where
    pub reaching : length (D.bytes c) ≡ suc i → k ≡ 1
    pub behind : length (D.bytes c) < suc i → k ≡ suc (count (i - length (D.bytes c)))

  module _ (A : Lawful D) (s : List ℕ) (known : KnownText D s) where
    -- a row is held against the codes before it alone
    same_codes : (code code' : ℕ → ℕ) (i c : ℕ) → ((j : ℕ) → j < i → code j ≡ code' j) → EndsAt s code i c → EndsAt s code' i c
    same_codes code code' i c agree e = record {
      row = e.row;
      fits = e.fits;
      ends = e.ends;
      follows = ⊎_elim inl (λ f. inr (f.0, (rw (agree (i - length (D.bytes c)) (omega (arith, filled D A c, f.0))) at f).1)) e.follows;
    }

    module _ (i : ℕ) (h : i < length s) where
      -- the bytes up to record i
      abbrev up_to : List ℕ
      up_to = take (suc i) s

      up_to_length : length up_to ≡ suc i
      up_to_length = length-take-le (suc i) s h

      -- the bytes before a row
      abbrev before : ℕ → List ℕ
      before c = take (suc i - length (D.bytes c)) s

      before-none : (c : ℕ) → length (D.bytes c) ≡ suc i → before c ≡ []
      before-none c e = let z : suc i - length (D.bytes c) ≡ 0 = omega arith in rw z

      before-some : (c : ℕ) → length (D.bytes c) < suc i → before c ≡ take (suc (i - length (D.bytes c))) s
      before-some c l = let z : suc i - length (D.bytes c) ≡ suc (i - length (D.bytes c)) = omega arith in rw z

      before-cut : (c : ℕ) → take (suc i - length (D.bytes c)) up_to ≡ before c
      before-cut c = take-take (suc i - length (D.bytes c)) (suc i) s (omega arith)

      to-ends : (c : ℕ) → EndsAt s (code_at D side s) i c → Ends D side up_to c
      unfolding code_at
      to-ends c e = record {
        before = before c;
        row = e.row;
        text = sym (take-append-drop (suc i - length (D.bytes c)) up_to) ∙ (rw (before-cut c, e.ends));
        follows = ⊎_elim (λ f. inl (before-none c f)) (λ f. inr (rw (before-some c f.0) f.1)) e.follows;
      }

      of_ends : (c : ℕ) → Ends D side up_to c → EndsAt s (code_at D side s) i c
      unfolding code_at
      of_ends c e = record {
        row = e.row;
        fits = fits;
        ends = (rw (up_to_length, length-in_order side (D.bytes c)) at (cut_right up_to e.before (in_order side (D.bytes c)) e.text));
        follows = ⊎_elim inl (λ l. inr (l, beside l)) (eq-or-lt_of_le fits);
      }
        where
          lengths : length e.before + length (D.bytes c) ≡ suc i
          lengths = omega (arith, up_to_length, ap (length {A = ℕ}) e.text, length-append e.before (in_order side (D.bytes c)), length-in_order side (D.bytes c))

          fits : length (D.bytes c) ≤ suc i
          fits = omega (arith, lengths)

          before-is : e.before ≡ before c
          before-is = sym (rw (up_to_length, length-in_order side (D.bytes c)) at (cut_left up_to e.before (in_order side (D.bytes c)) e.text)) ∙ before-cut c

          beside : length (D.bytes c) < suc i → passes_beside D side (code_at D side s (i - length (D.bytes c))) c ≡ true
          beside l = ⊎_elim (λ z. absurd (omega (arith, lengths, ap (length {A = ℕ}) z))) (λ q. rw (← before-some c l, ← before-is) q) e.follows

      -- exactly one row ends the bytes up to record i and follows the codes before it, and it is the code of the merge procedure
      pub one-row : (code : ℕ → ℕ) (c : ℕ) → ((j : ℕ) → j < i → code j ≡ code_at D side s j) → EndsAt s code i c ↔ (c ≡ code_at D side s i)
      unfolding code_at
      one-row code c agree = (λ e. one_end D A side up_to c (known-take D (suc i) s known) (to-ends c (same_codes code (code_at D side s) i c agree e)), λ e. rw e there)
        where
          some : up_to ≡ [] → ⊥
          some z = omega (arith, up_to_length, ap (length {A = ℕ}) z)

          there : EndsAt s code i (code_at D side s i)
          there = same_codes (code_at D side s) code i (code_at D side s i) (λ j l. sym (agree j l)) (of_ends (code_at D side s i) (end-code D A side up_to (known-take D (suc i) s known) some))

      -- the codes up to record i are those of the bytes before the row, and the row
      pub codes_at : (code : ℕ → ℕ) (c : ℕ) → ((j : ℕ) → j < i → code j ≡ code_at D side s j) → EndsAt s code i c
          → encode D (in_order side (take (suc i) s)) ≡ with_code side (encode D (in_order side (take (suc i - length (D.bytes c)) s))) c
      unfolding to-ends
      codes_at code c agree e = codes_with_lem D A side up_to c (known-take D (suc i) s known) (to-ends c (same_codes code (code_at D side s) i c agree e))

      -- the count with the one row is the number of codes of the merge procedure
      pub one-count : (code count : ℕ → ℕ) (c k : ℕ) → ((j : ℕ) → j < i → code j ≡ code_at D side s j) → ((j : ℕ) → j < i → count j ≡ count_at D side s j)
          → EndsAt s code i c → CountedAt count i c k ↔ (k ≡ count_at D side s i)
      unfolding count_at
      one-count code count c k codes counts e = (
        λ f. ⊎_elim (λ g. f.reaching g ∙ sym (reaching g)) (λ l. f.behind l ∙ sym (behind l)) (eq-or-lt_of_le e.fits),
        λ f. record { reaching = λ g. f ∙ reaching g; behind = λ l. f ∙ behind l },
      )
        where
          counted : count_at D side s i ≡ suc (length (encode D (in_order side (before c))))
          counted = ap (length {A = ℕ}) (codes_at code c codes e) ∙ length_with side (encode D (in_order side (before c))) c

          reaching : length (D.bytes c) ≡ suc i → count_at D side s i ≡ 1
          reaching g = counted ∙ (rw (before-none c g, in_order-nil side, encode-nil D A))

          behind : length (D.bytes c) < suc i → count_at D side s i ≡ suc (count (i - length (D.bytes c)))
          behind l = counted ∙ (rw (before-some c l) (ap suc (sym (counts (i - length (D.bytes c)) (omega (arith, filled D A c))))))
