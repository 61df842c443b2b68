-- The first code that is not below n. Assumes nothing.
use mathlib.Core.Path.{◌≡◌, refl, sym, ap, ◌∙◌}
use mathlib.Core.Logic.{⊎_elim}
use mathlib.Core.List.{List, [], ◌∷◌}
use mathlib.Core.Bool.{Bool, true, false, cond}
use Prim.Native.Nat.{ℕ, zero, suc, ◌+◌, ◌≤◌, ◌<◌}
use native.Mathlib.Omega.{arith}
use lib.ListN.{length, get_or}
use lib.Dec.{ltb}
use borrow.Author.Tests.{ltb-true, ltb-false, lt-ltb, le-ltb}
use Rattle.std.specs.Prelude.{Option, None, Some, nat_lt, nat_le, position}
use Rattle.std.specs.List.{position_or_len}
use Rattle.std.proofs.lemmas.Bool.{lt-leb, le-leb}
use Rattle.std.proofs.lemmas.List.Recursion.{is_position_or_len}
use Rattle.theory.proofs.Lists.{lt_or_ge}
use Rattle.theory.specs.Dictionary.{Dictionary, AllRows}
use Rattle.causes.specs.Order.{first_unknown}
use Rattle.causes.proofs.Unknown.{unknown-first, unknown-behind, unknown-none}

module _ (n : ℕ) where
  -- what holds of it
  pub record UnknownIs (codes : List ℕ) : Type 0 where
    pub within : first_unknown n codes ≤ length codes
    pub before : (i : ℕ) → i < first_unknown n codes → get_or codes i 0 < n
    pub there : first_unknown n codes < length codes → n ≤ get_or codes (first_unknown n codes) 0

  pub unknown-is : (codes : List ℕ) → UnknownIs codes
  unfolding first_unknown
  unknown-is [] = record { within = omega arith; before = λ i h. absurd (omega arith); there = λ h. absurd (omega arith) }
  unknown-is (c ∷ codes) = go (ltb c n) refl (unknown-is codes)
    where
      go : (b : Bool) → ltb c n ≡ b → UnknownIs codes → UnknownIs (c ∷ codes)
      go true e f =
          let q = unknown-behind n c codes (ltb-true c n e) in
          record {
            within = omega (arith, f.within);
            before = λ i h. below i (rw q at h);
            there = λ h. rw q (f.there (omega arith));
          }
        where
          below : (i : ℕ) → i < suc (first_unknown n codes) → get_or (c ∷ codes) i 0 < n
          below zero h = ltb-true c n e
          below (suc i) h = f.before i (omega arith)
      go false e f =
          let q = unknown-first n c codes (ltb-false c n e) in
          record {
            within = omega arith;
            before = λ i h. absurd (omega arith);
            there = λ h. rw q (ltb-false c n e);
          }

  -- where there is none, all codes are below n, and back
  pub all_known : (codes : List ℕ) → length codes ≤ first_unknown n codes → (i : ℕ) → i < length codes → get_or codes i 0 < n
  all_known codes h i l = (unknown-is codes).before i (omega arith)

  pub known-all : (codes : List ℕ) → ((i : ℕ) → i < length codes → get_or codes i 0 < n) → first_unknown n codes ≡ length codes
  unfolding first_unknown
  known-all [] h = refl
  known-all (c ∷ codes) h = unknown-behind n c codes (h 0 (omega arith)) ∙ ap suc (known-all codes (λ i l. h (suc i) (omega arith)))

  -- the search by std's `position`
  position_is : (codes : List ℕ) → first_unknown n codes ≡ position_or_len (nat_le n) codes
  position_is = is_position_or_len (first_unknown n) (nat_le n) (unknown-none n) step
    where
      step : (c : ℕ) (codes : List ℕ) → first_unknown n (c ∷ codes) ≡ cond (nat_le n c) 0 (1 + first_unknown n codes)
      step c codes = ⊎_elim
          (λ h. unknown-behind n c codes h ∙ rw (lt-leb n c h) (omega arith))
          (λ h. unknown-first n c codes h ∙ rw (le-leb n c h) refl)
          (lt_or_ge c n)

  -- an index below the length is given, and no other
  given_below : (i m j : ℕ) → cond (nat_lt i m) (Some i) None ≡ Some j → (j ≡ i) × (i < m)
  given_below i m j e = ⊎_elim
      (λ h. let f : ◌≡◌ {A = Option ℕ} (Some i) (Some j) = rw (lt-ltb i m h) at e in let g : j ≡ i = cc in (g, h))
      (λ h. absurd (let f : ◌≡◌ {A = Option ℕ} None (Some j) = rw (le-ltb i m h) at e in let z : ◌≡◌ {A = ℕ} 0 1 = cc in omega arith))
      (lt_or_ge i m)

  given_nowhere : (i m : ℕ) → cond (nat_lt i m) (Some i) None ≡ None → m ≤ i
  given_nowhere i m e = ⊎_elim
      (λ h. absurd (let f : ◌≡◌ {A = Option ℕ} (Some i) None = rw (lt-ltb i m h) at e in let z : ◌≡◌ {A = ℕ} 0 1 = cc in omega arith))
      (λ h. h)
      (lt_or_ge i m)

  pub unknown_at : (codes : List ℕ) (i : ℕ) → position (nat_le n) codes ≡ Some i → (i ≡ first_unknown n codes) × (first_unknown n codes < length codes)
  unknown_at codes i e =
      let k = position_is codes in
      let g = given_below (position_or_len (nat_le n) codes) (length codes) i e in
      (g.0 ∙ sym k, rw k g.1)

  pub unknown_nowhere : (codes : List ℕ) → position (nat_le n) codes ≡ None → length codes ≤ first_unknown n codes
  unknown_nowhere codes e = rw (position_is codes) (given_nowhere (position_or_len (nat_le n) codes) (length codes) e)

-- the rows of a code list, one by one
pub all_rows_are : (D : Dictionary) (codes : List ℕ) → AllRows D codes → (i : ℕ) → i < length codes → get_or codes i 0 < D.count
all_rows_are D [] a i h = absurd (omega arith)
all_rows_are D (c ∷ codes) a zero h = a.0
all_rows_are D (c ∷ codes) a (suc i) h = all_rows_are D codes a.1 i (omega arith)
