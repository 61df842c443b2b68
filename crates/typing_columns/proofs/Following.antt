-- Whether a row follows the code before it, and the count that goes with it, case by case. Assumes nothing.
use mathlib.Core.Path.{◌≡◌, refl, sym}
use mathlib.Core.List.{List}
use mathlib.Core.Bool.{Bool, true, false, ◌||◌}
use Prim.Native.Nat.{ℕ, suc, ◌+◌, ◌-◌, ◌≤◌, ◌<◌}
use native.Mathlib.Omega.{arith}
use lib.ListN.{length, get_or}
use lib.Dec.{eqb}
use borrow.Author.Tests.{lt-ltb, le-ltb, ne_eqb}
use Rattle.theory.specs.Typing.{Side, passes_beside}
use Rattle.pair_check.specs.Pair.{PairIs}
use Rattle.built_tables.specs.Built.{dictionary_of}
use Rattle.built_tables.proofs.Rows.{pair_is}
use Rattle.end_code.proofs.Sizes.{row-some}
use Rattle.end_code.specs.declared.Side as Declared
use Rattle.end_code.specs.declared.Side.TheVariants.{Append, Prepend}
use Rattle.end_code.specs.Sides.{side_of}
use Rattle.typing_columns.specs.Steps.{follows_if, count_with, PairOf, BesideIs, FollowsReady, FollowsIs, CountReady, CountIs}
use Rattle.tables.specs.Tables.{PairTables, with_prefixes}

-- the order of the pair check
module _ (P : PairTables) (s : Declared.Side) (n before c : ℕ) (r : Bool) where
  pub beside-appended : s ≡ Append → PairIs P n n before c r → BesideIs P (side_of s) n before c r
  beside-appended e p = record { built = λ prefixes B. rw e (pair_is (with_prefixes P prefixes) n B before c r p) }

  pub beside-prepended : s ≡ Prepend → PairIs P n n c before r → BesideIs P (side_of s) n before c r
  beside-prepended e p = record { built = λ prefixes B. rw e (pair_is (with_prefixes P prefixes) n B c before r p) }

or-none : (a b : Bool) → b ≡ false → a ≡ a || b
or-none true b e = refl
or-none false b e = sym e

-- the record before a row
module _ (P : PairTables) (n : ℕ) (codes : List ℕ) (i c len : ℕ)
    (R : FollowsReady P n codes i c) (size : len ≡ length ((dictionary_of P.file).bytes c)) (h : len ≤ i) where
  open P use {file, places}

  pub follows-entry : i - len < i
  follows-entry = omega (arith, size, row-some file places n c (record { places_ready = R.is_in_form.places_ready; row = R.row }))

  pub follows_pair_of : PairOf P n (get_or codes (i - len) 0) c
  follows_pair_of = record { is_in_form = R.is_in_form; before_row = R.before.rows (i - len) follows-entry; row = R.row }

module _ (P : PairTables) (side : Side) (n : ℕ) (codes : List ℕ) (i c len : ℕ) (size : len ≡ length ((dictionary_of P.file).bytes c)) where
  open P use {file}

  -- the row reaches the first byte or is longer
  pub follows-whole : i < len → FollowsIs P side n codes i c (eqb len (i + 1))
  unfolding follows_if
  follows-whole h = record {
    passed = passes_beside (dictionary_of file) side (get_or codes (i - length ((dictionary_of file).bytes c)) 0) c;
    is =
        let z : i + 1 ≡ suc i = omega arith in
        rw (z, size) (or-none (eqb (length ((dictionary_of file).bytes c)) (suc i)) _ (rw (le-ltb (length ((dictionary_of file).bytes c)) (suc i) (omega arith))));
    built = λ prefixes B. refl;
  }

  pub follows-beside : len ≤ i → (r : Bool) → BesideIs P side n (get_or codes (i - len) 0) c r → FollowsIs P side n codes i c r
  unfolding follows_if
  follows-beside h r Q = record {
    passed = r;
    is = rw (ne_eqb (length ((dictionary_of file).bytes c)) (suc i) (λ e. omega arith), lt-ltb (length ((dictionary_of file).bytes c)) (suc i) (omega arith));
    built = λ prefixes B. rw (← size) (Q.built prefixes B);
  }

module _ (file places : List ℕ) (n : ℕ) (counts : List ℕ) (i c len : ℕ) (R : CountReady file places n counts i c) (size : len ≡ length ((dictionary_of file).bytes c)) where
  pub count-whole : i < len → CountIs file counts i c 1
  unfolding count_with
  count-whole h = record { is = rw (le-ltb (length ((dictionary_of file).bytes c)) (suc i) (omega arith)); small = omega arith }

  module _ (h : len ≤ i) where
    pub count-entry : i - len < i
    count-entry = omega (arith, size, row-some file places n c (record { places_ready = R.places_ready; row = R.row }))

    pub count-few : get_or counts (i - len) 0 ≤ i
    count-few = omega (arith, R.small (i - len) count-entry, count-entry)

    pub count-behind : CountIs file counts i c (get_or counts (i - len) 0 + 1)
    unfolding count_with
    count-behind =
        let z : get_or counts (i - len) 0 + 1 ≡ suc (get_or counts (i - len) 0) = omega arith in
        record { is = rw (z, size, lt-ltb (length ((dictionary_of file).bytes c)) (suc i) (omega arith)); small = omega (arith, count-few) }
