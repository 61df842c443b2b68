-- The cases of the checks of a file, and what an accepted file is. Assumes nothing.
use mathlib.Core.Path.{◌≡◌, refl, sym, ◌∙◌}
use mathlib.Core.Option.{none, some}
use mathlib.Core.List.{List, [], ◌∷◌}
use mathlib.Core.Bool.{Bool, cond}
use Prim.Native.Nat.{ℕ, ◌<◌, ◌≤◌}
use native.Mathlib.Omega.{arith}
use lib.ListN.{length}
use lib.Dec.{ltb}
use borrow.Author.Tests.{lt-ltb, le-ltb}
use Rattle.std.specs.Prelude.{Ok, Err}
use Rattle.causes.specs.declared.Cause.TheVariants.{BadRecord, RowCount, MissingByte}
use Rattle.causes.specs.Call.{saying}
use Rattle.causes.proofs.Calls.{ok_err, ok_same}
use Rattle.phrase_file.specs.Form.{places, rows, records_end}
use Rattle.phrase_file.specs.Checks.{has_byte, missing_byte, check_of}
use Rattle.phrase_file.specs.Post.{Scanned}
use Rattle.phrase_file.proofs.Rows.{rows-count, end-inside}
use Rattle.phrase_file.proofs.Bytes.{HasRow, has-row, first-none}

pub check-long : (file : List ℕ) → 65536 < length file → Err (BadRecord 65536) ≡ check_of file
unfolding check_of
check-long file h = rw (lt-ltb 65536 (length file) h)

module _ (file : List ℕ) (n end : ℕ) (short : length file ≤ 65536) (ends : end ≡ records_end file) (count : n ≡ length (rows file)) where
  pub check_bad : end < length file → Err (BadRecord end) ≡ check_of file
  unfolding check_of
  check_bad h = rw (le-ltb 65536 (length file) short, ← ends, lt-ltb end (length file) h)

  module _ (whole : length file ≤ end) where
    pub check-few : n < 256 → Err (RowCount n) ≡ check_of file
    unfolding check_of
    check-few h = rw (le-ltb 65536 (length file) short, ← ends, le-ltb end (length file) whole, ← count, lt-ltb n 256 h)

    pub check-many : 4096 < n → Err (RowCount n) ≡ check_of file
    unfolding check_of
    check-many h =
        rw (le-ltb 65536 (length file) short, ← ends, le-ltb end (length file) whole, ← count, le-ltb n 256 (omega arith), lt-ltb 4096 n h)

-- what a file with n rows is that passes 2 and 3
pub record Counted (file : List ℕ) (n : ℕ) : Type 0 where
  pub short : length file ≤ 65536
  pub whole : length file ≤ records_end file
  pub count : n ≡ length (rows file)
  pub least : 256 ≤ n
  pub most : n ≤ 4096

pub counted : (file : List ℕ) (n end : ℕ) (seen : List Bool) → length file ≤ 65536 → Scanned file n end seen → length file ≤ end → 256 ≤ n → n ≤ 4096 → Counted file n
counted file n end seen short s whole least most = record {
  short = short;
  whole = omega (arith, s.ends);
  count = s.count;
  least = least;
  most = most;
}

module _ (file : List ℕ) (n : ℕ) (c : Counted file n) where
  -- then only the missing byte decides
  passed : check_of file ≡ saying (cond (ltb (missing_byte file) 256) (some (MissingByte (missing_byte file))) none) n
  unfolding check_of
  passed =
      rw
      (le-ltb 65536 (length file) c.short, le-ltb (records_end file) (length file) c.whole, ← c.count, le-ltb n 256 c.least, le-ltb 4096 n c.most)

  module _ (b : ℕ) (missing : b ≡ missing_byte file) where
    pub check_missing : b < 256 → Err (MissingByte b) ≡ check_of file
    check_missing h = rw (passed, ← missing, lt-ltb b 256 h)

    pub check-rows : 256 ≤ b → Ok n ≡ check_of file
    check-rows h = rw (passed, ← missing, le-ltb b 256 h)

-- what a file with n rows is that passes 2 to 4
pub record Accepted (file : List ℕ) (n : ℕ) : Type 0 where
  pub short : length file ≤ 65536
  pub whole : records_end file ≡ length file
  pub count : n ≡ length (rows file)
  pub count_places : n ≡ length (places file)
  pub least : 256 ≤ n
  pub most : n ≤ 4096
  pub byte_row : (b : ℕ) → b < 256 → HasRow (rows file) (b ∷ [])

pub accepted : (file : List ℕ) (n : ℕ) → check_of file ≡ Ok n → Accepted file n
unfolding missing_byte
accepted file n q =
    let k = length (rows file) in
    let end = records_end file in
    let b = missing_byte file in
    let not-long : 65536 < length file → ⊥ = λ h. ok_err (sym q ∙ sym (check-long file h)) in
    let short : length file ≤ 65536 = omega arith in
    let not-bad : end < length file → ⊥ = λ h. ok_err (sym q ∙ sym (check_bad file k end short refl refl h)) in
    let whole : length file ≤ end = omega arith in
    let not-few : k < 256 → ⊥ = λ h. ok_err (sym q ∙ sym (check-few file k end short refl refl whole h)) in
    let not-many : 4096 < k → ⊥ = λ h. ok_err (sym q ∙ sym (check-many file k end short refl refl whole h)) in
    let c : Counted file k = record { short = short; whole = whole; count = refl; least = omega arith; most = omega arith } in
    let not-missing : b < 256 → ⊥ = λ h. ok_err (sym q ∙ sym (check_missing file k c b refl h)) in
    let all : 256 ≤ b = omega arith in
    let e : n ≡ k = ok_same (sym q ∙ sym (check-rows file k c b refl all)) in
    record {
      short = short;
      whole = omega (arith, end-inside file);
      count = e;
      count_places = e ∙ rows-count file;
      least = omega arith;
      most = omega arith;
      byte_row = λ j l. has-row (rows file) j (first-none (has_byte (rows file)) 256 0 all j (omega arith) (omega arith));
    }
