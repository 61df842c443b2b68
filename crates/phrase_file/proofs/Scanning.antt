-- One pass over a phrase file: what is known before each record, from the first to where the records end. Assumes nothing.
use mathlib.Core.Path.{◌≡◌, refl, sym, ap, ◌∙◌}
use mathlib.Core.List.{List}
use mathlib.Core.Bool.{Bool, true, false}
use Prim.Native.Nat.{ℕ, ◌+◌, ◌<◌, ◌≤◌}
use native.Mathlib.Omega.{arith}
use lib.ListN.{length, get_or, set, replicate, length-replicate, length-set}
use Rattle.phrase_file.specs.Form.{places_from, places, rows, end_after, records_end}
use Rattle.phrase_file.specs.Checks.{has_byte, first_not, missing_byte}
use Rattle.phrase_file.specs.Post.{Scanned}
use Rattle.phrase_file.proofs.Places.{NoRow, Row}
use Rattle.phrase_file.proofs.Rows.{rows-count}
use Rattle.phrase_file.proofs.Bytes.{Seen, seen_start, seen_done, seen_skip, seen-mark, first-same}

-- n records were passed, the next is looked for at an offset, and the one-byte rows passed are marked in seen
pub record Scanning (file : List ℕ) (seen : List Bool) (at n : ℕ) : Type 0 where
  pub inside : at ≤ length file
  pub few : n ≤ at
  pub count : n + length (places_from file at) ≡ length (rows file)
  pub ends : end_after file at (places_from file at) ≡ records_end file
  pub size : length seen ≡ 256
  pub marks : Seen file seen at

pub scan_start : (file : List ℕ) → Scanning file (replicate 256 false) 0 0
unfolding places records_end
scan_start file =
    record {
      inside = omega arith;
      few = omega arith;
      count = omega (arith, rows-count file);
      ends = refl;
      size = length-replicate 256 false;
      marks = seen_start file;
    }

module _ (file : List ℕ) (seen : List Bool) (at n : ℕ) (s : Scanning file seen at n) where
  pub scan_done : NoRow file at → Scanned file n at seen
  scan_done none =
      record {
        count = omega (arith, s.count, ap length none.places_are);
        ends = sym none.end_is ∙ s.ends;
        marks = seen_done file seen at none s.marks;
      }

  module _ (m : ℕ) (r : Row file at m) where
    -- the record is passed, whatever was marked
    passed : (marked : List Bool) → length marked ≡ 256 → Seen file marked (at + 3 + m) → Scanning file marked (at + 3 + m) (n + 1)
    passed marked l h =
        record {
          inside = r.inside;
          few = omega (arith, s.few);
          count = omega (arith, s.count, ap length r.places_are);
          ends = sym r.end_is ∙ s.ends;
          size = l;
          marks = h;
        }

    pub scan_skip : (m ≡ 1 → ⊥) → Scanning file seen (at + 3 + m) (n + 1)
    scan_skip longer = passed seen s.size (seen_skip file seen at m r s.marks longer)

    pub scan_mark : (byte : ℕ) → m ≡ 1 → byte ≡ get_or file (at + 3) 0 → byte < 256 → Scanning file (set seen byte true) (at + 3 + m) (n + 1)
    scan_mark byte one e l =
        passed (set seen byte true) (length-set seen byte true ∙ s.size)
        (rw e (seen-mark file seen at m r s.marks one (omega (arith, s.size))))

-- the lowest byte value that is not marked has no row, and each below it has one
pub missing_is : (file : List ℕ) (n end : ℕ) (seen : List Bool) → Scanned file n end seen → first_not 256 (λ (b : ℕ). get_or seen b false) 0 ≡ missing_byte file
unfolding missing_byte
missing_is file n end seen s = first-same (λ (b : ℕ). get_or seen b false) (has_byte (rows file)) 256 0 (λ b l. s.marks b (omega arith))
