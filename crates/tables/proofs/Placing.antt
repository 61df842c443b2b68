-- The rows of a file that passes 2 to 4, once their places are in a table. Assumes nothing.
use mathlib.Core.Path.{◌≡◌, sym, ap, ◌∙◌}
use mathlib.Core.List.{List}
use Prim.Native.Nat.{ℕ, ◌<◌}
use native.Mathlib.Omega.{arith}
use lib.ListN.{length, length-take, get_or, take}
use lib.Seq.{get_or-take}
use borrow.Author.Tests.{lt-ltb}
use Rattle.std.specs.Prelude.{Ok}
use Rattle.phrase_file.specs.Form.{places}
use Rattle.phrase_file.specs.Checks.{check_of}
use Rattle.phrase_file.proofs.Checks.{Accepted, accepted}
use Rattle.phrase_file.proofs.Rows.{RowIs, row_is}
use Rattle.placed_rows.specs.Rows.{row}
use Rattle.tables.specs.Ready.{PlacesReady}

module _ (file table : List ℕ) (n : ℕ) (passed : check_of file ≡ Ok n) (written : take n table ≡ places file) where
  checked : Accepted file n
  checked = accepted file n passed

  place_is : (c : ℕ) → c < n → get_or table c 0 ≡ get_or (places file) c 0
  place_is c h = sym (get_or-take n table c 0 h) ∙ ap (λ (l : List ℕ). get_or l c 0) written

  file-row : (c : ℕ) → c < n → RowIs file c
  file-row c h = row_is file c (omega (arith, checked.count))

  pub places_ready : PlacesReady file table n
  unfolding row
  places_ready = record {
    count = checked.count;
    least = checked.least;
    placed = record {
      few = checked.most;
      places_fit = omega (arith, ap length written, length-take n table, checked.count_places);
      inside = λ c h. let r = file-row c h in rw (place_is c h) (omega (arith, r.inside, r.size));
    };
    rows_are = λ c h. rw (lt-ltb c n h, row, place_is c h) (sym (file-row c h).bytes);
    filled = λ c h. (file-row c h).some;
    short = λ c h. (file-row c h).most;
  }
