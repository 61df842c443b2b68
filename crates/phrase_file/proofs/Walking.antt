-- A walk along the records gives their places, in order. Assumes nothing.
use mathlib.Core.Path.{◌≡◌, refl, sym, ap, ◌∙◌}
use mathlib.Core.List.{List, [], ◌∷◌}
use Prim.Native.Nat.{ℕ, ◌+◌, ◌<◌}
use native.Mathlib.Omega.{arith}
use lib.ListN.{length, get_or}
use Rattle.std.specs.Borrow.{Bor}
use Rattle.std.proofs.lemmas.Iterator.{YieldsList}
use Rattle.std.proofs.lemmas.Iterator.Consumers.{YieldsList-from_shown}
use Rattle.phrase_file.specs.declared.FileRecords.{FileRecords}
use Rattle.phrase_file.specs.Form.{row_length, places_from, places}
use Rattle.phrase_file.specs.Walk.{places_left, Passes, Stops, Walks}
use Rattle.phrase_file.proofs.Records.{row-whole, length-byte}
use Rattle.phrase_file.proofs.Places.{Row, row-found, none_found}

-- fewer records are left behind one
pub passes_on : (file : List ℕ) (at m : ℕ) → Row file at m → length (places_from file (at + 3 + m)) < length (places_from file at)
passes_on file at m r = omega (arith, ap length r.places_are)

module _ (s t : FileRecords) where
  -- the record that is passed
  module _ (place : ℕ) (p : Passes s place t) where
    pub row_passed : Row s.file.now s.at (row_length s.file.now s.at)
    row_passed = row-found s.file.now s.at _ refl (λ e. omega (arith, p.some))

    pub left_behind : places_left s ≡ place ∷ places_left t
    left_behind = rw (p.here, p.on, p.file_kept) row_passed.places_are

  pub none-left : Stops s t → places_left s ≡ []
  none-left w = (none_found s.file.now s.at w.none).places_are

-- the list that it gives
pub walk-yields : (s : FileRecords) → YieldsList Walks (λ x. x) s (places_left s)
walk-yields = YieldsList-from_shown Walks (λ x. x) places_left (λ s t w. ap length (none-left s t w)) (λ s x t p. left_behind s t x p)

-- at the start all are left
pub all-left : (file : List ℕ) (s : FileRecords) → s.file.now ≡ file → s.at ≡ 0 → places_left s ≡ places file
unfolding places
all-left file s e f = rw (e, f)

-- a record of the file is passed
pub record Passed (file : List ℕ) (s : FileRecords) (place : ℕ) (t : FileRecords) : Type 0 where
  pub here : s.at ≡ place
  pub row : Row file place (get_or file (place + 2) 0)
  pub same : t.file.now ≡ file
  pub on : t.at ≡ place + 3 + get_or file (place + 2) 0

pub passed : (file : List ℕ) (s t : FileRecords) (place : ℕ) → s.file.now ≡ file → Passes s place t → Passed file s place t
passed file s t place e p =
    let r : Row file place (row_length file place) = rw (← e, p.here) (row_passed s t place p) in
    let size : get_or file (place + 2) 0 ≡ row_length file place = length-byte file place (row-whole file place (omega (arith, r.some))) in
    record {
      here = sym p.here;
      row = rw size r;
      same = ap (λ (b : Bor (List ℕ)). b.now) p.file_kept ∙ e;
      on = rw (size, ← e, p.here) p.on;
    }
