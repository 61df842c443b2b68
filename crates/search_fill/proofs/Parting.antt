-- The rows' part is written, and the rest of the area stays. Assumes nothing.
use mathlib.Core.Path.{◌≡◌, ◌∙◌}
use mathlib.Core.List.{List, ◌++◌}
use mathlib.Core.Bool.{Bool}
use Prim.Native.Nat.{ℕ, ◌≤◌}
use native.Mathlib.Omega.{arith}
use lib.ListN.{length, length-append, length-drop, drop}
use lib.Seq.{take_at, drop_at}
use Rattle.theory.specs.Dictionary.{none}
use Rattle.placed_rows.specs.Rows.{row}
use Rattle.placed_rows.proofs.Placing.{row-none}
use Rattle.forest.specs.Words.{In}
use Rattle.forest.specs.Growth.{cleared, Inserted}
use Rattle.forest.proofs.Emptying.{length-cleared, cleared-none}
use Rattle.search_area.specs.Area.{rows_part, Holds}
use Rattle.search_area.proofs.RowsPart.{front_length}
use Rattle.search_fill.specs.Steps.{emptied, RowIn}

module _ (area front : List ℕ) (A : 16384 ≤ length area) (f : length front ≡ 12544) where
  written-length : length (front ++ drop 12544 area) ≡ length area
  written-length = length-append front (drop 12544 area) ∙ omega (arith, length-drop 12544 area)

  written-beyond : drop 12544 (front ++ drop 12544 area) ≡ drop 12544 area
  written-beyond = drop_at front (drop 12544 area) 12544 f

  written-front : rows_part (front ++ drop 12544 area) ≡ front
  written-front = take_at front (drop 12544 area) 12544 f

-- it is emptied
pub emptied-is : (area front : List ℕ) → front ≡ cleared (rows_part area) → front ++ drop 12544 area ≡ emptied area
unfolding emptied
emptied-is area front e = λ i. e i ++ drop 12544 area

module _ (area : List ℕ) (A : 16384 ≤ length area) where
  cleared-size : length (cleared (rows_part area)) ≡ 12544
  cleared-size = let l = front_length area A in length-cleared (rows_part area) (omega arith) ∙ l

  pub emptied-length : length (emptied area) ≡ length area
  unfolding emptied
  emptied-length = written-length area (cleared (rows_part area)) A cleared-size

  pub emptied-beyond : drop 12544 (emptied area) ≡ drop 12544 area
  unfolding emptied
  emptied-beyond = written-beyond area (cleared (rows_part area)) A cleared-size

  pub emptied-holds : (file places : List ℕ) (n : ℕ) (S : ℕ → Bool) → n ≤ 4096 → ((d : ℕ) → In S d → ⊥) → Holds file places n (emptied area) S
  unfolding emptied
  emptied-holds file places n S N void = rw (written-front area (cleared (rows_part area)) A cleared-size)
      (cleared-none (row file places n) n (rows_part area) S (row-none file places n none (omega arith)) N void)

-- row c goes in
pub row-inserted : (file places : List ℕ) (n : ℕ) (area front : List ℕ) (c : ℕ) → 16384 ≤ length area → Inserted (row file places n) n (rows_part area) c front
    → RowIn file places n area c (front ++ drop 12544 area)
row-inserted file places n area front c A i =
    let f : length front ≡ 12544 = i.kept ∙ front_length area A in
    record {
      area_length = written-length area front A f;
      area_beyond = written-beyond area front A f;
      holds = λ S H F. rw (written-front area front A f) (i.index S H F);
    }
