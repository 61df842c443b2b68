-- The front of the search area. Assumes nothing.
use mathlib.Core.Path.{◌≡◌}
use mathlib.Core.List.{List}
use Prim.Native.Nat.{ℕ, ◌≤◌}
use native.Mathlib.Omega.{arith}
use lib.ListN.{length, take}
use lib.Seq.{length-take-le}
use Rattle.search_area.specs.Area.{rows_part, Finds}

pub front_length : (area : List ℕ) → 16384 ≤ length area → length (rows_part area) ≡ 12544
front_length area h = length-take-le 12544 area (omega arith)

-- the numbers behind it do not count
pub finds-same : (file places : List ℕ) (n : ℕ) (area area' : List ℕ) → take 12544 area ≡ take 12544 area' → Finds file places n area → Finds file places n area'
unfolding Finds
finds-same file places n area area' e F = (rw e at F.0, F.1)
