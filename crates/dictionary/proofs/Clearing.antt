-- Buffers whose first numbers are cleared. Assumes nothing.
use mathlib.Core.Path.{◌≡◌, ap}
use mathlib.Core.List.{List, ◌++◌}
use Prim.Native.Nat.{ℕ}
use lib.ListN.{replicate}
use Rattle.theory.specs.Dictionary.{none}
use Rattle.tables.specs.Tables.{Tables, tables}
use Rattle.dictionary.specs.Build.{cleared, all_cleared, beyond}

-- what is cleared does not depend on what was there
pub cleared-beyond : (n : ℕ) (T T' : Tables) → beyond n T' ≡ beyond n T → all_cleared n T' ≡ all_cleared n T
unfolding cleared
cleared-beyond n T T' e =
    ap (λ (d : Tables). tables d.file (replicate n none ++ d.places) (replicate n none ++ d.lefts)
    (replicate n none ++ d.rights) (replicate n none ++ d.prefixes) (replicate 16384 none ++ d.area)) e

-- the buffers after each was cleared
pub all-cleared : (n : ℕ) (T : Tables) (places' lefts' rights' prefixes' area' : List ℕ) → places' ≡ cleared n T.places
    → lefts' ≡ cleared n T.lefts → rights' ≡ cleared n T.rights → prefixes' ≡ cleared n T.prefixes
    → area' ≡ cleared 16384 T.area → tables T.file places' lefts' rights' prefixes' area' ≡ all_cleared n T
all-cleared n T places' lefts' rights' prefixes' area' p l r x a = rw (p, l, r, x, a)
