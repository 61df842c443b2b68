-- Causes 5 and 13 on samples: the lowest equal row, and the lowest that clashes, of short lists of rows. `curulo` and
-- `dacuba` have one hash under factor 1, and not under 2. Assumes nothing.
use mathlib.Core.Path.{◌≡◌, refl}
use mathlib.Core.List.{List, [], ◌∷◌}
use Prim.Native.Nat.{ℕ}
use lib.ListN.{length, get_or}
use Rattle.clashes.specs.Clashes.{seen, lowest, first_with, is_equal, shares_hash, clashes}
use Rattle.fnv.specs.Fnv.{fnv_step, fnv, octets, row_octets, row_hash}

abbrev ab : List ℕ
ab = 97 ∷ 98 ∷ []

abbrev curulo : List ℕ
curulo = 99 ∷ 117 ∷ 114 ∷ 117 ∷ 108 ∷ 111 ∷ []

abbrev dacuba : List ℕ
dacuba = 100 ∷ 97 ∷ 99 ∷ 117 ∷ 98 ∷ 97 ∷ []

abbrev bytes_of : List (List ℕ) → ℕ → List ℕ
bytes_of rows i = get_or rows i []

-- a factor and a list of rows: the lowest row with the bytes (5), with the hash, and with the hash and other bytes (13) of
-- an earlier row; the number of rows where there is none
abbrev found : ℕ → List (List ℕ) → List ℕ
found factor rows =
    first_with (is_equal (bytes_of rows)) (length rows)
    ∷ first_with (shares_hash (bytes_of rows) factor) (length rows)
    ∷ first_with (clashes (bytes_of rows) factor) (length rows)
    ∷ []

-- equal rows; a clash, under two factors; an equal row behind a clash, with which it clashes too
abbrev cases : List (List ℕ)
cases =
    found 1 (ab ∷ ab ∷ [])
    ∷ found 1 (curulo ∷ ab ∷ dacuba ∷ [])
    ∷ found 2 (curulo ∷ ab ∷ dacuba ∷ [])
    ∷ found 1 (curulo ∷ dacuba ∷ curulo ∷ [])
    ∷ []

pub samples : cases ≡ (1 ∷ 1 ∷ 2 ∷ []) ∷ (3 ∷ 2 ∷ 2 ∷ []) ∷ (3 ∷ 3 ∷ 3 ∷ []) ∷ (2 ∷ 1 ∷ 1 ∷ []) ∷ []
unfolding seen lowest first_with fnv_step fnv octets row_octets row_hash
samples = refl
