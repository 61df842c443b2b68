-- What the functions over a phrase file require and ensure, where it is more than one equation.
use Rattle.std.specs.Prelude.{◌≡◌, List, Bool, false, ℕ, ◌<◌, ◌≤◌, length, get_or}
use Rattle.phrase_file.specs.Form.{places, rows, records_end}
use Rattle.phrase_file.specs.Checks.{has_byte}

-- what one pass over a file finds: the count of rows, where the records end, and of each byte value whether it has a
-- row
pub record Scanned (file : List ℕ) (n end : ℕ) (seen : List Bool) : Type 0 where
  pub count : n ≡ length (rows file)
  pub ends : end ≡ records_end file
  pub marks : (b : ℕ) → b < 256 → get_or seen b false ≡ has_byte (rows file) b

-- a table of 32-bit numbers that has room for the places of a file
pub record PlacesFit (file table : List ℕ) : Type 0 where
  pub short : length file ≤ 65536
  pub room : length (places file) ≤ length table
