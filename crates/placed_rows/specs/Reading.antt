-- The rows that a value of `Rows` may read.
use Rattle.std.specs.Prelude.{List, ℕ}
use Rattle.placed_rows.specs.Rows.{row}
use Rattle.placed_rows.specs.declared.rows.Rows.{Rows}

-- the bytes of row c
abbrev pub rows_of : Rows → ℕ → List ℕ
rows_of rows c = row rows.file.now rows.places.now rows.n c
