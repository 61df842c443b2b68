-- The search area, "of 16,384 32-bit numbers": where each part of it begins. `docs/search-area.md` says what stands
-- there, and who reads and writes it.
use Rattle.std.specs.Prelude.{ℕ}

-- the first word of each bucket of rows stands at 0; then a number for each row, in which the next bytes of longer
-- rows are marked
abbrev pub row_marks : ℕ
row_marks = 4352

-- for each row the word after it in its bucket
abbrev pub links : ℕ
links = 8448

-- names of joins, two to a number
abbrev pub hints : ℕ
hints = 12544

-- marks of seams
abbrev pub seams : ℕ
seams = 14848

-- marks of pairs
abbrev pub pairs : ℕ
pairs = 15360

-- the end
abbrev pub area_size : ℕ
area_size = 16384
