-- A walk along the records of a file.
use Rattle.std.specs.Prelude.{◌≡◌, List, ℕ, ◌+◌, ◌<◌, Option, None, Some}
use Rattle.phrase_file.specs.declared.FileRecords.{FileRecords}
use Rattle.phrase_file.specs.Form.{row_length, places_from}

-- the places of the records that are left
abbrev pub places_left : FileRecords → List ℕ
places_left s = places_from s.file.now s.at

-- the walk passes a record, and t is behind it
pub record Passes (s : FileRecords) (place : ℕ) (t : FileRecords) : Type 0 where
  pub here : place ≡ s.at
  pub some : 0 < row_length s.file.now s.at
  pub file_kept : t.file ≡ s.file
  pub on : t.at ≡ s.at + 3 + row_length s.file.now s.at

-- no whole record stands at the walk's offset, where it stays
pub record Stops (s t : FileRecords) : Type 0 where
  pub none : row_length s.file.now s.at ≡ 0
  pub kept : t ≡ s

abbrev pub Walks : FileRecords → Option ℕ → FileRecords → Type 0
Walks s None t = Stops s t
Walks s (Some place) t = Passes s place t
