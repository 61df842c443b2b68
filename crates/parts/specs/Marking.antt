-- The parts of one row are written, and the marks of pairs and seams with them.
use Rattle.std.specs.Prelude.{◌≡◌, List, [], true, ℕ, ◌≤◌, ◌<◌, length, get_or, set, take, drop}
use Rattle.marks.specs.Layout.{hints, seams, pairs, area_size}
use Rattle.theory.specs.Dictionary.{none}
use Rattle.marks.specs.Marks.{marked}
use Rattle.phrase_file.specs.Form.{rows}
use Rattle.tables.specs.Ready.{PlacesReady}
use Rattle.pair_check.specs.Pair.{pair_key, seam_key, seam_at}

-- the search area has changed in the hints and the marks alone, its numbers 12,544 to 16,383
pub record AreaKept (area area' : List ℕ) : Type 0 where
  pub area_length : length area' ≡ length area
  pub before : take hints area' ≡ take hints area
  pub beyond : drop area_size area' ≡ drop area_size area

-- the hints and the marks are none
pub record PairsEmptied (area area' : List ℕ) : Type 0 where
  pub kept : AreaKept area area'
  pub emptied : (i : ℕ) → hints ≤ i → i < area_size → get_or area' i 0 ≡ none

-- the pairs that were marked still are
abbrev pub PairsStay : List ℕ → List ℕ → Type 0
PairsStay area area' = (k : ℕ) → marked area pairs k ≡ true → marked area' pairs k ≡ true

-- the seams that were marked still are
abbrev pub SeamsStay : List ℕ → List ℕ → Type 0
SeamsStay area area' = (a b : ℕ) → marked area seams (seam_key a b) ≡ true → marked area' seams (seam_key a b) ≡ true

-- a row was named; which one is named where is free
pub record Named (area area' : List ℕ) : Type 0 where
  pub kept : AreaKept area area'
  pub old : PairsStay area area'
  pub seams : SeamsStay area area'

-- the tables have an entry w, which a half of a number can hold, and the search area its size
pub record WriteFit (lefts rights area : List ℕ) (w : ℕ) : Type 0 where
  pub row : w < 65535
  pub left_room : w < length lefts
  pub right_room : w < length rights
  pub area_room : area_size ≤ length area

-- the parts of row w are l and r, and the two are marked if the row is a longer one
pub record PartsWritten (lefts rights area : List ℕ) (w l r : ℕ) (lefts' rights' area' : List ℕ) : Type 0 where
  pub lefts_are : lefts' ≡ set lefts w l
  pub rights_are : rights' ≡ set rights w r
  pub kept : AreaKept area area'
  pub new : l < w → marked area' pairs (pair_key l r) ≡ true
  pub old : PairsStay area area'
  pub seams : SeamsStay area area'

-- row w may be read, and a row l below it has fewer bytes
pub record SeamFit (file places area : List ℕ) (n w l : ℕ) : Type 0 where
  pub places_ready : PlacesReady file places n
  pub row_below : w < n
  pub area_room : area_size ≤ length area
  pub shorter : l < w → length (get_or (rows file) l []) < length (get_or (rows file) w [])

-- the seam of row w behind its left part l is marked, if the row is a longer one
pub record SeamWritten (file area : List ℕ) (w l : ℕ) (area' : List ℕ) : Type 0 where
  pub kept : AreaKept area area'
  pub new : l < w → marked area' seams (seam_at file w l) ≡ true
  pub old : PairsStay area area'
  pub seams : SeamsStay area area'
