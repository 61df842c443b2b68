-- The functions under preparation: the tree of the prefixes as a table of last codes gives it, over any table of
-- rows.
use Rattle.std.specs.Prelude.{◌≡◌, List, ℕ, zero, suc, ◌+◌, ◌-◌, ◌≤◌, ◌<◌, length, get_or, set, drop}
use Rattle.theory.specs.Tree.{size, number, end}
use Rattle.tables.specs.Ready.{PlacesReady}
use Rattle.built_tables.specs.Built.{dictionary_of}
use Rattle.end_code.specs.Tables.{FrontRows}

-- a prefix's parent is the prefix without its last code, which stands in the table
unfoldable pub parent_in : List ℕ → List ℕ → ℕ → ℕ
parent_in file last_codes i = i - length ((dictionary_of file).bytes (get_or last_codes (i - 1) 0))

-- the rows may be read, and the table has a row for each of the m prefixes
pub record RowTable (file places : List ℕ) (n m : ℕ) (last_codes : List ℕ) : Type 0 where
  pub places_ready : PlacesReady file places n
  pub rows : FrontRows n last_codes m

-- a prefix that is not empty, and has a row in the table
pub record ParentReady (file places : List ℕ) (n : ℕ) (last_codes : List ℕ) (i : ℕ) : Type 0 where
  pub rows : RowTable file places n i last_codes
  pub some : 0 < i

-- m prefixes, and a work buffer with one number for each
pub record OnesReady (m : ℕ) (work : List ℕ) : Type 0 where
  pub room : m ≤ length work

-- the first m numbers of the work buffer are 1, and the rest is as before
pub record Ones (m : ℕ) (work work' : List ℕ) : Type 0 where
  pub same_length : length work' ≡ length work
  pub beyond : drop m work' ≡ drop m work
  pub ones : (p : ℕ) → p < m → get_or work' p 0 ≡ 1

-- prefix i and its parent have sizes, and the sum of these fits
pub record AddReady (i parent : ℕ) (work : List ℕ) : Type 0 where
  pub some : 0 < i
  pub known : i ≤ length work
  pub lower : parent < i
  pub fits : 0 < parent → get_or work (parent - 1) 0 + get_or work (i - 1) 0 < 4294967296

-- the size of prefix i is added to that of its parent, if that is not the empty prefix
unfoldable pub added : ℕ → ℕ → List ℕ → List ℕ
added i zero work = work
added i (suc parent) work = set work parent (get_or work parent 0 + get_or work (i - 1) 0)

-- a table of rows for the m prefixes, and a work buffer with one number for each
pub record SizesReady (file places : List ℕ) (n m : ℕ) (last_codes work : List ℕ) : Type 0 where
  pub rows : RowTable file places n m last_codes
  pub short : m ≤ 4096
  pub room : m ≤ length work

-- entry p - 1 is the number of prefixes that are p or below it
abbrev pub SizesIn : List ℕ → ℕ → List ℕ → List ℕ → Type 0
SizesIn file m last_codes work = (p : ℕ) → 0 < p → p ≤ m → get_or work (p - 1) 0 ≡ size (parent_in file last_codes) m p

-- the first m numbers of the work buffer are the sizes, and the rest is as before
pub record SizesAre (file : List ℕ) (m : ℕ) (last_codes work work' : List ℕ) : Type 0 where
  pub same_length : length work' ≡ length work
  pub beyond : drop m work' ≡ drop m work
  pub sizes : SizesIn file m last_codes work'

-- prefix i and its parent have entries, and what is put there fits
pub record ChildReady (i parent size : ℕ) (numbers ends depths : List ℕ) : Type 0 where
  pub lower : parent < i
  pub numbers_room : i < length numbers
  pub ends_room : i < length ends
  pub depths_room : i < length depths
  pub end_fits : get_or ends parent 0 + 1 < 4294967296
  pub size_fits : get_or ends parent 0 + size < 4294967296
  pub depth_fits : get_or depths parent 0 + 1 < 4294967296

-- prefix i has the number that its parent's end was, which is moved by the size of i; its own end is one past its
-- number
pub record ChildPlaced (i parent size : ℕ) (numbers ends depths numbers' ends' depths' : List ℕ) : Type 0 where
  pub numbers_are : numbers' ≡ set numbers i (get_or ends parent 0)
  pub ends_are : ends' ≡ set (set ends i (get_or ends parent 0 + 1)) parent (get_or ends parent 0 + size)
  pub depths_are : depths' ≡ set depths i (get_or depths parent 0 + 1)

-- a table of rows for the m prefixes, their sizes, and tree tables with one number more
pub record TreeReady (file places : List ℕ) (n m : ℕ) (last_codes work numbers ends depths : List ℕ) : Type 0 where
  pub rows : RowTable file places n m last_codes
  pub short : m ≤ 4096
  pub sizes_room : m ≤ length work
  pub sizes : SizesIn file m last_codes work
  pub numbers_room : m < length numbers
  pub ends_room : m < length ends
  pub depths_room : m < length depths

-- a tree table is written no further than entry m
pub record WrittenTo (m : ℕ) (table table' : List ℕ) : Type 0 where
  pub same_length : length table' ≡ length table
  pub beyond : drop (m + 1) table' ≡ drop (m + 1) table

-- tree number, tree end and depth of each prefix; the depth of a prefix is one more than its parent's
pub record TreeIs (file : List ℕ) (m : ℕ) (last_codes numbers ends depths numbers' ends' depths' : List ℕ) : Type 0 where
  pub numbers_written : WrittenTo m numbers numbers'
  pub ends_written : WrittenTo m ends ends'
  pub depths_written : WrittenTo m depths depths'
  pub numbers_are : (p : ℕ) → p ≤ m → get_or numbers' p 0 ≡ number (parent_in file last_codes) m p
  pub ends_are : (p : ℕ) → p ≤ m → get_or ends' p 0 ≡ end (parent_in file last_codes) m p
  pub depth_root : get_or depths' 0 0 ≡ 0
  pub depth_child : (p : ℕ) → 0 < p → p ≤ m → get_or depths' p 0 ≡ get_or depths' (parent_in file last_codes p) 0 + 1
