-- The functions under the interval count: where the prepared tables take over, and the count of a piece.
use Rattle.std.specs.Prelude.{◌≡◌, List, Bool, true, ℕ, ◌+◌, ◌-◌, ◌≤◌, ◌<◌, length, get_or, take, drop}
use Rattle.theory.specs.Tree.{interval_count}
use Rattle.built_tables.specs.Built.{dictionary_of, Built}
use Rattle.backtrack_encoder.specs.declared.BacktrackEncoder.{BacktrackEncoder}
use Rattle.backtrack_encoder.specs.Encoder.{TextReady}
use Rattle.built_tables.specs.IntervalTables.{Prepared}
use Rattle.tables.specs.Tables.{Tables}

-- the encoder has no more codes than bytes, and its place in the text, behind `from`, is no further than `to`
pub record MeetsReady (e : BacktrackEncoder) (work last_codes numbers ends : List ℕ) (from to : ℕ) : Type 0 where
  pub codes_fit : e.count ≤ length work
  pub few : e.count ≤ e.pos
  pub inside : from + e.pos ≤ to
  pub codes_room : to ≤ length last_codes
  pub numbers_room : to < length numbers
  pub ends_room : to < length ends

-- the encoder's last code is that of the prefix up to its place, and the number of the prefix up to `to` is among
-- those of that prefix
pub record Meets (e : BacktrackEncoder) (work last_codes numbers ends : List ℕ) (from to : ℕ) : Type 0 where
  pub some : 0 < e.count
  pub same_code : get_or last_codes (from + e.pos - 1) 0 ≡ get_or work (e.count - 1) 0
  pub least : get_or numbers (from + e.pos) 0 ≤ get_or numbers to 0
  pub below : get_or numbers to 0 < get_or ends (from + e.pos) 0

-- the tables take over only there
pub record MeetsIs (e : BacktrackEncoder) (work last_codes numbers ends : List ℕ) (from to : ℕ) (r : Bool) : Type 0 where
  pub met : r ≡ true → Meets e work last_codes numbers ends from to

-- two prefixes have depths
pub record BetweenReady (depths : List ℕ) (place to : ℕ) : Type 0 where
  pub place_room : place < length depths
  pub to_room : to < length depths

-- tables in form, a piece from `from` to `to` of at most 4,096 bytes, a work buffer with one number per byte, and
-- interval tables with entries up to `to`
pub record PieceReady (T : Tables) (n : ℕ) (piece last_codes numbers ends depths : List ℕ) (from to : ℕ)
    (work : List ℕ) : Type 0 where
  pub ready : TextReady T n piece work
  pub size : from + length piece ≡ to
  pub short : to ≤ 4096
  pub codes_room : to ≤ length last_codes
  pub numbers_room : to < length numbers
  pub ends_room : to < length ends
  pub depths_room : to < length depths
  pub shallow : get_or depths to 0 ≤ 4097

-- the number of codes of the piece, if a build left the tables and the interval tables are the prepared ones of a
-- text that has this piece; else no more than its bytes and the depth at `to`. The work buffer is written no further
-- than the piece is long; its first numbers are free
pub record PieceCounts (T : Tables) (n : ℕ) (piece last_codes numbers ends depths : List ℕ) (from to : ℕ)
    (work : List ℕ) (r : ℕ) (work' : List ℕ) : Type 0 where
  pub few : r ≤ length piece + get_or depths to 0
  pub work_length : length work' ≡ length work
  pub work_beyond : drop (length piece) work' ≡ drop (length piece) work
  pub built : Built T n → (text : List ℕ) → to ≤ length text → piece ≡ take (to - from) (drop from text)
      → Prepared T.file text last_codes numbers ends depths → r ≡ interval_count (dictionary_of T.file) text from to
