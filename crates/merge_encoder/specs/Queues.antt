-- A queue for each row, of the places whose join is the row, the newest first. An entry is the number of the next
-- older one times 4,096, and a place. Entry 0 ends a queue. An entry is written once, so what it leads to does not
-- change.
use Rattle.std.specs.Prelude.{◌≡◌, List, ℕ, zero, suc, ◌-◌, ◌/◌, ◌%◌, ◌≤◌, ◌<◌, length, get_or}

-- the entry k steps after an entry
abbrev pub steps : List ℕ → ℕ → ℕ → ℕ
steps pool zero e = e
steps pool (suc k) e = steps pool k (get_or pool e 0 / 4096)

-- a place stands in the queue from entry e on
pub record Queued (pool : List ℕ) (e place : ℕ) : Type 0 where
  pub step : ℕ
  pub some : 0 < steps pool step e
  pub is : get_or pool (steps pool step e) 0 % 4096 ≡ place

-- the newest entry of each row is one of the first `count`, and these lead to older ones
pub record Queues (heads pool : List ℕ) (count : ℕ) : Type 0 where
  pub heads_room : length heads ≡ 4096
  pub pool_room : length pool ≡ 12289
  pub some : 0 < count
  pub newest : (r : ℕ) → r < 4096 → get_or heads r 0 < count
  pub older : (e : ℕ) → e < count → get_or pool e 0 / 4096 ≤ e - 1
