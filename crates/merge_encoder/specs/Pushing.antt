-- One entry more in the queues.
use Rattle.std.specs.Prelude.{◌≡◌, ℕ, ◌+◌, ◌≤◌, ◌<◌, get_or, set}
use Rattle.theory.specs.Dictionary.{none}
use Rattle.merge_encoder.specs.declared.joins.Joins.{Joins}
use Rattle.merge_encoder.specs.Queues.{Queued}

-- some entries more: what was queued is so still
pub record Longer (Q Q' : Joins) : Type 0 where
  pub least : Q.count ≤ Q'.count
  pub kept : (e p : ℕ) → e < Q.count → Queued Q.pool e p → Queued Q'.pool e p
  pub moved : (r p : ℕ) → r < 4096 → Queued Q.pool (get_or Q.heads r 0) p → Queued Q'.pool (get_or Q'.heads r 0) p

-- what a place and its row, or none, need to be put down
pub record PushReady (Q : Joins) (place row : ℕ) : Type 0 where
  pub room : Q.count < 12289
  pub place_below : place < 4096
  pub row_below : (row ≡ none → ⊥) → row < 4096

-- row is the key of a place, which stands in the row's queue
pub record Pushed (Q : Joins) (place row : ℕ) (Q' : Joins) : Type 0 where
  pub is : Q'.keys ≡ set Q.keys place row
  pub live : Q'.live ≡ Q.live
  pub longer : Longer Q Q'
  pub few : Q'.count ≤ Q.count + 1
  pub fresh : (row ≡ none → ⊥) → Queued Q'.pool (get_or Q'.heads row 0) place
