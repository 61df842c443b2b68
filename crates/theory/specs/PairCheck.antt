-- The pair check, and code lists whose neighbours all pass.
use Rattle.std.specs.Prelude.{◌≡◌, List, [], ◌∷◌, Bool, true, false, ◌||◌, ℕ, zero, suc, ◌+◌, ◌<◌, ltb}
use Rattle.theory.specs.Dictionary.{Dictionary}
use Rattle.theory.specs.Merge.{join}
use Rattle.theory.specs.Paper.{listed}

-- what is undone next
pub data Turn : Type 0 where
  stop undo_left undo_right : Turn

-- by whether the left and the right one are long, and whether the left one has the higher row number: "undo the part
-- with the higher row number, the right one if both are the same row; where that one is a single byte, undo the other"
abbrev pub turn_by : Bool → Bool → Bool → Turn
turn_by false false b = stop
turn_by false true b = undo_right
turn_by true false b = undo_left
turn_by true true true = undo_left
turn_by true true false = undo_right

module _ (D : Dictionary) where
  abbrev pub turn : ℕ → ℕ → Turn
  turn u v = turn_by (D.long u) (D.long v) (ltb v u)

  -- a join across the seam of u and v, by a row below m: a row that has them as its parts
  abbrev pub listed_below : ℕ → ℕ → ℕ → Bool
  listed_below zero u v = false
  listed_below (suc w) u v = listed D w u v || listed_below w u v

  -- the other reading: any row below m that has their joined bytes
  abbrev pub joined_below : ℕ → ℕ → ℕ → Bool
  joined_below m u v = ltb (join D u v) m

  -- "go on until both are single bytes", for k turns at most. "Before anything is undone, no join across the seam may
  -- exist; later none may come before the join last undone (a lower row, or the same row further left)": none below the
  -- limit m
  abbrev pub walk : (ℕ → ℕ → ℕ → Bool) → ℕ → ℕ → ℕ → ℕ → Bool
  walk across zero u v m = false
  walk across (suc k) u v m = elim (across m u v) [
    | true ↦ false
    | false ↦ elim (turn u v) [
      | stop ↦ true
      | undo_left ↦ walk across k (D.right u) v u
      | undo_right ↦ walk across k u (D.left v) (suc v)
    ]
  ]

  -- the pair check over the rows below q; u + v falls at each turn
  abbrev pub passes : ℕ → ℕ → ℕ → Bool
  passes q u v = walk listed_below (suc (u + v)) u v q

  -- the pair check by the other reading
  abbrev pub passes_joined : ℕ → ℕ → ℕ → Bool
  passes_joined q u v = walk joined_below (suc (u + v)) u v q

  -- "all its neighbours pass if each code passes with the next, so a list of none or one always does"
  abbrev pub AllPass : List ℕ → Type 0
  AllPass [] = Unit {0}
  AllPass (u ∷ []) = u < D.count
  AllPass (u ∷ v ∷ M) = (u < D.count) × (passes D.count u v ≡ true) × AllPass (v ∷ M)
