-- Sending and counting by backtracking: "longest row first; where it doesn't pass with the code before, or its end was
-- marked dead, its next prefix; where none is left, mark the place dead and take back one code".
use Rattle.std.specs.Prelude.{List, [], ◌∷◌, ◌++◌, Bool, true, false, not, ◌&&◌, ◌||◌, ℕ, zero, suc, ◌+◌, ◌*◌, length, drop, eqb}
use Rattle.std.proofs.Math.Option.{Option, none, some}
use Rattle.theory.specs.Dictionary.{Dictionary}
use Rattle.theory.specs.PairCheck.{passes}
use Rattle.theory.specs.Parts.{rows_at, prefixes}

-- the codes so far, the last one first; the dead places; and the rows to try at this place, the next one first
pub record State : Type 0 where
  pub stack : List ℕ
  pub dead : ℕ → Bool
  pub next : List ℕ

-- a place is marked dead
abbrev pub mark : (ℕ → Bool) → ℕ → ℕ → Bool
mark dead i j = eqb j i || dead j

-- the codes of a stack in the text's order
abbrev pub codes : List ℕ → List ℕ
codes [] = []
codes (c ∷ K) = codes K ++ c ∷ []

module _ (D : Dictionary) where
  -- the place that a stack reaches
  abbrev pub place : List ℕ → ℕ
  place [] = 0
  place (c ∷ K) = place K + length (D.bytes c)

  -- whether a row passes with the code before
  abbrev pub follows : List ℕ → ℕ → Bool
  follows [] c = true
  follows (x ∷ K) c = passes D D.count x c

  -- the first of these rows that passes with the code before and whose end is not dead
  abbrev pub first_fit : List ℕ → (ℕ → Bool) → List ℕ → Option ℕ
  first_fit K dead [] = none
  first_fit K dead (c ∷ cs) =
      elim (follows K c && not (dead (place (c ∷ K)))) [ true ↦ some c | false ↦ first_fit K dead cs ]

  -- this place is marked dead and one code taken back; that code is the next to try, and then its prefixes
  abbrev pub take_back : List ℕ → (ℕ → Bool) → State
  take_back [] dead = record { stack = []; dead = mark dead 0; next = [] }
  take_back (c ∷ K) dead = record { stack = K; dead = mark dead (place (c ∷ K)); next = c ∷ prefixes D c }

  module _ (t : List ℕ) where
    -- one code is added; the longest row behind it is the next to try, and then its prefixes
    abbrev pub add : ℕ → List ℕ → (ℕ → Bool) → State
    add c K dead = record { stack = c ∷ K; dead = dead; next = rows_at D (drop (place (c ∷ K)) t) }

    -- "A step adds or takes back one code"
    abbrev pub step : State → State
    step s =
        elim (first_fit s.stack s.dead s.next)
        [ some c ↦ add c s.stack s.dead | none ↦ take_back s.stack s.dead ]

    abbrev pub start : State
    start = record { stack = []; dead = λ _. false; next = rows_at D t }

    abbrev pub is_nil : List ℕ → Bool
    is_nil [] = true
    is_nil (c ∷ cs) = false

    -- nothing is left to try
    abbrev pub finished : State → Bool
    finished s = is_nil s.next

    -- k steps, or as many as there are
    abbrev pub run : ℕ → State → State
    run zero s = s
    run (suc k) s = elim (finished s) [ true ↦ s | false ↦ run k (step s) ]

    -- the codes by backtracking: a text of m bytes takes at most 2 m steps
    unfoldable pub backtrack : List ℕ
    backtrack = codes (run (2 * length t) start).stack
