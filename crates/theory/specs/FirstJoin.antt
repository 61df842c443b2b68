-- The first join across a seam with a whole row: what typing one more byte rests on.
use Rattle.std.specs.Prelude.{◌≡◌, Bool, true, false, ℕ, suc, ◌<◌}
use Rattle.theory.specs.Lists.{first_or, last_or}
use Rattle.theory.specs.Dictionary.{Dictionary, none}
use Rattle.theory.specs.Paper.{listed, stage}
use Rattle.theory.specs.Typing.{Side, append, prepend}

-- the rows in whose passes the part of row u stands there are those below this one
abbrev pub bound_at : Side → ℕ → ℕ
bound_at append u = u
bound_at prepend u = suc u

module _ (D : Dictionary) where
  -- the pass of row w joins the row s, typed beside row u, and what u has at that end by then
  abbrev pub joins_at : Side → ℕ → ℕ → ℕ → Bool
  joins_at append u s w = listed D w (last_or w (stage D (suc w) (D.bytes u))) s
  joins_at prepend u s w = listed D w s (first_or w (stage D w (D.bytes u)))

  -- row w has row u and, typed beside it, row s as its parts
  abbrev pub listed_beside : Side → ℕ → ℕ → ℕ → Bool
  listed_beside append w u s = listed D w u s
  listed_beside prepend w u s = listed D w s u

  -- the part of row u at the end where rows are typed; before the pass of row u, and in prepending in that pass, it
  -- stands there
  abbrev pub inner_part : Side → ℕ → ℕ
  inner_part append u = D.right u
  inner_part prepend u = D.left u

  -- the part of row w that is not the row typed last
  abbrev pub other_part : Side → ℕ → ℕ
  other_part append w = D.left w
  other_part prepend w = D.right w

  -- r is the row below m that has u and, typed beside it, s as its parts, and none where there is no such row
  pub record JoinBelow (side : Side) (m u s r : ℕ) : Type 0 where
    pub nothing : r ≡ none → (w : ℕ) → w < m → listed_beside side w u s ≡ false
    pub below : (r ≡ none → ⊥) → r < m
    pub is : (r ≡ none → ⊥) → listed_beside side r u s ≡ true

  -- r is the lowest row that joins the two, and none where no row does
  pub record FirstJoin (side : Side) (u s r : ℕ) : Type 0 where
    pub nothing : r ≡ none → (w : ℕ) → w < D.count → joins_at side u s w ≡ false
    pub joined : (r ≡ none → ⊥) → joins_at side u s r ≡ true
    pub lowest : (r ≡ none → ⊥) → (w : ℕ) → w < r → joins_at side u s w ≡ false
