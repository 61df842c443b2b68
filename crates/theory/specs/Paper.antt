-- The merge procedure. "Definition: Sennrich et al. 2016, with row numbers as the merge order. The paper merges listed
-- pairs", one pass for each.
use Rattle.std.specs.Prelude.{List, [], ◌∷◌, Bool, true, false, ◌&&◌, ℕ, zero, suc, eqb}
use Rattle.theory.specs.Dictionary.{Dictionary}
use Rattle.theory.specs.Merge.{byte_codes}

-- one pass from left to right: where two neighbours meet the test, p takes their place
module _ (p : ℕ) (meets : ℕ → ℕ → Bool) where
  abbrev pub pass : List ℕ → List ℕ
  pass [] = []
  pass (x ∷ []) = x ∷ []
  pass (x ∷ y ∷ t) = elim (meets x y) [ true ↦ p ∷ pass t | false ↦ x ∷ pass (y ∷ t) ]

module _ (D : Dictionary) where
  -- whether x and y are the listed pair of row p: its left and its right part
  abbrev pub listed : ℕ → ℕ → ℕ → Bool
  listed p x y = D.long p && (eqb x (D.left p) && eqb y (D.right p))

  -- the codes of a text after the passes of the rows below p
  abbrev pub stage : ℕ → List ℕ → List ℕ
  stage zero t = byte_codes D t
  stage (suc p) t = pass p (listed p) (stage p t)

  -- the codes of a text after the passes of all rows
  unfoldable pub paper_codes : List ℕ → List ℕ
  paper_codes t = stage D.count t
