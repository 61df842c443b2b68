-- The shortest and the greedy codes of a text.
use Rattle.std.specs.Prelude.{◌≡◌, ◌⊎◌, List, [], ◌∷◌, true, false, ℕ, zero, suc, ◌-◌, ◌<◌, length, get_or, drop, ltb}
use Rattle.theory.specs.Dictionary.{Dictionary}
use Rattle.theory.specs.Parts.{rows_at, longest_at}

module _ (D : Dictionary) where
  -- of two code lists the shorter one; of equally long ones the first
  abbrev pub shorter : List ℕ → List ℕ → List ℕ
  shorter a b = elim (ltb (length b) (length a)) [ true ↦ b | false ↦ a ]

  -- one of these rows and the shortest codes of what is behind it: the shortest such list, of equally long ones the
  -- first. behind has the shortest codes of the text without its first byte, without its first two, and so on
  abbrev pub best_of : List (List ℕ) → List ℕ → List ℕ
  best_of behind [] = []
  best_of behind (c ∷ []) = c ∷ get_or behind (length (D.bytes c) - 1) []
  best_of behind (c ∷ d ∷ cs) = shorter (c ∷ get_or behind (length (D.bytes c) - 1) []) (best_of behind (d ∷ cs))

  -- the shortest codes of a text, of the text without its first byte, and so on
  abbrev pub shortest_of_tails : List ℕ → List (List ℕ)
  shortest_of_tails [] = [] ∷ []
  shortest_of_tails (b ∷ t) = best_of (shortest_of_tails t) (rows_at D (b ∷ t)) ∷ shortest_of_tails t

  -- "fewest codes; among those the longest first row, then the longest second, and so on"
  unfoldable pub shortest : List ℕ → List ℕ
  shortest t = get_or (shortest_of_tails t) 0 []

  -- at the first place where two code lists differ, the first one has the longer row
  abbrev pub LongerFirst : List ℕ → List ℕ → Type 0
  LongerFirst [] M = ⊥
  LongerFirst (c ∷ L) [] = ⊥
  LongerFirst (c ∷ L) (d ∷ M) = (length (D.bytes d) < length (D.bytes c)) ⊎ ((c ≡ d) × LongerFirst L M)

  -- "the longest row at each place"
  abbrev pub greedy_up_to : ℕ → List ℕ → List ℕ
  greedy_up_to zero t = []
  greedy_up_to (suc k) [] = []
  greedy_up_to (suc k) (b ∷ t) =
      longest_at D (b ∷ t) ∷ greedy_up_to k (drop (length (D.bytes (longest_at D (b ∷ t)))) (b ∷ t))

  unfoldable pub greedy : List ℕ → List ℕ
  greedy t = greedy_up_to (length t) t
