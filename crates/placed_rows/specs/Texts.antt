-- Texts that begin or end others, and texts read from the front or from the back.
use Rattle.std.specs.Prelude.{◌≡◌, List, [], ◌∷◌, ◌++◌, reverse, Bool, true, false, ◌&&◌, ℕ, ◌<◌, eqb}

-- p begins t
pub record Begins (p t : List ℕ) : Type 0 where
  pub rest : List ℕ
  pub split : t ≡ p ++ rest

-- p ends t
pub record Ends (p t : List ℕ) : Type 0 where
  pub before : List ℕ
  pub split : t ≡ before ++ p

-- whether p begins t
unfoldable pub begins : List ℕ → List ℕ → Bool
begins [] t = true
begins (x ∷ p) [] = false
begins (x ∷ p) (y ∷ t) = eqb x y && begins p t

-- a text as it is read: from the front, or from the back
unfoldable pub facing : Bool → List ℕ → List ℕ
facing false t = t
facing true t = reverse t

-- r is x, and below b
pub record Small (x b r : ℕ) : Type 0 where
  pub is : r ≡ x
  pub below : r < b
