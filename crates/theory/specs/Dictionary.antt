-- A dictionary: the rows of a phrase file with their parts, and what a code list spells.
use Rattle.std.specs.Prelude.{List, [], ◌∷◌, ◌++◌, Bool, ℕ, ◌<◌}

-- "None" is 4294967295
abbrev pub none : ℕ
none = 4294967295

-- "file, text and decoded bytes are octets"
abbrev pub Octets : List ℕ → Type 0
Octets [] = Unit {0}
Octets (b ∷ t) = (b < 256) × Octets t

pub record Dictionary : Type 0 where
  -- "n is the count of rows"; a row's number is a code
  pub count : ℕ
  -- the bytes of a row
  pub bytes : ℕ → List ℕ
  -- the row that is one byte alone
  pub code : ℕ → ℕ
  -- whether a row has two or more bytes
  pub long : ℕ → Bool
  -- the left and the right part of a row
  pub left : ℕ → ℕ
  pub right : ℕ → ℕ

module _ (D : Dictionary) where
  -- "A code list is a list of row numbers and spells their rows' bytes joined"
  abbrev pub spell : List ℕ → List ℕ
  spell [] = []
  spell (x ∷ s) = D.bytes x ++ spell s

  -- "a list of row numbers"
  abbrev pub AllRows : List ℕ → Type 0
  AllRows [] = Unit {0}
  AllRows (u ∷ M) = (u < D.count) × AllRows M

  -- each byte of a text has a row
  abbrev pub KnownText : List ℕ → Type 0
  KnownText [] = Unit {0}
  KnownText (b ∷ t) = (D.code b < D.count) × KnownText t
