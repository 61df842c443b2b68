-- "the last code of each prefix of the text, then walked from the end"
use Rattle.std.specs.Prelude.{List, [], ◌∷◌, ◌++◌, ℕ, zero, suc, ◌-◌, length, get_or, take}
use Rattle.theory.specs.Lists.{last_or, tabulate}
use Rattle.theory.specs.Dictionary.{Dictionary, none}
use Rattle.theory.specs.Merge.{encode}

module _ (D : Dictionary) where
  -- the last code of a text
  unfoldable pub last_code : List ℕ → ℕ
  last_code t = last_or none (encode D t)

  -- the last code of each prefix: entry i is that of the first i + 1 bytes
  unfoldable pub last_codes : List ℕ → List ℕ
  last_codes t = tabulate (length t) (λ i. last_code (take (suc i) t))

  -- the codes of the first e bytes, from the last one back
  abbrev pub walk_back : ℕ → List ℕ → ℕ → List ℕ
  walk_back zero table e = []
  walk_back (suc k) table zero = []
  walk_back (suc k) table (suc e) =
      walk_back k table (suc e - length (D.bytes (get_or table e none))) ++ get_or table e none ∷ []

  -- the codes by the table; a code has one byte or more
  unfoldable pub table_codes : List ℕ → List ℕ
  table_codes t = walk_back (length t) (last_codes t) (length t)
