-- What the demands say of a code list.
use Rattle.std.specs.Prelude.{◌≡◌, ◌⊎◌, List, ℕ, ◌≤◌, length}
use Rattle.theory.specs.Dictionary.{Dictionary, spell, AllRows}
use Rattle.theory.specs.Merge.{encode}
use Rattle.theory.specs.Paper.{paper_codes}
use Rattle.theory.specs.PairCheck.{AllPass}
use Rattle.theory.specs.Shortest.{shortest, greedy, LongerFirst}

module _ (D : Dictionary) (t : List ℕ) where
  -- "of all code lists that spell it exactly one has all neighbours passing the pair check", and it is M
  pub record ExactlyOne (M : List ℕ) : Type 0 where
    pub spells : spell D M ≡ t
    pub all_pass : AllPass D M
    pub only : (L : List ℕ) → AllPass D L → spell D L ≡ t → L ≡ M

  -- the fewest codes that spell a text; among those the longest first row, then the longest second, and so on
  pub record Fewest (M : List ℕ) : Type 0 where
    pub rows : AllRows D M
    pub spells : spell D M ≡ t
    pub least : (L : List ℕ) → AllRows D L → spell D L ≡ t → length M ≤ length L
    pub ties : (L : List ℕ) → AllRows D L → spell D L ≡ t → length L ≡ length M → (L ≡ M) ⊎ LongerFirst D M L

  -- every encoder's codes spell the text
  pub record Decoded : Type 0 where
    pub merge : spell D (encode D t) ≡ t
    pub paper : spell D (paper_codes D t) ≡ t
    pub shortest : spell D (shortest D t) ≡ t
    pub greedy : spell D (greedy D t) ≡ t
