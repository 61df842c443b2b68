-- What a digit more and the digits of a word write. Assumes nothing.
use Rattle.std.proofs.Common.{◌≡◌, ℕ, None, List, [], ◌∷◌, refl}
use Rattle.words.specs.Numbers.{digits_after}

-- after a wrong byte there is no number
pub digits_after_none : (s : List ℕ) → digits_after None s ≡ None
digits_after_none [] = refl
digits_after_none (b ∷ s) = refl
