-- What is answered where the parts of a row are looked for.
use Rattle.std.specs.Prelude.{List, ℕ, ◌<◌, Option, None, Some}
use Rattle.parts.specs.declared.TokenParts.{TokenParts}
use Rattle.parts.specs.Parts.{RowParts, NoParts, Fails, Passes, PartsFilled}

-- the rest of row w beyond row c, if the two are its parts
abbrev pub RightPart : List ℕ → ℕ → ℕ → Option ℕ → Type 0
RightPart file w c None = Fails file w c
RightPart file w c (Some r) = Passes file w c r

-- the parts of row w, if it has any
abbrev pub PartsFound : List ℕ → ℕ → Option TokenParts → Type 0
PartsFound file w None = NoParts file w
PartsFound file w (Some p) = RowParts file w p.left p.right

-- the parts of all rows are filled in, or of those below the lowest that has none
abbrev pub FilledUpTo : (file lefts rights area lefts' rights' area' : List ℕ) (n : ℕ) → Option ℕ → Type 0
FilledUpTo file lefts rights area lefts' rights' area' n None =
    PartsFilled file lefts rights area lefts' rights' area' n n
FilledUpTo file lefts rights area lefts' rights' area' n (Some w) =
    PartsFilled file lefts rights area lefts' rights' area' n w × (w < n)
