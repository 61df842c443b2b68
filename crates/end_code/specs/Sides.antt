-- The side of a text at which bytes are typed.
use Rattle.std.specs.Prelude.{cond, ℕ, eqb, get_or}
use Rattle.theory.specs.Typing as Typing
use Rattle.theory.specs.Typing.{append, prepend}
use Rattle.tables.specs.Tables.{PairTables}
use Rattle.end_code.specs.declared.Side.{Side}
use Rattle.end_code.specs.declared.Side.TheVariants.{Append, Prepend}

-- the side of the definitions
abbrev pub side_of : Side → Typing.Side
side_of Append = append
side_of Prepend = prepend

-- the side by its number: 0 appends, any other number prepends
abbrev pub side_numbered : ℕ → Side
side_numbered number = cond (eqb number 0) Append Prepend

-- the part of row x at that side of it: its last, or its first
abbrev pub inner_of : PairTables → Typing.Side → ℕ → ℕ
inner_of P append x = get_or P.rights x 0
inner_of P prepend x = get_or P.lefts x 0

-- the part at its other side
abbrev pub other_of : PairTables → Typing.Side → ℕ → ℕ
other_of P append x = get_or P.lefts x 0
other_of P prepend x = get_or P.rights x 0
