-- The number that decimal digits write.
use Rattle.std.specs.Prelude.{List, [], ◌∷◌, cond, ◌&&◌, ℕ, ◌+◌, ◌*◌, ◌-◌, leb, Option, Some, None}

-- one digit more: nothing for another byte, and for a number of more than 64 bits
abbrev pub with_digit : ℕ → ℕ → Option ℕ
with_digit value byte =
    cond (leb 48 byte && (leb byte 57 && leb (value * 10 + (byte - 48)) 18446744073709551615))
    (Some (value * 10 + (byte - 48))) None

-- the digits of a word, after those that wrote a number
abbrev pub digits_after : Option ℕ → List ℕ → Option ℕ
digits_after p [] = p
digits_after (Some value) (byte ∷ s) = digits_after (with_digit value byte) s
digits_after None (byte ∷ s) = None

-- the number that a word writes; a word of no digits writes nothing
abbrev pub number_of : List ℕ → Option ℕ
number_of [] = None
number_of (byte ∷ s) = digits_after (Some 0) (byte ∷ s)
