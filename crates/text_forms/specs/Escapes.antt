-- What a line of escaped bytes means: \xNN is the byte NN, \t a tab, \n a line end, \\ a backslash; any other byte is
-- itself.
use Rattle.std.specs.Prelude.{◌≡◌, ℕ, ◌+◌, ◌-◌, ◌*◌, ◌%◌, cond, List, [], ◌∷◌, ◌++◌, length, take, ◌==◌, nat_le, nat_lt}
use Rattle.std.specs.Prelude.{Option, Some, None, Result, Ok, Err}
use Rattle.text_forms.specs.declared.escapes.Reading.{Reading}
use Rattle.text_forms.specs.declared.escapes.Reading.TheVariants.{Plain, Escape, High, Low}
use Rattle.text_forms.specs.declared.escapes.Step.{Step}
use Rattle.text_forms.specs.declared.escapes.Step.TheVariants.{Writes, Goes, Wrong}
use Rattle.text_forms.specs.declared.escapes.PhraseError.{PhraseError}
use Rattle.text_forms.specs.declared.escapes.PhraseError.TheVariants.{Empty, Long, WrongEscape}

-- the value of a hex digit: 0 to 9, A to F, a to f
abbrev pub value_of : ℕ → Option ℕ
value_of b =
    cond (nat_lt b 48) None (cond (nat_le b 57) (Some (b - 48))
    (cond (nat_lt b 65) None (cond (nat_le b 70) (Some (b - 55))
    (cond (nat_lt b 97) None (cond (nat_le b 102) (Some (b - 87)) None)))))

-- the byte after a backslash: x, t, n or a backslash
abbrev pub backslashed : ℕ → Step
backslashed b =
    cond (b == 120) (Goes High) (cond (b == 116) (Writes 9)
    (cond (b == 110) (Writes 10) (cond (b == 92) (Writes 92) Wrong)))

-- the first digit after \x
abbrev pub first_digit : Option ℕ → Step
first_digit (Some v) = Goes (Low v)
first_digit None = Wrong

-- the second digit, after one of value h
abbrev pub second_digit : ℕ → Option ℕ → Step
second_digit h (Some v) = Writes (h % 16 * 16 + v % 16)
second_digit h None = Wrong

-- what a byte does, by where the reader stands
abbrev pub step_of : Reading → ℕ → Step
step_of Plain b = cond (b == 92) (Goes Escape) (Writes b)
step_of Escape b = backslashed b
step_of High b = first_digit (value_of b)
step_of (Low h) b = second_digit h (value_of b)

-- what a line means: its bytes, more bytes than there is room for, or nothing, for a wrong escape
pub data Meaning : Type 0 where
  whole : List ℕ → Meaning
  long wrong : Meaning

-- the end of a line: no escape may be open
abbrev pub ending : Reading → List ℕ → Meaning
ending Plain w = whole w
ending Escape w = wrong
ending High w = wrong
ending (Low h) w = wrong

-- a step after the bytes w, with room for so many, and how the rest goes on
abbrev pub after : ℕ → Step → List ℕ → (Reading → List ℕ → Meaning) → Meaning
after room (Writes v) w more = cond (nat_lt (length w) room) (more Plain (w ++ (v ∷ []))) long
after room (Goes r) w more = more r w
after room Wrong w more = wrong

-- what the rest of a line means after the bytes w, with room for so many
unfoldable pub meaning : ℕ → Reading → List ℕ → List ℕ → Meaning
meaning room r w [] = ending r w
meaning room r w (b ∷ rest) = after room (step_of r b) w (λ (r' : Reading) (w' : List ℕ). meaning room r' w' rest)

-- what is answered at the end of a line of so many bytes
abbrev pub end_of : Reading → ℕ → Result ℕ PhraseError
end_of Plain size = cond (size == 0) (Err Empty) (Ok size)
end_of Escape size = Err WrongEscape
end_of High size = Err WrongEscape
end_of (Low h) size = Err WrongEscape

-- what is answered
abbrev pub phrase_of : Meaning → Result ℕ PhraseError
phrase_of (whole w) = end_of Plain (length w)
phrase_of long = Err Long
phrase_of wrong = Err WrongEscape

-- the answer for a line and a buffer, and the buffer at exit: the bytes that the line means, at its front
pub record Unescaped (line out out' : List ℕ) (r : Result ℕ PhraseError) : Type 0 where
  pub answer : r ≡ phrase_of (meaning (length out) Plain [] line)
  pub bytes : (w : List ℕ) → meaning (length out) Plain [] line ≡ whole w → take (length w) out' ≡ w
