-- Parts of a text, and bytes put into a buffer as far as there is room.
use Rattle.std.specs.Prelude.{◌≡◌, List, [], ◌∷◌, cond, ℕ, suc, ◌+◌, ◌-◌, min, max, length, take, drop, leb, eqb}
use Rattle.std.proofs.lemmas.List.Edits.{sets}

-- the part from a place up to another one, or nothing where there is no such part
abbrev pub part_of : List ℕ → ℕ → ℕ → List ℕ
part_of s from to = cond (leb to (length s)) (take (to - from) (drop from s)) []

-- how many bytes stand before the first one of this value; all of them if there is none
unfoldable pub count_before : ℕ → List ℕ → ℕ
count_before byte [] = 0
count_before byte (x ∷ s) = cond (eqb x byte) 0 (suc (count_before byte s))

-- the place after the first byte of this value from a place on; the length if there is none
abbrev pub after_first : ℕ → List ℕ → ℕ → ℕ
after_first byte s from = min (length s) (from + count_before byte (drop from s) + 1)

-- the place behind so many bytes put from a place on, with so much room
abbrev pub behind : (at size room : ℕ) → ℕ
behind at size room = max at (min (at + size) room)

-- bytes put from a place on, as far as there is room: the place behind them, and the buffer at exit
pub record Put (out : List ℕ) (at : ℕ) (bytes out' : List ℕ) (r : ℕ) : Type 0 where
  pub place : r ≡ behind at (length bytes) (length out)
  pub stored : out' ≡ sets out at bytes
