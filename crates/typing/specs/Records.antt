-- Typing records as the definitions see them, and their fields as columns.
use Rattle.std.specs.Prelude.{List, map, ℕ}
use Rattle.theory.specs.Typing.{Entry}
use Rattle.typing.specs.declared.State.{State}

-- what stands past the end of a list of records
abbrev pub no_state : State
no_state = record { byte = 0; code = 0; count = 0 }

-- a record: byte, last code (in prepending first code), count
abbrev pub entry_of : State → Entry
entry_of s = record { byte = s.byte; code = s.code; count = s.count }

abbrev pub bytes_of : List State → List ℕ
bytes_of = map (λ (s : State). s.byte)

abbrev pub codes_of : List State → List ℕ
codes_of = map (λ (s : State). s.code)

abbrev pub counts_of : List State → List ℕ
counts_of = map (λ (s : State). s.count)
