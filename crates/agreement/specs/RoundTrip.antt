-- Demand 2, "decoding any encoder's codes gives the text", as one statement of both contracts.
use Rattle.std.specs.Prelude.{◌≡◌, List, ◌++◌, ℕ, ◌≤◌, length, take, drop, Result, Ok}
use Rattle.causes.specs.declared.Cause.{Cause}
use Rattle.theory.specs.Dictionary.{Dictionary, Octets}
use Rattle.theory.specs.Merge.{encode}
use Rattle.theory.specs.Shortest.{shortest, greedy}
use Rattle.tables.specs.Tables.{Tables}
use Rattle.byte_pair_encoding.specs.Sending.{Sends}
use Rattle.decoder.specs.Decoding.{Decodes}

-- the answer is the text's length, and the text stands at the front of the output; beyond it stands what stood there
pub record TextBack (text room room' : List ℕ) (r : Result ℕ Cause) : Type 0 where
  pub answer : r ≡ Ok (length text)
  pub output : room' ≡ text ++ drop (length text) room

-- what an encoder that sends M wrote, as many codes as it answered, given to `decode_tokens` with room for the text
abbrev pub DecodesBack : (Dictionary → List ℕ → List ℕ) → Tables → Type 0
DecodesBack M T =
    (text out work out' work' : List ℕ) (sent : Result ℕ Cause) → Sends M T text out work out' work' sent → Octets text
    → (count : ℕ) → sent ≡ Ok count
    → (room room' : List ℕ) (decoded : Result ℕ Cause) → Decodes T (take count out') room room' decoded
    → length text ≤ length room → TextBack text room room' decoded

-- the five encoders: `encode_via_bitfield`, `encode_via_backtracking` and `encode_via_table` send the merge procedure's
-- codes, `encode_minimal` the shortest, `encode_greedy` the greedy ones
pub record RoundTrip (T : Tables) : Type 0 where
  pub merge : DecodesBack encode T
  pub fewest : DecodesBack shortest T
  pub longest : DecodesBack greedy T
