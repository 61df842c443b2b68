-- FNV-1a at 64 bits and the hash of a row: document 01, "Building", "Hash of a row"; document 02, ticket 4.
use Rattle.std.specs.Prelude.{◌≡◌, ℕ, zero, suc, ◌*◌, ◌/◌, ◌%◌, ◌^◌, List, [], ◌∷◌, ◌++◌, length, bit_xor}

-- "offset hex cbf29ce484222325": the value that the hash starts from
abbrev pub fnv_offset : ℕ
fnv_offset = 0xcbf2_9ce4_8422_2325

-- "prime hex 100000001b3"
abbrev pub fnv_prime : ℕ
fnv_prime = 0x100_0000_01b3

-- FNV-1a at one octet: exclusive or, then times the prime modulo 2 ^ 64
unfoldable pub fnv_step : ℕ → ℕ → ℕ
fnv_step h b = bit_xor h b * fnv_prime % 2 ^ 64

-- "FNV-1a, 64 bits": the octets in order, going on from the value h
unfoldable pub fnv : ℕ → List ℕ → ℕ
fnv h [] = h
fnv h (b ∷ bs) = fnv (fnv_step h b) bs

-- the lowest k octets of n, "low first"
unfoldable pub octets : ℕ → ℕ → List ℕ
octets zero n = []
octets (suc k) n = n % 256 ∷ octets k (n / 256)

-- what is hashed of a row: "the length as eight octets, low first, then the bytes"
unfoldable pub row_octets : List ℕ → List ℕ
row_octets bytes = octets 8 (length bytes) ++ bytes

-- "Hash of a row": FNV-1a of these octets; "multiplied by the factor modulo 2^64; the upper 32 bits count"
unfoldable pub row_hash : List ℕ → ℕ → ℕ
row_hash bytes factor = fnv fnv_offset (row_octets bytes) * factor % 2 ^ 64 / 2 ^ 32

-- "the whole's value before the factor" (02), r: FNV-1a of the octets of a row
pub record RowValue (bytes : List ℕ) (r : ℕ) : Type 0 where
  pub value : r ≡ fnv fnv_offset (row_octets bytes)
  -- "for every cut of those octets, going on from the first part's value over the second gives" it
  pub going_on : (first second : List ℕ) → first ++ second ≡ row_octets bytes
      → fnv (fnv fnv_offset first) second ≡ r
