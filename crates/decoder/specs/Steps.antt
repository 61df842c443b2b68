-- What the functions under decoding require and ensure.
use Rattle.std.specs.Prelude.{◌≡◌, List, ℕ, ◌≤◌, ◌<◌, length, get_or, take}
use Rattle.theory.specs.Dictionary.{spell}
use Rattle.tables.specs.Ready.{PlacesReady}
use Rattle.built_tables.specs.Built.{dictionary_of}

-- at most 4,096 codes, each a row of the file
pub record CodesReady (file placeTable : List ℕ) (n : ℕ) (tokens : List ℕ) : Type 0 where
  pub places_ready : PlacesReady file placeTable n
  pub few : length tokens ≤ 4096
  pub known : (i : ℕ) → i < length tokens → get_or tokens i 0 < n

-- so many bytes may be copied
pub record CopyReady (source : List ℕ) (count : ℕ) (out : List ℕ) : Type 0 where
  pub given : count ≤ length source
  pub room : count ≤ length out

-- so many bytes are copied; what stands behind them is left free
pub record Copied (source : List ℕ) (count : ℕ) (out out' : List ℕ) : Type 0 where
  pub kept : length out' ≡ length out
  pub is : take count out' ≡ take count source

-- codes that may be decoded, and an output as long as the bytes that they spell
pub record WriteReady (file placeTable : List ℕ) (n : ℕ) (tokens out : List ℕ) : Type 0 where
  pub codes_ready : CodesReady file placeTable n tokens
  pub exact : length out ≡ length (spell (dictionary_of file) tokens)
