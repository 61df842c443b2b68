-- The codes of a text's bytes, each byte's found once. Assumes nothing.
use mathlib.Core.Path.{◌≡◌, refl}
use mathlib.Core.List.{List, ◌++◌}
use Prim.Native.Nat.{ℕ, ◌≤◌, ◌<◌}
use native.Mathlib.Omega.{arith}
use lib.ListN.{length, length-replicate, get_or-replicate, get_or-eq_default, replicate, get_or, take, drop}
use native.Mathlib.Decide.{dec_lt}
use Rattle.std.proofs.Common.{Option, None, IfSome}
use Rattle.theory.specs.Merge.{byte_codes}
use Rattle.merge_encoder.specs.Encoding.{WhenBuilt, Codes}
use Rattle.merge_encoder.specs.Steps.{ByteCode, KnownBytes}
use Rattle.tables.specs.Tables.{PairTables}

-- no byte was met
pub known_start : (P : PairTables) (n : ℕ) → KnownBytes P n (replicate 256 None)
known_start P n = (length-replicate {A = Option ℕ} 256 None, λ b. go b (dec_lt b 256))
  where
    go : (b : ℕ) → Dec (b < 256) → IfSome (get_or (replicate 256 None) b None) (ByteCode P n b)
    go b (yes l) = rw (get_or-replicate {A = Option ℕ} 256 b None None l) tt
    go b (no l) = rw (get_or-eq_default {A = Option ℕ} (replicate 256 None) None {n = b} (omega (arith, length-replicate {A = Option ℕ} 256 None))) tt

-- the codes of the first i bytes
pub record Filling (P : PairTables) (n : ℕ) (text : List ℕ) (i : ℕ) (now : List ℕ) : Type 0 where
  pub few : i ≤ length text
  pub codes : Codes i now n
  pub size : length now ≡ length text
  pub built : WhenBuilt P n (λ D. take i now ++ byte_codes D (drop i text) ≡ byte_codes D text)

module _ (P : PairTables) (n : ℕ) (text : List ℕ) where
  pub fill_start : (work : List ℕ) → length work ≡ length text → Filling P n text 0 work
  fill_start work e = record { few = omega arith; codes = λ i h. absurd (omega arith); size = e; built = λ prefixes B. refl }
