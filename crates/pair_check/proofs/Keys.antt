-- The keys of pairs, which hint is theirs, and the keys of seams. Assumes nothing.
use mathlib.Core.Path.{◌≡◌, ap}
use Prim.Native.Nat.{ℕ, ◌+◌, ◌*◌, ◌/◌, ◌%◌, ◌≤◌, ◌<◌}
use native.Mathlib.Omega.{arith}
use Rattle.marks.specs.Marks.{bit_key}
use Rattle.marks.proofs.Laws.{bit_key_number}
use Rattle.pair_check.specs.Pair.{pair_hash, pair_key, hint_place, seam_bit, seam_key}

pub hash_below : (u v : ℕ) → pair_hash u v < 4294967296
unfolding pair_hash
hash_below u v = omega arith

pub key_below : (u v : ℕ) → pair_key u v < 1048576
unfolding pair_key
key_below u v = let z = hash_below u v in omega arith

-- the number of a key stands in a search area of this size
pub key-inside : (u v k size : ℕ) → k ≡ pair_key u v → 16384 ≤ size → 15360 + k / 1024 < size
key-inside u v k size e h = omega (arith, key_below u v)

-- there are 4,608 hints
pub hint_below : (u v p : ℕ) → p ≡ hint_place u v → p < 4608
unfolding hint_place
hint_below u v p e = let z = hash_below u v in omega arith

-- the seam s of the bytes a and b
module _ (a b s : ℕ) (e : s ≡ seam_bit a b) where
  pub seam-below : s < 16384
  unfolding seam_bit
  seam-below = omega arith

  pub seam_bit_key : bit_key (s / 32) (s % 32) ≡ seam_key a b
  unfolding seam_key
  seam_bit_key = ap (λ (z : ℕ). bit_key (z / 32) (z % 32)) e

  pub seam_key_is : s / 32 * 1024 + s % 32 * 33 ≡ seam_key a b
  unfolding seam_key bit_key
  seam_key_is = ap (λ (z : ℕ). z / 32 * 1024 + z % 32 * 33) e

-- the number of a seam's key is one of 512
pub seam-number : (a b : ℕ) → seam_key a b / 1024 < 512
unfolding seam_key seam_bit
seam-number a b = rw (bit_key_number (seam_bit a b / 32) (seam_bit a b % 32) (omega arith)) (omega arith)
