-- Packing loses nothing of a place below 2^32. Assumes nothing.
use Rattle.std.proofs.Common.{◌≡◌, ℕ, ◌^◌, ◌/◌, ◌%◌, ◌<◌, arith}
use Rattle.nahypora.specs.Packed.{packed}

module _ (number place : ℕ) (fits : place < 2 ^ 32) where
  -- the number of the cause can be read back
  pub number-back : packed number place / 2 ^ 32 ≡ number
  unfolding packed
  number-back = omega arith

  -- and so can the place
  pub place-back : packed number place % 2 ^ 32 ≡ place
  unfolding packed
  place-back = omega arith
