-- Bursts of 40 codes.
use Rattle.std.specs.Prelude.{ℕ, ◌+◌, ◌-◌, ◌*◌, ◌/◌}

-- how many bursts so many codes take
abbrev pub bursts_of : ℕ → ℕ
bursts_of count = (count + 39) / 40

-- how many codes the last of these bursts still has room for
abbrev pub left_of : ℕ → ℕ
left_of count = bursts_of count * 40 - count
