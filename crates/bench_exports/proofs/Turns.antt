-- Entries that a loop writes one after the other. Assumes nothing.
use Rattle.std.proofs.Common.{ℕ, List, ◌<◌}
use Rattle.bench_exports.specs.Measured.{Each}

-- what holds of each entry follows from what was written
pub each_of : {P Q : ℕ → ℕ → Type 0} {m : ℕ} {out out' : List ℕ} → ((i r : ℕ) → i < m → P i r → Q i r)
    → Each P m out out' → Each Q m out out'
each_of f E = record { kept = E.kept; beyond = E.beyond; each = λ i h. f i _ h (E.each i h) }
