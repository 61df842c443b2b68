-- By the law of the bucket of a row. Assumes nothing.
use mathlib.Core.Path.{sym}
use native.Mathlib.Omega.{arith}
use Rattle.forest.proofs.Packing.{bucket_row}
use Rattle.forest.proofs.bucket.Goals as goal

pub returns : goal.returns
returns c = record { is = sym (bucket_row _ _ (λ z. omega (arith, c.requires))); below = omega arith }
