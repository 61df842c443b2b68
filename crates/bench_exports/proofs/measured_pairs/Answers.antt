-- Each entry is what the closure ensures of it. Assumes nothing.
use Rattle.std.proofs.Common.{rules}
use Rattle.bench_exports.proofs.Turns.{each_of}
use Rattle.bench_exports.proofs.measured_pairs.Goals as goal

pub returns : goal.returns
returns c = each_of (λ i r h p. search rules) c.write_each.ensures
