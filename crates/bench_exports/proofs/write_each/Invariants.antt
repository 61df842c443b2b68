-- The loop keeps that each entry written so far is one of its place. Assumes nothing.
use Rattle.std.proofs.Common.{ℕ}
use Rattle.bench_exports.specs.Measured.{Each}
use Rattle.bench_exports.proofs.write_each.Given as goal

abbrev pub invariant-loop-i : goal.invariant-loop-i
invariant-loop-i g l = Each (λ (k r : ℕ). goal.F-post g l.entry k r) l.i l.initial.out l.out
