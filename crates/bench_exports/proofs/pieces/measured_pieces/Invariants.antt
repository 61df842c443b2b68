-- The loop keeps that each entry written so far is the count of its piece, and the work buffer's size. Assumes nothing.
use Rattle.std.proofs.Common.{◌≡◌, ℕ, length, get_or}
use Rattle.tables.specs.Tables.{given}
use Rattle.bench_exports.specs.Measured.{Each}
use Rattle.bench_exports.specs.Core.{PieceNumber}
use Rattle.bench_exports.proofs.pieces.measured_pieces.Given as goal

abbrev pub invariant-loop-i : goal.invariant-loop-i
invariant-loop-i l = record {
  kept : length l.work ≡ length l.initial.work;
  each : Each (λ (k r : ℕ). PieceNumber (given l.tables) l.tables.rows.n l.prepared.text.now l.prepared.last_codes.now l.prepared.numbers.now l.prepared.ends.now l.prepared.depths.now (get_or l.froms k 0) (get_or l.tos k 0) r) l.i l.initial.out l.out;
}
