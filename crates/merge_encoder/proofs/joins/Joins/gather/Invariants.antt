-- `Joins::gather` meets its contract: each turn is one of `Gathering`. Assumes nothing.
use Rattle.std.proofs.Common.{length}
use Rattle.merge_encoder.proofs.Gathering.{Gathering}
use Rattle.merge_encoder.proofs.joins.Joins.gather.Given as goal

abbrev pub invariant-loop-at : goal.invariant-loop-at
invariant-loop-at l = Gathering l.self.live.words l.codes (length l.codes) l.initial.out l.out l.count l.at
