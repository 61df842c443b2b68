-- `merge_encoder::fill_byte_codes` meets its contract: each turn is one of `Starting`. Assumes nothing.
use Rattle.merge_encoder.specs.Steps.{KnownBytes}
use Rattle.merge_encoder.proofs.Starting.{Filling}
use Rattle.tables.specs.Tables.{pair_given}
use Rattle.merge_encoder.proofs.fill_byte_codes.Given as goal

abbrev pub invariant-loop-at : goal.invariant-loop-at
invariant-loop-at l = record {
  filling : Filling (pair_given l.tables) l.tables.rows.n l.text l.at l.codes;
  known : KnownBytes (pair_given l.tables) l.tables.rows.n l.known;
}
