-- The loop's invariant: the first i entries are the last codes, and the rest is as before. Assumes nothing.
use Rattle.table_encoder.proofs.Filling.{Filling}
use Rattle.tables.specs.Tables.{pair_given}
use Rattle.table_encoder.proofs.encode_all_prefixes.Given as goal

abbrev pub invariant-loop-i : goal.invariant-loop-i
invariant-loop-i l = Filling (pair_given l.tables) l.tables.rows.n l.text l.initial.table l.i l.table
