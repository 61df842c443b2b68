-- The loop's invariant: the codes up to each of the first i places are counted (proofs/Many.antt). Assumes nothing.
use Rattle.limited_count.proofs.Many.{Counting}
use Rattle.tables.specs.Tables.{pair_given}
use Rattle.limited_count.proofs.have_many_codes.Given as goal

abbrev pub invariant-loop-i : goal.invariant-loop-i
invariant-loop-i l = Counting (pair_given l.tables) l.tables.rows.n l.text l.limit l.i l.many l.codes l.counts
