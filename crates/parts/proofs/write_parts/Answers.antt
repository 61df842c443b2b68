-- Rests on what naming a row and marking a pair leave. Assumes nothing.
use native.Mathlib.Omega.{arith}
use Rattle.pair_check.proofs.Keys.{key-inside}
use Rattle.parts.proofs.Marking.{written-single, written-marked}
use Rattle.parts.proofs.write_parts.Goals as goal

pub returns-then-w-left : goal.returns-then-w-left
returns-then-w-left c = written-single _ _ _ _ _ _ (omega arith)

pub mark-requires : goal.mark-requires
mark-requires c = (omega arith, key-inside _ _ _ _ c.pair_key.ensures (omega (arith, c.name_row.ensures.kept.area_length, c.requires.area_room)))

pub returns : goal.returns
returns c = written-marked _ _ _ _ _ _ _ _ _ c.name_row.ensures c.pair_key.ensures c.mark.ensures
