-- Each turn writes the next place: the laws of a table that is filled. Assumes nothing.
use mathlib.Core.Path.{◌≡◌}
use Rattle.std.specs.Iterator.Adapters.{enumerate_source, enumerate_count}
use Rattle.phrase_file.specs.Form.{places}
use Rattle.phrase_file.specs.Walk.{places_left}
use Rattle.phrase_file.proofs.Filling.{Filled}
use Rattle.phrase_file.proofs.fill_places.Given as goal

abbrev pub invariant-loop-row : goal.invariant-loop-row
invariant-loop-row l = record {
  can : (goal.iterator-loop-row).can_next l.row-iterator;
  ends : (goal.iterator-loop-row).is_finite l.row-iterator;
  same : (enumerate_source l.row-iterator).file.now ≡ l.file;
  filled : Filled (places l.file) l.initial.table (enumerate_count l.row-iterator) (places_left (enumerate_source l.row-iterator)) l.table;
}
