-- Each turn writes the next place: the laws of a table that is filled. Assumes nothing.
use mathlib.Core.Path.{◌≡◌, ap, ◌∙◌}
use mathlib.Core.Logic.{inl}
use Prim.Native.Nat.{◌+◌}
use native.Mathlib.Omega.{arith}
use lib.ListN.{length, set}
use Rattle.std.specs.Iterator.Adapters.{enumerate_source, enumerate_count}
use Rattle.phrase_file.specs.declared.FileRecords.{FileRecords}
use Rattle.phrase_file.specs.Form.{places}
use Rattle.phrase_file.specs.Walk.{places_left}
use Rattle.phrase_file.proofs.Filling.{Filled, filled-start, filled-count, filled-all, filled_more}
use Rattle.phrase_file.proofs.Walking.{Passed, passed, left_behind, none-left, all-left}
use Rattle.phrase_file.proofs.fill_places.Goals as goal

pub loop-row-init : goal.loop-row-init
loop-row-init c =
    let it = c.into_iter-row-iterator.result in
    let source : enumerate_source it ≡ c.new.result = ap enumerate_source c.into_iter-row-iterator.ensures.into_iter_gives ∙ c.enumerate-row-items.ensures.source in
    let zero : enumerate_count it ≡ 0 = ap enumerate_count c.into_iter-row-iterator.ensures.into_iter_gives ∙ c.enumerate-row-items.ensures.count in
    let same : (enumerate_source it).file.now ≡ c.args.file.now = ap (λ (s : FileRecords). s.file.now) source ∙ c.new.ensures.file_is in
    let all : places_left (enumerate_source it) ≡ places c.args.file.now = all-left _ (enumerate_source it) same (ap (λ (s : FileRecords). s.at) source ∙ c.new.ensures.at_start) in
    record {
      can = (tt, tt, inl (omega (arith, zero, ap length all, c.requires.room)));
      ends = tt;
      same = same;
      filled = rw (zero, all) (filled-start _ _ c.requires.room);
    }

pub overflow_cast-table : goal.overflow_cast-table
overflow_cast-table c =
    let turn : Passed c.args.file.now (enumerate_source c.loop-row.row-iterator) c.in-Some.place (enumerate_source c.next.new.self) =
    passed _ _ _ _ c.loop-row.invariant.same c.in-Some.ensures.steps.0 in
    omega (arith, turn.row, c.requires.short)

pub loop-row-preserved : goal.loop-row-preserved
loop-row-preserved c =
    let w = c.in-Some.ensures.steps in
    let turn = passed _ _ _ _ c.loop-row.invariant.same w.0 in
    let next : Filled (places c.args.file.now) c.args.table.now (enumerate_count c.loop-row.row-iterator + 1) (places_left (enumerate_source c.next.new.self))
    (set c.loop-row.table (enumerate_count c.loop-row.row-iterator) c.in-Some.place) =
    filled_more _ _ c.requires.room _ _ _ c.loop-row.invariant.filled _ _ (left_behind _ _ _ w.0) in
    record {
      can = (tt, tt, inl (omega (arith, w.2, filled-count _ _ c.requires.room _ _ _ next, c.requires.room)));
      ends = tt;
      same = turn.same;
      filled = rw (w.2, w.1) next;
    }

pub returns : goal.returns
returns c = filled-all _ _ c.requires.room _ _ _ c.loop-row.invariant.filled (none-left _ _ c.in-None.ensures.steps.0)
