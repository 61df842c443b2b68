-- The loop keeps that a child that was not met yet is among the words that are left of the bucket. Assumes nothing.
use Prim.Native.Nat.{◌-◌}
use lib.ListN.{drop}
use Rattle.placed_rows.specs.Reading.{rows_of}
use Rattle.forest.proofs.Searching.{Search}
use Rattle.forest.proofs.listed_child.Given as goal

abbrev pub invariant-loop-step : goal.invariant-loop-step
invariant-loop-step l = Search (rows_of l.rows) l.rows.n l.area l.p l.len (drop l.at l.text) l.w (l.rows.n - l._step)
