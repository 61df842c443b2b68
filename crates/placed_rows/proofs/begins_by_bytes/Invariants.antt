-- The loop keeps that what is left of p begins what is left of t exactly if p begins t. Assumes nothing.
use mathlib.Core.Path.{◌≡◌}
use Prim.Native.Nat.{◌≤◌, ◌-◌}
use lib.ListN.{length, drop}
use Rattle.placed_rows.specs.Texts.{begins}
use Rattle.placed_rows.proofs.begins_by_bytes.Given as goal

abbrev pub invariant-loop-j : goal.invariant-loop-j
invariant-loop-j l = (l.j ≤ length l.p) × ((length l.p ≤ length l.t) × (begins l.p l.t ≡ begins (drop l.j l.p) (drop l.j l.t)))

abbrev pub decreases-loop-j : goal.decreases-loop-j
decreases-loop-j l = length l.p - l.j
