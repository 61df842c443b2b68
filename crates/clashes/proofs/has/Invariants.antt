-- `clashes::has` meets its contract. The loop's invariant: the list from row `at`, over the rows below `below`, gives the bucket's answer. Assumes nothing.
use mathlib.Core.Path.{◌≡◌}
use Prim.Native.Nat.{◌≤◌}
use Rattle.placed_rows.specs.Reading.{rows_of}
use Rattle.clashes.specs.Buckets.{head, listed, is_sought}
use Rattle.clashes.proofs.has.Given as goal

abbrev pub invariant-loop-at : goal.invariant-loop-at
invariant-loop-at g l =
    (l.below ≤ l.count)
    × (listed l.scratch (is_sought l.scratch (rows_of l.rows) l.hash l.bytes g.S.Sought.exact) l.below l.at
    ≡ listed l.scratch (is_sought l.scratch (rows_of l.rows) l.hash l.bytes g.S.Sought.exact) l.count (head l.scratch l.hash))

abbrev pub decreases-loop-at : goal.decreases-loop-at
decreases-loop-at g l = l.below
