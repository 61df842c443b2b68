-- `clashes::first_sought` meets its contract. The loop's invariant: the rows looked at stand in the scratch, and none of them has what is looked for of an earlier one. Assumes nothing.
use native.Mathlib.Omega.{arith}
use Rattle.clashes.proofs.Indexed.{indexed_start, stops, goes_on, found_at, found_none}
use Rattle.clashes.proofs.first_sought.Goals as goal

pub loop-row-init : goal.loop-row-init
loop-row-init g c = indexed_start _ _ _ _ c.empty.ensures

pub returns-then-has : goal.returns-then-has
returns-then-has g c =
    let l = c.loop-row in (
      found_at _ _ _ _ _ _ c.requires c.empty.ensures l.invariant _ _
          (stops _ _ _ _ _ _ _ _ _ l.invariant c.bytes_of-bytes.ensures c.hash_bytes-hash.ensures c.has.ensures _ (omega arith) c.if-has.true),
      omega arith,
    )

pub loop-row-preserved : goal.loop-row-preserved
loop-row-preserved g c =
    let few = c.args.rows.now.placed.few in
    let same = c.loop-row.invariant.kept in
    goes_on _ _ _ _ _ _ _ _ _ c.loop-row.invariant c.bytes_of-bytes.ensures c.hash_bytes-hash.ensures c.has.ensures _ (omega arith) (omega arith) c.if-has.false c.push.ensures

pub returns : goal.returns
returns g c = let l = c.loop-row in found_none _ _ _ _ _ _ c.requires c.empty.ensures l.invariant _ (omega arith)
