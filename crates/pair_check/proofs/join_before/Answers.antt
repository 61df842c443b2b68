-- Two that are not marked are the parts of no row. Assumes nothing.
use native.Mathlib.Omega.{arith}
use borrow.Author.Tests.{not-true}
use Rattle.pair_check.proofs.Keys.{key-inside}
use Rattle.pair_check.proofs.Joins.{joins_unmarked}
use Rattle.pair_check.proofs.join_before.Goals as goal

pub is_marked-requires : goal.is_marked-requires
is_marked-requires c = (omega arith, key-inside _ _ _ _ c.pair_key.ensures c.requires.area_room)

pub returns-then-not-is_marked : goal.returns-then-not-is_marked
returns-then-not-is_marked c = joins_unmarked _ _ _ _ _ _ c.requires.below _ _ c.pair_key.ensures c.is_marked.ensures (not-true _ c.if-not-is_marked.true-raw)
