-- A hint that has the two as its parts is the row; else their join decides. Assumes nothing.
use Rattle.pair_check.proofs.Keys.{hint_below}
use Rattle.pair_check.proofs.Joins.{joins_listed, joins_hinted, joins_other}
use Rattle.pair_check.proofs.look_up.Goals as goal

pub hint_at-hint-requires : goal.hint_at-hint-requires
hint_at-hint-requires c = (hint_below _ _ _ c.hint_place.ensures, c.requires.area_room)

pub returns-then-is_listed_before : goal.returns-then-is_listed_before
returns-then-is_listed_before c = rw c.row_below.ensures (joins_hinted _ _ _ _ _ _ c.requires.below _ _ c.is_listed_before.ensures c.if-is_listed_before.true)

pub returns-then-is_listed_before-2 : goal.returns-then-is_listed_before-2
returns-then-is_listed_before-2 c = joins_listed _ _ _ _ _ _ c.requires.below _ _ c.is_listed_before-2.ensures c.if-is_listed_before-2.true

pub returns : goal.returns
returns c = joins_other _ _ _ _ _ _ c.requires.below _ _ c.join-combined.ensures c.is_listed_before-2.ensures c.if-is_listed_before-2.false
