-- The shortest row that begins the text, and the descent from there. Assumes nothing.
use lib.Seq.{drop-drop}
use Rattle.forest.proofs.Descending.{root_none, root-some}
use Rattle.forest.proofs.longest.Goals as goal

pub returns-then-r : goal.returns-then-r
returns-then-r c = root_none _ _ _ _ _ _ c.root_child-m.ensures c.if-r.true

pub returns : goal.returns
returns c =
    let a = c.args in
    let m = c.root_child-m.result in
    root-some _ _ _ _ _ _ c.root_child-m.ensures c.if-r.false _ _ (rw (drop-drop m.len a.at a.text.now) c.descend.ensures)
