-- Rests on the child in the rows' part. Assumes nothing.
use mathlib.Core.Path.{sym}
use native.Mathlib.Omega.{arith}
use lib.ListN.{length-drop, drop}
use lib.Seq.{drop-drop}
use Rattle.search_area.proofs.Stepping.{longer_match}
use Rattle.search_area.proofs.longer_match.Goals as goal

pub returns : goal.returns
returns c =
    let text = c.args.text.now in
    longer_match _ _ _ _ (drop c.args.at text) _ _ _ _ _ (omega (arith, c.requires.row_lt_n.1, length-drop c.args.at text)) (sym (drop-drop c.args.len c.args.at text)) c.child.ensures
