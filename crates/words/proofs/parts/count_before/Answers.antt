-- The place of the first such byte. Assumes nothing.
use Rattle.std.proofs.Common.{eqb, rules, tests}
use Rattle.std.proofs.lemmas.Iterator.{YieldsList-from_slice}
use Rattle.std.proofs.lemmas.Iterator.Search.{position_from_yields_List}
use Rattle.words.proofs.Pieces.{count_before_is}
use Rattle.words.proofs.parts.count_before.Goals as goal

pub returns : goal.returns
returns c =
    count_before_is _ _ _ _
    (position_from_yields_List (λ x. eqb x c.args.byte) _ _ c.position.result c.position.ensures.ran
    (YieldsList-from_slice c.args.s.now cc) (λ x b q k. search (rules, tests)))
    c.unwrap_or.ensures
