-- `clashes::has` meets its contract. The loop's invariant: the list from row `at`, over the rows below `below`, gives the bucket's answer. Assumes nothing.
use mathlib.Core.Path.{sym, ◌∙◌}
use native.Mathlib.Omega.{arith}
use Rattle.clashes.proofs.Chains.{listed_out, listed_here, listed-on}
use Rattle.clashes.proofs.has.Goals as goal

pub returns-then-is_sought : goal.returns-then-is_sought
returns-then-is_sought g c =
    let l = c.loop-at in
    sym (listed_here _ _ l.below l.at c.loop-at-test.true (sym c.is_sought.ensures ∙ c.if-is_sought.true)) ∙ l.invariant.1

pub loop-at-preserved : goal.loop-at-preserved
loop-at-preserved g c =
    let l = c.loop-at in
    (omega arith, sym (listed-on _ _ l.below l.at c.loop-at-test.true (sym c.is_sought.ensures ∙ c.if-is_sought.false)) ∙ l.invariant.1)

pub returns : goal.returns
returns g c = let l = c.loop-at in sym (listed_out _ _ l.below l.at c.loop-at-test.false) ∙ l.invariant.1
