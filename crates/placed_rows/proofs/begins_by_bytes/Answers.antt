-- The loop keeps that what is left of p begins what is left of t exactly if p begins t. Assumes nothing.
use mathlib.Core.Path.{refl, sym, ◌∙◌}
use native.Mathlib.Omega.{arith}
use lib.ListN.{drop}
use Rattle.placed_rows.proofs.Beginning.{begins-more, begins_miss, begins-end, begins-long}
use Rattle.placed_rows.proofs.begins_by_bytes.Goals as goal

pub returns-then-t-p : goal.returns-then-t-p
returns-then-t-p c = sym (begins-long _ _ c.if-t-p.true)

pub loop-j-init : goal.loop-j-init
loop-j-init c = (omega arith, (omega arith, refl))

pub returns-then-p-j : goal.returns-then-p-j
returns-then-p-j c =
    let l = c.loop-j in
    let a = c.args in
    sym (l.invariant.1.1 ∙ begins_miss a.p.now a.t.now l.j (omega arith) (omega arith) c.if-p-j.true)

pub loop-j-preserved : goal.loop-j-preserved
loop-j-preserved c =
    let l = c.loop-j in
    let a = c.args in
    (omega arith, (omega arith, l.invariant.1.1 ∙ begins-more a.p.now a.t.now l.j (omega arith) (omega arith) c.if-p-j.false))

pub returns : goal.returns
returns c = let l = c.loop-j in let a = c.args in sym (l.invariant.1.1 ∙ begins-end a.p.now (drop l.j a.t.now) l.j (omega arith))
