-- The loop's invariant: the first i last codes are below n. Assumes nothing.
use mathlib.Core.Path.{refl}
use native.Mathlib.Omega.{arith}
use Rattle.interval_count.proofs.Forms.{codes-short, sweeping_start, sweeping_end, sweeping_fails, sweeping_more}
use Rattle.interval_count.proofs.IntervalTables.codes_in_form.Goals as goal

pub returns-then-self : goal.returns-then-self
returns-then-self c = codes-short _ _ _ c.if-self.true

pub loop-i-init : goal.loop-i-init
loop-i-init c = sweeping_start _ _ _ c.if-self.false

pub returns-then-n-self : goal.returns-then-n-self
returns-then-n-self c = sweeping_fails _ _ _ _ c.loop-i.invariant c.loop-i-test.true _ refl c.if-n-self.true

pub loop-i-preserved : goal.loop-i-preserved
loop-i-preserved c = sweeping_more _ _ _ _ c.loop-i.invariant c.loop-i-test.true _ refl c.if-n-self.false

pub returns : goal.returns
returns c = sweeping_end _ _ _ _ c.loop-i.invariant (omega arith)
