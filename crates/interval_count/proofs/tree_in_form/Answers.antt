-- The highest entry decides, by `Forms`. Assumes nothing.
use native.Mathlib.Omega.{arith}
use Rattle.interval_count.proofs.Forms.{tree_short, fitting_start, fitting_end, fitting_fails, fitting_higher, fitting_lower}
use Rattle.interval_count.proofs.tree_in_form.Goals.{then-highest-entry, else-highest-entry}
use Rattle.interval_count.proofs.tree_in_form.Goals as goal

pub returns-then-table-text : goal.returns-then-table-text
returns-then-table-text c = tree_short _ _ c.if-table-text.true

pub loop-i-init : goal.loop-i-init
loop-i-init c = fitting_start _ _ c.if-table-text.false

pub loop-i-preserved : goal.loop-i-preserved
loop-i-preserved c =
    elim c.if-highest-entry.branch [
      | then-highest-entry w ↦ rw w.highest-is (fitting_higher _ _ _ _ c.loop-i.invariant c.loop-i-test.true w.if-highest-entry.true)
      | else-highest-entry w ↦ rw w.highest-is (fitting_lower _ _ _ _ c.loop-i.invariant c.loop-i-test.true w.if-highest-entry.false)
    ]

pub returns-then-most-highest : goal.returns-then-most-highest
returns-then-most-highest c = fitting_fails _ _ _ _ c.loop-i.invariant (omega arith) c.if-most-highest.true

pub returns : goal.returns
returns c = fitting_end _ _ _ _ c.loop-i.invariant (omega arith) c.if-most-highest.false
