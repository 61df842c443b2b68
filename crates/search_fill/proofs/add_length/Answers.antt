-- The loop keeps that the rows before time 4096 * len + c are in. Assumes nothing.
use mathlib.Core.Path.{sym, ◌∙◌}
use native.Mathlib.Omega.{arith}
use Rattle.search_fill.proofs.Adding.{rows_start, rows_join, rows_skip, rows-add, rows_end}
use Rattle.search_fill.proofs.add_length.Goals as goal
use Rattle.search_fill.proofs.add_length.Goals.{then-length_of-len, else-length_of-len}

pub loop-c-init : goal.loop-c-init
loop-c-init c = rows_start _ _ _ _ _ _ (omega arith)

pub loop-c-preserved : goal.loop-c-preserved
loop-c-preserved c =
    let l = c.loop-c in
    let N = c.args.rows.now.placed.few in
    let e = c.length_of.ensures.is in
    rows_join _ _ _ _ _ _ _ _ _ l.invariant (elim c.if-length_of-len.branch [
      | then-length_of-len w ↦ rw w.area-is (rows-add _ _ _ N l.area c.args.len l.c _ (omega arith) (sym e ∙ w.if-length_of-len.true) w.add_row.ensures)
      | else-length_of-len w ↦ rw w.area-is (rows_skip _ _ _ N l.area c.args.len l.c (omega arith) (λ z. w.if-length_of-len.false (e ∙ z)))
    ])

pub returns : goal.returns
returns c =
    let l = c.loop-c in
    rows_join _ _ _ _ _ _ _ _ _ l.invariant (rows_end _ _ _ c.args.rows.now.placed.few _ c.args.len l.c (omega arith))
