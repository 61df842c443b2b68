-- Each turn passes one row. Assumes nothing.
use Rattle.std.proofs.Common.{sym, ◌∙◌, arith}
use Rattle.phrase_file.proofs.Places.{Row, row-found, none_found}
use Rattle.tool_io.proofs.Lengths.{longest_start, longest_on, longest_end}
use Rattle.tool_io.proofs.rows.longest.Goals as goal

pub loop-most-init : goal.loop-most-init
loop-most-init c = longest_start _

pub returns-then-size-eq0-clause-longest : goal.returns-then-size-eq0-clause-longest
returns-then-size-eq0-clause-longest c =
    longest_end _ _ _ c.loop-most.invariant (none_found _ _ (sym c.row_length-size.ensures ∙ c.if-size-eq0.true))

pub loop-most-preserved : goal.loop-most-preserved
loop-most-preserved c =
    let r : Row c.args.file.now c.loop-most.at c.row_length-size.result =
    row-found _ _ _ c.row_length-size.ensures c.if-size-eq0.false in
    longest_on _ _ _ _ _ c.loop-most.invariant r (omega arith) (omega arith) (omega (arith, r))
