-- The lines so far say the phrases of the file so far; each turn adds one. Assumes nothing.
use Rattle.std.proofs.Common.{arith, rules}
use Rattle.text_forms.proofs.Sheets.{none_yet, one_more, all_made}
use Rattle.text_forms.proofs.sheet.make_file.Goals as goal

pub loop-at-init : goal.loop-at-init
loop-at-init c = (omega arith, none_yet _ _)

pub loop-at-preserved : goal.loop-at-preserved
loop-at-preserved c = (
  omega arith,
  one_more _ _ _ _ _ _ _ _ _ c.loop-at.invariant.1 c.loop-at-test.true c.until.ensures c.in-Ok.ensures
      c.after-at.ensures.1,
)

pub returns : goal.returns
returns c = record { same = search rules; made = all_made _ _ _ _ _ c.loop-at.invariant.1 c.loop-at-test.false }
