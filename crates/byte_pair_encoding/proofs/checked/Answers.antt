-- `byte_pair_encoding::checked` meets its contract, by the cases of `Checking`. Assumes nothing.
use native.Mathlib.Omega.{arith}
use Rattle.byte_pair_encoding.proofs.Refusals.{too_long, short-output, short_work}
use Rattle.byte_pair_encoding.proofs.Checking.{checked_form}
use Rattle.byte_pair_encoding.proofs.checked.Goals as goal
use Rattle.byte_pair_encoding.proofs.checked.Goals.{then-out-text-via-then-out-text, then-out-text-via-else-out-text+then-work-text}

pub returns-then-text-gt4096 : goal.returns-then-text-gt4096
returns-then-text-gt4096 c = too_long _ _ _ _ c.if-text-gt4096.true

pub returns-then-out-text : goal.returns-then-out-text
returns-then-out-text c = elim c.then-out-text.branch [
  | then-out-text-via-then-out-text w ↦ short-output _ _ _ _ c.if-text-gt4096.false w.if-out-text.true
  | then-out-text-via-else-out-text+then-work-text w ↦
      short_work _ _ _ _ c.if-text-gt4096.false w.if-out-text.false w.if-work-text.true
]

pub returns : goal.returns
returns c = rw c.ok_or.ensures.value (checked_form _ _ _ _ c.if-text-gt4096.false c.if-out-text.false (omega arith) _ c.in_form.ensures)
