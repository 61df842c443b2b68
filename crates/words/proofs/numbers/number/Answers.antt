-- A wrong byte. Assumes nothing.
use Rattle.std.proofs.Common.{arith}
use Rattle.std.proofs.lemmas.Grind.{common_steps}
use Rattle.words.proofs.Digits.{digits_after_none}
use Rattle.words.proofs.numbers.number.Goals as goal

pub returns-in_err-value : goal.returns-in_err-value
returns-in_err-value c =
    let h = c.loop-byte.invariant in
    let e = c.add_digit.ensures in
    grind (arith, common_steps, digits_after_none)
