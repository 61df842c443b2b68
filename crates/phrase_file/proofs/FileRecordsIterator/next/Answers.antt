-- A record that is passed is one of those that were left: the laws of places. Assumes nothing.
use native.Mathlib.Omega.{arith}
use Rattle.phrase_file.proofs.Places.{Row, row-found}
use Rattle.phrase_file.proofs.Walking.{passes_on}
use Rattle.phrase_file.proofs.FileRecordsIterator.next.Goals as goal

pub overflow_add-self : goal.overflow_add-self
overflow_add-self c =
    let turn : Row c.args.self.now.file.now c.args.self.now.at c.row_length-length.result = row-found _ _ _ c.row_length-length.ensures c.if-length-eq0.false in
    omega (arith, turn)

pub overflow_add-self-2 : goal.overflow_add-self-2
overflow_add-self-2 c =
    let turn : Row c.args.self.now.file.now c.args.self.now.at c.row_length-length.result = row-found _ _ _ c.row_length-length.ensures c.if-length-eq0.false in
    omega (arith, turn)

pub returns-clause-goes : goal.returns-clause-goes
returns-clause-goes c =
    let turn : Row c.args.self.now.file.now c.args.self.now.at c.row_length-length.result = row-found _ _ _ c.row_length-length.ensures c.if-length-eq0.false in
    record { on = λ _. (tt, tt, omega (arith, passes_on _ _ _ turn)); keeps = tt; rests = λ _. tt }
