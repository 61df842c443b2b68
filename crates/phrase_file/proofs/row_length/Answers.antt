-- What is read is a whole record, or a test of one fails: the laws of a record. Assumes nothing.
use native.Mathlib.Omega.{arith}
use borrow.Author.Rules.{rules}
use Rattle.phrase_file.proofs.Records.{no_length, length-byte}
use Rattle.phrase_file.proofs.row_length.Goals as goal

pub returns-then-file-at : goal.returns-then-file-at
returns-then-file-at c = no_length _ _ (λ w. omega (arith, w.some, w.inside))

pub returns-then-left-lt4 : goal.returns-then-left-lt4
returns-then-left-lt4 c = no_length _ _ (λ w. omega (arith, w.some, w.inside))

pub returns-then-file-at-2 : goal.returns-then-file-at-2
returns-then-file-at-2 c = no_length _ _ (λ w. c.if-file-at-2.true w.first)

pub returns-then-file-at-ne81 : goal.returns-then-file-at-ne81
returns-then-file-at-ne81 c = no_length _ _ (λ w. c.if-file-at-ne81.true w.second)

pub returns-then-length-lt1 : goal.returns-then-length-lt1
returns-then-length-lt1 c = no_length _ _ (λ w. omega (arith, w.some))

pub returns-then-length-gt64 : goal.returns-then-length-gt64
returns-then-length-gt64 c = no_length _ _ (λ w. omega (arith, w.most))

pub returns-then-left-length : goal.returns-then-left-length
returns-then-left-length c = no_length _ _ (λ w. omega (arith, w.inside))

pub returns : goal.returns
returns c = length-byte _ _ (search rules)
