-- The causes of document 01, and 13 of document 02: the number of each, the place that is returned with it, and the
-- same for every answer.
use Rattle.std.specs.Prelude.{Bool, cond, ℕ, Option, Some, None, Result, Ok, Err}
use Rattle.causes.specs.declared.Cause.{Cause}
use Rattle.causes.specs.declared.Cause.TheVariants.{FactorZero, BadRecord, RowCount, MissingByte, EqualRow}
use Rattle.causes.specs.declared.Cause.TheVariants.{NoParts, TooShort, OutOfForm, TooLong, UnknownCode}
use Rattle.causes.specs.declared.Cause.TheVariants.{BadInterval, Full, SameHash}

-- the number of a cause ("No.") and its place ("Returned place"); of an answer that is no refusal, 0 and its value
pub record Refusal : Type 0 where
  pub number : ℕ
  pub place : ℕ

-- the table of causes, in its order, and the later numbers behind it
abbrev pub refusal_of : Cause → Refusal
refusal_of FactorZero = record { number = 1; place = 0 }
refusal_of (BadRecord offset) = record { number = 2; place = offset }
refusal_of (RowCount n) = record { number = 3; place = n }
refusal_of (MissingByte byte) = record { number = 4; place = byte }
refusal_of (EqualRow row) = record { number = 5; place = row }
refusal_of (NoParts row) = record { number = 6; place = row }
refusal_of TooShort = record { number = 7; place = 0 }
refusal_of OutOfForm = record { number = 8; place = 0 }
refusal_of TooLong = record { number = 9; place = 0 }
refusal_of (UnknownCode index) = record { number = 10; place = index }
refusal_of BadInterval = record { number = 11; place = 0 }
refusal_of (Full size) = record { number = 12; place = size }
refusal_of (SameHash row) = record { number = 13; place = row }

-- "When an answer is an enum, a definition gives this paper's number and values for each enum case.": told says the
-- value of what is no refusal
abbrev pub answered : {X : Type 0} → (X → ℕ) → Result X Cause → Refusal
answered told (Ok x) = record { number = 0; place = told x }
answered told (Err cause) = refusal_of cause

-- the calls that answer a number, and build, which answers the count of rows
abbrev pub answer_of : Result ℕ Cause → Refusal
answer_of = answered (λ (n : ℕ). n)

-- the pair check: 1 if the pair passes, else 0
abbrev pub pair_answer_of : Result Bool Cause → Refusal
pair_answer_of = answered (λ (b : Bool). cond b 1 0)

-- the count with a limit: the count, and none, which is 4294967295, for "over"
abbrev pub limit_place : Option ℕ → ℕ
limit_place (Some count) = count
limit_place None = 4294967295

abbrev pub limit_answer_of : Result (Option ℕ) Cause → Refusal
limit_answer_of = answered limit_place
