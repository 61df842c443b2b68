-- One scheme for every call: why it is refused, what it then keeps, what it gives else, and document 01's number and
-- value of its answer.
use Rattle.std.specs.Prelude.{◌≡◌, Bool, cond, ℕ, Result, Ok, Err}
use Rattle.std.proofs.Math.Option.{Option, none, some}
use Rattle.causes.specs.declared.Cause.{Cause}
use Rattle.causes.specs.Causes.{Refusal, refusal_of, answered}

-- the answer: the refusal if there is one, else the value
abbrev pub saying : {X : Type 0} → Option Cause → X → Result X Cause
saying none x = Ok x
saying (some cause) x = Err cause

-- the number and the value of the same; told says the value of what is no refusal
abbrev pub paper : {X : Type 0} → (X → ℕ) → Option Cause → X → Refusal
paper told none x = record { number = 0; place = told x }
paper told (some cause) x = refusal_of cause

-- the answers: a number, whether a pair passes
abbrev pub to_number : ℕ → ℕ
to_number n = n

abbrev pub to_passes : Bool → ℕ
to_passes b = cond b 1 0

-- a call with this answer: refused, it keeps what its cause says ("Buffers after"); else `done` holds of its value
pub record Call {X : Type 0} (tells : X → ℕ) (refusal : Option Cause) (kept : Cause → Type 0) (done : X → Type 0)
    (r : Result X Cause) : Type 0 where
  pub value : X
  pub answer : r ≡ saying refusal value
  pub told : answered tells r ≡ paper tells refusal value
  pub refused : (cause : Cause) → refusal ≡ some cause → kept cause
  pub given : refusal ≡ none → done value

-- a call that is lent no buffer to write keeps nothing
abbrev pub no_buffer : Cause → Type 0
no_buffer cause = record {}
