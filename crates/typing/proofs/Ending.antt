-- What an answer leaves in the head. Assumes nothing.
use mathlib.Core.Path.{◌≡◌, refl, ap}
use mathlib.Core.Bool.{Bool, true, false, cond, ◌||◌}
use Prim.Native.Nat.{ℕ, ◌≤◌, min}
use borrow.Author.Tests.{le-ltb}
use Rattle.std.specs.Prelude.{Ok, Err}
use Rattle.causes.specs.declared.Cause.TheVariants.{OutOfForm}
use Rattle.causes.specs.Call.{to_number}
use Rattle.causes.proofs.Calls.{call-refused, call-given}
use Rattle.typing_columns.specs.Refusals.{head_out, truncate_refusal}
use Rattle.typing.specs.Calls.{Truncated}
use Rattle.typing.specs.Steps.{usable_of}

-- ---- the head
pub head_in : (len size : ℕ) → len ≤ size → len ≤ 4096 → head_out len size ≡ false
head_in len size l h = λ j. le-ltb size len l j || le-ltb 4096 len h j

pub usable_out : (len size : ℕ) → head_out len size ≡ true → usable_of len size ≡ 0
unfolding usable_of
usable_out len size e = ap (λ (b : Bool). cond b 0 len) e

pub usable_in : (len size : ℕ) → head_out len size ≡ false → usable_of len size ≡ len
unfolding usable_of
usable_in len size e = ap (λ (b : Bool). cond b 0 len) e

-- ---- truncate
pub truncated_out : (len size keep : ℕ) → head_out len size ≡ true → Truncated len size keep (Err OutOfForm) len
unfolding truncate_refusal
truncated_out len size keep e = call-refused to_number (rw e) 0 refl

pub truncated_in : (len size keep k : ℕ) → head_out len size ≡ false → k ≡ min len keep → Truncated len size keep (Ok k) k
unfolding truncate_refusal
truncated_in len size keep k e m = call-given to_number (rw e) k (m, m)
