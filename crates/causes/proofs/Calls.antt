-- The two cases of a call, and what its answer tells. Assumes nothing.
use mathlib.Core.Path.{◌≡◌, refl, sym, ap, subst, ◌∙◌}
use mathlib.Core.Option.{Option, none, some}
use Prim.Native.Nat.{ℕ}
use native.Mathlib.Omega.{arith}
use Rattle.std.specs.Prelude.{Result, Ok, Err}
use Rattle.causes.specs.declared.Cause.{Cause}
use Rattle.causes.specs.Causes.{answered}
use Rattle.causes.specs.Call.{saying, paper, Call}

-- a refusal is not no refusal
pub some-none : {A : Type 0} {refusal : Option Cause} {cause : Cause} → refusal ≡ some cause → refusal ≡ none → A
some-none {refusal = refusal} {cause = cause} e f =
    absurd (let g : none ≡ some cause = sym f ∙ e in let z : ◌≡◌ {A = ℕ} 0 1 = cc in omega arith)

-- a value is no refusal
pub ok_err : {A X : Type 0} {x : X} {cause : Cause} → ◌≡◌ {A = Result X Cause} (Ok x) (Err cause) → A
ok_err e = absurd (let z : ◌≡◌ {A = ℕ} 0 1 = cc in omega arith)

-- values and causes are told apart
pub ok_same : {X : Type 0} {x y : X} → ◌≡◌ {A = Result X Cause} (Ok x) (Ok y) → x ≡ y
ok_same e = cc

pub err_same : {X : Type 0} {c d : Cause} → ◌≡◌ {A = Result X Cause} (Err c) (Err d) → c ≡ d
err_same e = cc

module _ {X : Type 0} (tells : X → ℕ) {refusal : Option Cause} {kept : Cause → Type 0} {done : X → Type 0} where
  -- a call that is refused; the value is any
  pub call-refused : {cause : Cause} → refusal ≡ some cause → X → kept cause → Call tells refusal kept done (Err cause)
  call-refused {cause} e x k = record {
    value = x;
    answer = rw e;
    told = rw e;
    refused = λ d f. let same : cause ≡ d = cc in subst kept same k;
    given = λ f. some-none e f;
  }

  -- a call that is not
  pub call-given : refusal ≡ none → (x : X) → done x → Call tells refusal kept done (Ok x)
  call-given e x d = record {
    value = x;
    answer = rw e;
    told = rw e;
    refused = λ c f. some-none f e;
    given = λ f. d;
  }

  -- a call by its answer
  pub call_of : {r : Result X Cause} (x : X) → r ≡ saying refusal x → ((cause : Cause) → refusal ≡ some cause → kept cause)
      → (refusal ≡ none → done x) → Call tells refusal kept done r
  call_of x e k d = record { value = x; answer = e; told = ap (answered tells) e ∙ go refusal; refused = k; given = d }
    where
      go : (o : Option Cause) → answered tells (saying o x) ≡ paper tells o x
      go none = refl
      go (some cause) = refl

  module _ {r : Result X Cause} (c : Call tells refusal kept done r) where
    -- what a caller has of it
    pub refused-answer : {cause : Cause} → refusal ≡ some cause → r ≡ Err cause
    refused-answer e = c.answer ∙ ap (λ (o : Option Cause). saying o c.value) e

    pub given-answer : refusal ≡ none → r ≡ Ok c.value
    given-answer e = c.answer ∙ ap (λ (o : Option Cause). saying o c.value) e

    -- the answer with another name for the value
    pub answer_with : (x : X) → (refusal ≡ none → c.value ≡ x) → r ≡ saying refusal x
    answer_with x f = c.answer ∙ go refusal f
      where
        go : (o : Option Cause) → (o ≡ none → c.value ≡ x) → saying o c.value ≡ saying o x
        go none e = ap Ok (e refl)
        go (some cause) e = refl

-- an answer that is a value is no refusal, and is of what was done; one that is a refusal has its cause
pub value-said : {X : Type 0} (refusal : Option Cause) (value x : X) → saying refusal value ≡ Ok x → (refusal ≡ none) × (value ≡ x)
value-said none value x e = (refl, ok_same e)
value-said (some cause) value x e = ok_err (sym e)

pub cause-said : {X : Type 0} (refusal : Option Cause) (value : X) (cause : Cause) → saying refusal value ≡ Err cause → refusal ≡ some cause
cause-said none value cause e = ok_err e
cause-said (some other) value cause e = ap some (err_same e)

module _ {X : Type 0} {tells : X → ℕ} {refusal : Option Cause} {kept : Cause → Type 0} {done : X → Type 0} {r : Result X Cause}
    (c : Call tells refusal kept done r) where
  pub value-given : (x : X) → r ≡ Ok x → (refusal ≡ none) × (c.value ≡ x)
  value-given x e = value-said refusal c.value x (sym c.answer ∙ e)

  pub refused-given : (cause : Cause) → r ≡ Err cause → refusal ≡ some cause
  refused-given cause e = cause-said refusal c.value cause (sym c.answer ∙ e)
