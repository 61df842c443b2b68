-- `agreement::typed_count` meets its contract: the count after the last byte typed, 0 if none was. Assumes nothing.
use mathlib.Core.Path.{refl}
use Rattle.agreement.proofs.Agreeing.{typed-none, typed-last}
use Rattle.agreement.proofs.typed_count.Goals as goal

pub returns-then-typed-eq0 : goal.returns-then-typed-eq0
returns-then-typed-eq0 c = typed-none _ _ _ _ _ c.type_text-typed.ensures c.if-typed-eq0.true

pub returns : goal.returns
returns c = typed-last _ _ _ _ _ c.type_text-typed.ensures c.if-typed-eq0.false _ refl
