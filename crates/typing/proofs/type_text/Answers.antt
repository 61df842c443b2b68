-- `typing::type_text` meets its contract. The loop's invariant: i bytes are typed and their counts written. Assumes nothing.
use mathlib.Core.Path.{refl, sym, ◌∙◌}
use native.Mathlib.Omega.{arith}
use Rattle.theory.specs.Dictionary.{Octets}
use Rattle.built_tables.proofs.Rows.{octets}
use Rattle.typing.proofs.Texting.{ends-full, more}
use Rattle.typing.proofs.type_text.Goals as goal

pub returns-then-is_err : goal.returns-then-is_err
returns-then-is_err c =
    let text-octets : Octets c.args.text.now = octets c.args.text.now (λ i. omega (arith, c.type_inv.text i)) in
    ends-full _ _ _ _ text-octets _ _ _ _ c.loop-i.invariant _ _ _ _ c.push-pushed.ensures (sym c.is_err.ensures.value ∙ c.if-is_err.true)

pub loop-i-preserved : goal.loop-i-preserved
loop-i-preserved c =
    let text-octets : Octets c.args.text.now = octets c.args.text.now (λ i. omega (arith, c.type_inv.text i)) in
    more _ _ _ _ text-octets _ _ _ _ c.loop-i.invariant _ _ _ _ c.push-pushed.ensures refl (omega arith) (omega arith)
    (sym c.is_err.ensures.value ∙ c.if-is_err.false) _ c.token_count.ensures _ c.entry_of.ensures
