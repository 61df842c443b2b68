-- The loop's invariant: the codes up to each of the first i places are counted (proofs/Many.antt). Assumes nothing.
use mathlib.Core.Path.{refl}
use Prim.Native.Nat.{ℕ}
use native.Mathlib.Omega.{arith}
use lib.ListN.{length-replicate}
use Rattle.limited_count.proofs.Many.{counting-start, counting-many, before-inside, before_small, counting_more}
use Rattle.limited_count.proofs.have_many_codes.Goals as goal

pub loop-i-init : goal.loop-i-init
loop-i-init c = counting-start _ _ _ _ _ _ c.requires (length-replicate {A = ℕ} 512 0) (omega (arith, length-replicate {A = ℕ} 513 0, c.requires.few)) refl

pub overflow_add-count : goal.overflow_add-count
overflow_add-count c = omega (arith, c.loop-i.invariant.fits, before-inside _ _ _ _ _ _ _ _ c.loop-i.invariant c.loop-i-test.true _ c.end_code_at-code.ensures _ c.bytes_before.ensures, before_small _ _ _ _ _ _ _ _ c.loop-i.invariant c.loop-i-test.true _ c.end_code_at-code.ensures _ c.bytes_before.ensures)

pub returns-then-many-eq64 : goal.returns-then-many-eq64
returns-then-many-eq64 c = counting-many _ _ _ _ _ _ _ _ (counting_more _ _ _ _ _ _ _ _ c.loop-i.invariant c.loop-i-test.true _ c.end_code_at-code.ensures _ c.bytes_before.ensures (λ i. (c.type_inv.text i).fits) _ refl _ c.one_more-many.ensures) c.if-many-eq64.true

pub loop-i-preserved : goal.loop-i-preserved
loop-i-preserved c = counting_more _ _ _ _ _ _ _ _ c.loop-i.invariant c.loop-i-test.true _ c.end_code_at-code.ensures _ c.bytes_before.ensures (λ i. (c.type_inv.text i).fits) _ refl _ c.one_more-many.ensures
