-- `BitField::successor` meets its contract. Invariant: the bits from `bit` on below the current place are clear. Assumes nothing.
use Rattle.std.proofs.Common.{None, arith}
use Rattle.bitfield.proofs.Search.{lowest-is, successor-only}
use Rattle.bitfield.proofs.Passing.{up-past, up_at, up-found}
use Rattle.bitfield.proofs.BitField.successor.Goals as goal

pub overflow_add-at : goal.overflow_add-at
overflow_add-at c = omega (arith, (lowest-is _ _ 64 _ c.in-Some.ensures).inside.1)

pub returns-then-at-lt4097 : goal.returns-then-at-lt4097
returns-then-at-lt4097 c =
    let l = c.loop-word_idx.invariant in
    successor-only _ _ _ (up-found _ _ _ _ l.passed l.clear _ (lowest-is _ _ 64 _ c.in-Some.ensures) c.if-at-lt4097.true)

pub returns-else-at-lt4097 : goal.returns-else-at-lt4097
returns-else-at-lt4097 c =
    let l = c.loop-word_idx.invariant in
    let behind = up_at _ _ _ _ l.passed l.clear _ (lowest-is _ _ 64 _ c.in-Some.ensures) in
    successor-only _ _ None (λ j i. behind j (i.0, omega arith))

pub loop-word_idx-preserved : goal.loop-word_idx-preserved
loop-word_idx-preserved c =
    let l = c.loop-word_idx.invariant in
    let behind = up-past _ _ _ _ l.passed l.clear 64 (omega arith) (lowest-is _ _ 64 None c.in_default.ensures) in
    record { low = omega arith; passed = omega arith; clear = λ j i. behind j (i.0, omega arith) }

pub returns : goal.returns
returns c = successor-only _ _ None (λ j i. c.loop-word_idx.invariant.clear j (i.0, omega arith))
