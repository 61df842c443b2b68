-- `BitField::predecessor` meets its contract. Invariant: the bits above the current place up to `bit` are clear. Assumes nothing.
use Rattle.std.proofs.Common.{None, arith}
use Rattle.bitfield.proofs.Search.{highest-is, predecessor-only}
use Rattle.bitfield.proofs.Sets.{set_beyond}
use Rattle.bitfield.proofs.Passing.{down-past, down-found}
use Rattle.bitfield.proofs.BitField.predecessor.Goals as goal

pub loop-word_idx-init : goal.loop-word_idx-init
loop-word_idx-init c = record { low = omega arith; to = omega arith; below = omega arith; clear = λ j i. set_beyond _ j (omega arith) }

pub highest_to-requires : goal.highest_to-requires
highest_to-requires c = c.loop-word_idx.invariant.low

pub overflow_add-result : goal.overflow_add-result
overflow_add-result c = omega (arith, (highest-is _ _ _ c.in-Some.ensures).inside)

pub returns-in-Some : goal.returns-in-Some
returns-in-Some c =
    let l = c.loop-word_idx.invariant in
    predecessor-only _ _ _
    (down-found _ _ _ _ l.low (omega arith) (omega arith) (λ j b. l.clear j (omega arith, b.1)) _ (highest-is _ _ _ c.in-Some.ensures))

pub loop-word_idx-preserved : goal.loop-word_idx-preserved
loop-word_idx-preserved c =
    let l = c.loop-word_idx.invariant in
    let none_set = highest-is _ _ None c.in_default.ensures in
    let behind = down-past _ _ _ _ l.low (omega arith) (omega arith) (λ j b. l.clear j (omega arith, b.1)) 0 (λ k a. none_set k a.1) in
    record { low = omega arith; to = omega arith; below = omega arith; clear = λ j i. behind j (omega arith, i.1) }

pub returns : goal.returns
returns c = predecessor-only _ _ None (λ j i. c.loop-word_idx.invariant.clear j (omega arith, i))
