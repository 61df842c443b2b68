-- The loop's invariant is `Trying`: the best entry by the rows up to the one that is reached. Each row is longer than the one before. Assumes nothing.
use native.Mathlib.Omega.{arith}
use Rattle.shortest_encoder.proofs.Trying.{met, trying_none, trying_first, trying_ends, trying_stops, trying_over, trying_more}
use Rattle.shortest_encoder.proofs.best_at.Goals as goal

pub returns-then-first : goal.returns-then-first
returns-then-first c = trying_none _ _ _ _ _ _ _ c.requires (λ k. omega (arith, c.type_inv.text k)) _ _ c.first_match-first.ensures.0 c.if-first.true

pub overflow_add-codes_behind : goal.overflow_add-codes_behind
overflow_add-codes_behind c =
    let m = met _ _ _ _ _ _ _ c.requires _ _ _ _ c.first_match-first.ensures.0 c.if-first.false (omega (arith, c.first_match-first.ensures.1)) in
    omega (arith, c.codes_behind.ensures, m.most)

pub entry_of-best-requires : goal.entry_of-best-requires
entry_of-best-requires c =
    let m = met _ _ _ _ _ _ _ c.requires _ _ _ _ c.first_match-first.ensures.0 c.if-first.false (omega (arith, c.first_match-first.ensures.1)) in
    (omega (arith, c.codes_behind.ensures, m.most), (omega (arith, m.longer), (m.short, m.narrow)))

pub loop-len-init : goal.loop-len-init
loop-len-init c = trying_first _ _ _ _ _ _ _ c.requires (λ k. omega (arith, c.type_inv.text k)) _ _ c.first_match-first.ensures.0 c.if-first.false (omega (arith, c.first_match-first.ensures.1)) _ (rw c.codes_behind.ensures at c.entry_of-best.ensures)

pub returns-then-longer : goal.returns-then-longer
returns-then-longer c = trying_stops _ _ _ _ _ _ _ _ _ _ c.loop-len.invariant _ _ c.longer_match-longer.ensures c.if-longer.true

pub returns-then-longer-gt64 : goal.returns-then-longer-gt64
returns-then-longer-gt64 c = trying_over _ _ _ _ _ _ _ _ _ _ c.loop-len.invariant _ _ c.longer_match-longer.ensures c.if-longer.false (omega (arith, c.if-longer-gt64.true))

pub overflow_add-count : goal.overflow_add-count
overflow_add-count c =
    let m = met _ _ _ _ _ _ _ c.loop-len.invariant.ready _ _ _ _ c.longer_match-longer.ensures c.if-longer.false (omega (arith, c.if-longer-gt64.false)) in
    omega (arith, c.codes_behind-count.ensures, m.most)

pub entry_of-entry-requires : goal.entry_of-entry-requires
entry_of-entry-requires c =
    let m = met _ _ _ _ _ _ _ c.loop-len.invariant.ready _ _ _ _ c.longer_match-longer.ensures c.if-longer.false (omega (arith, c.if-longer-gt64.false)) in
    (omega (arith, c.codes_behind-count.ensures, m.most), (omega (arith, m.longer), (m.short, m.narrow)))

pub loop-len-preserved : goal.loop-len-preserved
loop-len-preserved c = trying_more _ _ _ _ _ _ _ _ _ _ c.loop-len.invariant _ _ c.longer_match-longer.ensures c.if-longer.false (omega (arith, c.if-longer-gt64.false)) _ (rw c.codes_behind-count.ensures at c.entry_of-entry.ensures) _ c.min-best.ensures

pub returns : goal.returns
returns c = trying_ends _ _ _ _ _ _ _ _ _ _ c.loop-len.invariant (omega (arith, c.loop-len-test.false))
