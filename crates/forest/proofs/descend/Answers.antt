-- The loop keeps that the row reached begins the bytes of `from` and the text; where no child goes on, it is the longest. Assumes nothing.
use mathlib.Core.Path.{◌≡◌, refl, sym, ◌∙◌}
use mathlib.Core.List.{List}
use Prim.Native.Nat.{ℕ, ◌+◌, ◌-◌, ◌≤◌, ◌<◌}
use native.Mathlib.Omega.{arith}
use lib.ListN.{length, length-drop, get_or, drop}
use borrow.Author.Tests.{not-true}
use Rattle.placed_rows.specs.Reading.{rows_of}
use Rattle.forest.specs.Words.{row_of}
use Rattle.forest.proofs.Places.{rest-later, one_at, none-at, unmarked-at}
use Rattle.forest.proofs.Descending.{Descending, Turn, turn, descend_stop, descend_end}
use Rattle.forest.proofs.descend.Goals as goal

-- no more bytes are used than the text has from the place on
inside : (t : List ℕ) (k i : ℕ) → k ≤ i → i ≤ length t → i - k ≤ length (drop k t)
inside t k i h l = omega (arith, length-drop k t)

-- the same place, by other sums
here : {R : ℕ → List ℕ} {n : ℕ} {area : List ℕ} {from len : ℕ} {text : List ℕ} {best size size' k k' : ℕ} → size ≡ size' → k ≡ k'
    → Descending R n area from len text best size k → Descending R n area from len text best size' k'
here e f D = rw (sym e, sym f) D

pub returns-then-not-may_have_child : goal.returns-then-not-may_have_child
returns-then-not-may_have_child c =
    let l = c.loop-end in
    let a = c.args in
    descend_stop _ _ _ _ _ _ _ _ _ _ _ _ (inside _ _ _ l.invariant.0 l.invariant.1.0) l.invariant.1.1.1
    (unmarked-at _ _ _ _ _ a.text.now l.end 0 (sym c.may_have_child.ensures ∙ not-true _ c.if-not-may_have_child.true-raw)) (rest-later a.text.now a.at l.end l.invariant.0) refl

pub returns-then-rows-row_of : goal.returns-then-rows-row_of
returns-then-rows-row_of c =
    let l = c.loop-end in
    let a = c.args in
    let h = c.bucket in
    descend_stop _ _ _ _ _ _ _ _ _ _ _ _ (inside _ _ _ l.invariant.0 l.invariant.1.0) l.invariant.1.1.1
    (none-at _ _ _ _ _ a.text.now l.end _ h.result 0 h.ensures.is refl (omega (arith, c.row_of.ensures.is, c.if-rows-row_of.true))) (rest-later a.text.now a.at l.end l.invariant.0) refl

pub loop-end-preserved-then-is_one_longer : goal.loop-end-preserved-then-is_one_longer
loop-end-preserved-then-is_one_longer c =
    let a = c.args in
    let l = c.loop-end in
    let h = c.bucket in
    let q : row_of (get_or a.area.now h.result 0) < a.rows.now.n = omega (arith, c.row_of.ensures.is, c.if-rows-row_of.false) in
    let t = turn _ _ _ _ _ _ _ _ _ _ _ _ (inside _ _ _ l.invariant.0 l.invariant.1.0) l.invariant.1.1.1
    (one_at _ _ _ _ _ a.text.now l.end _ h.result (a.len + (l.end - a.at) + 1) h.ensures.is refl (c.is_one_longer.ensures c.if-is_one_longer.true) q c.args.rows.now.placed.few
    (omega (arith, c.type_inv.text l.end))
    (omega (arith, c.loop-end-test.true))
    refl)
    (rest-later a.text.now a.at l.end l.invariant.0) (λ z. omega (arith, c.args.rows.now.placed.few)) in
    let z : l.end - a.at + (a.len + (l.end - a.at) + 1 - (a.len + (l.end - a.at))) ≡ l.end + 1 - a.at = omega (arith, l.invariant.0) in
    let y : a.len + (l.end - a.at) + 1 ≡ a.len + (l.end + 1 - a.at) = omega (arith, l.invariant.0) in
    (omega (arith, l.invariant.0), (omega (arith, c.loop-end-test.true), (q, here y z t.gone)))

pub returns-then-r : goal.returns-then-r
returns-then-r c =
    let a = c.args in
    let l = c.loop-end in
    descend_stop _ _ _ _ _ _ _ _ _ _ _ _ (inside _ _ _ l.invariant.0 l.invariant.1.0) l.invariant.1.1.1 c.child-m.ensures (rest-later a.text.now a.at l.end l.invariant.0) c.if-r.true

pub loop-end-preserved : goal.loop-end-preserved
loop-end-preserved c =
    let gone : (let a = c.args in let l = c.loop-end in let r = c.child-m.result in
    Turn (rows_of a.rows.now) a.rows.now.n a.area.now a.from a.len (drop a.at a.text.now) l.best (a.len + (l.end - a.at)) (l.end - a.at) r.row r.len) = let a = c.args in
    let l = c.loop-end in
    turn _ _ _ _ _ _ _ _ _ _ _ _ (inside _ _ _ l.invariant.0 l.invariant.1.0) l.invariant.1.1.1 c.child-m.ensures (rest-later a.text.now a.at l.end l.invariant.0) c.if-r.false in
    let t = gone in
    let a = c.args in
    let l = c.loop-end in
    let m = c.child-m.result.len in
    let z : l.end - a.at + (m - (a.len + (l.end - a.at))) ≡ l.end + (m - (a.len + (l.end - a.at))) - a.at = omega (arith, l.invariant.0) in
    let y : m ≡ a.len + (l.end + (m - (a.len + (l.end - a.at))) - a.at) = omega (arith, l.invariant.0, t.step.longer) in
    (omega (arith, l.invariant.0), (omega (arith, t.step.longer, t.step.fits, length-drop a.at a.text.now, l.invariant.0, l.invariant.1.0), (t.step.below, here y z t.gone)))

pub returns : goal.returns
returns c =
    let l = c.loop-end in
    let a = c.args in
    descend_end _ _ _ _ _ _ _ _ _ (inside _ _ _ l.invariant.0 l.invariant.1.0) l.invariant.1.1.1 (omega (arith, length-drop a.at a.text.now))
