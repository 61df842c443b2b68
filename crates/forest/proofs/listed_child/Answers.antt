-- The loop keeps that a child that was not met yet is among the words that are left of the bucket. Assumes nothing.
use mathlib.Core.Path.{◌≡◌, sym, ap}
use mathlib.Core.Bool.{true}
use Prim.Native.Nat.{ℕ, ◌+◌, ◌-◌}
use lib.ListN.{drop}
use native.Mathlib.Omega.{arith}
use Rattle.placed_rows.specs.Reading.{rows_of}
use Rattle.forest.specs.Words.{bucket_of}
use Rattle.forest.specs.Lookups.{Fits}
use Rattle.forest.proofs.Walking.{walk_out, walk-zero}
use Rattle.forest.proofs.Places.{first-at}
use Rattle.forest.proofs.Searching.{search_start, search_step, search_hit, search_over}
use Rattle.forest.proofs.listed_child.Goals as goal

pub loop-step-init : goal.loop-step-init
loop-step-init c =
    let n = c.args.rows.now.n in
    let z : n - 0 ≡ n = omega arith in
    rw (z, c.requires.first_word) (search_start _ _ _ _ _ _ _ (ap (λ (b : ℕ). bucket_of c.args.p b) (sym (first-at c.args.text.now c.args.at))))

pub returns-then-rows-i : goal.returns-then-rows-i
returns-then-rows-i c =
    let l = c.loop-step in
    rw c.no_match.ensures (search_over _ _ _ _ _ _ l.w _ _ (walk_out _ _ _ l.w (omega (arith, c.row_of-i.ensures.is, c.if-rows-i.true))) l.invariant)

pub returns-then-fits : goal.returns-then-fits
returns-then-fits c =
    let fitting : (let a = c.args in let l = c.loop-step in Fits (rows_of a.rows.now) a.rows.now.n a.p a.len (drop a.at a.text.now) l.w true) = rw c.if-fits.true at c.fits.ensures in
    let l = c.loop-step in
    let i = c.row_of-i in
    search_hit _ _ _ _ _ _ l.w i.result _ (c.args.len + c.more_of.result) i.ensures.is
    (omega (arith, c.loop-step-test.true))
    (omega (arith, c.if-rows-i.false))
    c.args.rows.now.placed.few
    (omega (arith, c.more_of.ensures.is))
    (omega (arith, first-at c.args.text.now c.args.at, c.requires.byte))
    (fitting)
    l.invariant

pub loop-step-preserved : goal.loop-step-preserved
loop-step-preserved c =
    let l = c.loop-step in
    let i = c.row_of-i in
    let n = c.args.rows.now.n in
    let z : n - (l._step + 1) ≡ n - l._step - 1 = omega arith in
    rw z (search_step _ _ _ _ _ _ l.w i.result (n - l._step) i.ensures.is (omega (arith, c.loop-step-test.true)) (omega (arith, c.if-rows-i.false)) (rw c.if-fits.false at c.fits.ensures) l.invariant)

pub returns : goal.returns
returns c =
    let l = c.loop-step in
    let n = c.args.rows.now.n in
    let z : n - l._step ≡ 0 = omega (arith, c.loop-step-test.false) in
    rw c.no_match-2.ensures (search_over _ _ _ _ _ _ l.w (n - l._step) _ (walk-zero _ _ (n - l._step) _ z) l.invariant)
