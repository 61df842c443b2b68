-- Rests on the laws of the test, one for each way in which it ends. Assumes nothing.
use mathlib.Core.Path.{sym, ap, ◌∙◌}
use mathlib.Core.List.{List}
use Prim.Native.Nat.{ℕ, ◌-◌, ◌%◌}
use native.Mathlib.Omega.{arith}
use lib.ListN.{length, length-drop, take, drop}
use lib.Seq.{get_or-drop, take_all}
use Rattle.placed_rows.specs.Reading.{rows_of}
use Rattle.placed_rows.specs.Texts.{begins}
use Rattle.forest.proofs.Fitting.{fits-other, fits-long, fits_one, fits_unlike_second, fits-unlike, fits-compared}
use Rattle.forest.proofs.Places.{first-at, rest_at}
use Rattle.forest.proofs.fits.Goals as goal

pub returns-then-w-text : goal.returns-then-w-text
returns-then-w-text c = fits-other _ _ _ _ _ _ c.args.rows.now.placed.few (λ e. c.if-w-text.true (e ∙ first-at c.args.text.now c.args.at))

pub returns-then-text-at : goal.returns-then-text-at
returns-then-text-at c =
    fits-long _ _ _ _ _ _ c.args.rows.now.placed.few (omega (arith, c.more_of-more.ensures.is, c.if-text-at.true, length-drop c.args.at c.args.text.now))

pub returns-then-more-eq1 : goal.returns-then-more-eq1
returns-then-more-eq1 c =
    let text = c.args.text.now in
    let at = c.args.at in
    fits_one _ _ _ _ _ _ c.args.rows.now.placed.few (c.if-w-text.false ∙ sym (first-at text at)) (omega (arith, c.more_of-more.ensures.is, c.if-more-eq1.true)) (omega (arith, length-drop at text, c.requires.inside))

pub returns-then-w-text-2 : goal.returns-then-w-text-2
returns-then-w-text-2 c =
    fits_unlike_second _ _ _ _ _ _ c.args.rows.now.placed.few (λ e. c.if-w-text-2.true (e ∙ ap (λ (b : ℕ). b % 32) (get_or-drop c.args.at c.args.text.now 1 0)))
    (omega (arith, c.more_of-more.ensures.is, c.if-more-eq1.false))

pub returns-then-bytes-len : goal.returns-then-bytes-len
returns-then-bytes-len c =
    fits-unlike _ _ _ _ _ _ c.args.rows.now.placed.few c.row_of.result c.row_of.ensures.is (λ e. omega (arith, c.if-bytes-len.true, ap length c.bytes_of-bytes.ensures))

pub returns-then-bytes-len-2 : goal.returns-then-bytes-len-2
returns-then-bytes-len-2 c =
    fits-unlike _ _ _ _ _ _ c.args.rows.now.placed.few c.row_of.result c.row_of.ensures.is
    (λ e. c.if-bytes-len-2.true (omega (arith, ap length c.bytes_of-bytes.ensures, c.more_of-more.ensures.is)))

pub returns : goal.returns
returns c =
    let a = c.args in
    let bytes = c.bytes_of-bytes in
    let t = bytes.result.now in
    let text = a.text.now in
    let i = c.row_of.result in
    fits-compared _ _ _ _ _ _ c.args.rows.now.placed.few c.begins_with.result i c.row_of.ensures.is
    (omega (arith, ap length bytes.ensures, c.if-bytes-len-2.false, c.if-bytes-len.false, c.more_of-more.ensures.is)) (c.if-w-text.false ∙ sym (first-at text a.at))
    (c.begins_with.ensures
    ∙ ap (λ (u : List ℕ). begins u (take (length text - a.at) (drop a.at text))) (take_all (length t - a.len) (drop a.len t) (omega (arith, length-drop a.len t)) ∙ ap (drop a.len) bytes.ensures)
    ∙ ap (λ (u : List ℕ). begins (drop a.len (rows_of a.rows.now i)) u) (rest_at text a.at))
