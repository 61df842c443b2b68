-- `in_form` meets its contract: each of its tests decides one fact of tables in form. Assumes nothing.
use mathlib.Core.Path.{◌≡◌, refl, sym, ap, ◌∙◌}
use native.Mathlib.Omega.{arith}
use Rattle.std.specs.Prelude.{Some, Ok}
use Rattle.std.specs.Result.{result_ok}
use Rattle.phrase_file.specs.Checks.{check_of}
use Rattle.phrase_file.proofs.Checks.{accepted}
use Rattle.tables.specs.Tables.{lent}
use Rattle.tables.specs.InForm.{form_of}
use Rattle.tables.proofs.Facts.{facts_found, facts_fail, check-fails, passed_of, places_lost, rows_lost}
use Rattle.tables.proofs.Readiness.{ready}
use Rattle.tables.proofs.in_form.Goals as goal

pub returns-in_err-n : goal.returns-in_err-n
returns-in_err-n c = rw c.from_residual.ensures (check-fails _ (ap result_ok (sym c.check_file.ensures) ∙ sym c.in_err-n.ensures.value))

pub returns-then-tables-n : goal.returns-then-tables-n
returns-then-tables-n c =
    let passed : check_of c.args.tables.now.file.now ≡ Ok c.in_ok-n.n = passed_of _ _ (c.in_ok-n.ensures.value ∙ ap result_ok c.check_file.ensures) in
    facts_fail _ _ passed (λ f. omega (arith, f.places_room, c.if-tables-n.true))

pub returns-then-tables-n-2 : goal.returns-then-tables-n-2
returns-then-tables-n-2 c =
    let passed : check_of c.args.tables.now.file.now ≡ Ok c.in_ok-n.n = passed_of _ _ (c.in_ok-n.ensures.value ∙ ap result_ok c.check_file.ensures) in
    facts_fail _ _ passed (λ f. omega (arith, f.lefts_room, c.if-tables-n-2.true))

pub returns-then-tables-n-3 : goal.returns-then-tables-n-3
returns-then-tables-n-3 c =
    let passed : check_of c.args.tables.now.file.now ≡ Ok c.in_ok-n.n = passed_of _ _ (c.in_ok-n.ensures.value ∙ ap result_ok c.check_file.ensures) in
    facts_fail _ _ passed (λ f. omega (arith, f.rights_room, c.if-tables-n-3.true))

pub returns-then-tables-n-4 : goal.returns-then-tables-n-4
returns-then-tables-n-4 c =
    let passed : check_of c.args.tables.now.file.now ≡ Ok c.in_ok-n.n = passed_of _ _ (c.in_ok-n.ensures.value ∙ ap result_ok c.check_file.ensures) in
    facts_fail _ _ passed (λ f. omega (arith, f.prefixes_room, c.if-tables-n-4.true))

pub returns-then-tables-lt-AREA : goal.returns-then-tables-lt-AREA
returns-then-tables-lt-AREA c =
    let passed : check_of c.args.tables.now.file.now ≡ Ok c.in_ok-n.n = passed_of _ _ (c.in_ok-n.ensures.value ∙ ap result_ok c.check_file.ensures) in
    facts_fail _ _ passed (λ f. omega (arith, f.area_room, c.if-tables-lt-AREA.true))

pub returns-then-not-places_match : goal.returns-then-not-places_match
returns-then-not-places_match c =
    let passed : check_of c.args.tables.now.file.now ≡ Ok c.in_ok-n.n = passed_of _ _ (c.in_ok-n.ensures.value ∙ ap result_ok c.check_file.ensures) in
    facts_fail _ _ passed (λ f. places_lost _ _ _ _ _ c.places_match.ensures c.if-not-places_match.true f.places_match)

pub rows_fit-requires : goal.rows_fit-requires
rows_fit-requires c =
    let passed : check_of c.args.tables.now.file.now ≡ Ok c.in_ok-n.n = passed_of _ _ (c.in_ok-n.ensures.value ∙ ap result_ok c.check_file.ensures) in
    record {
      few = (accepted _ _ passed).most;
      lefts_fit = c.if-tables-n-2.false;
      rights_fit = c.if-tables-n-3.false;
      prefixes_fit = c.if-tables-n-4.false;
    }

pub returns-then-not-rows_fit : goal.returns-then-not-rows_fit
returns-then-not-rows_fit c =
    let passed : check_of c.args.tables.now.file.now ≡ Ok c.in_ok-n.n = passed_of _ _ (c.in_ok-n.ensures.value ∙ ap result_ok c.check_file.ensures) in
    facts_fail _ _ passed
    (λ f. rows_lost _ _ _ _ _ c.places_match.ensures _ _ _ _ c.rows_fit.ensures c.if-not-places_match.false c.if-not-rows_fit.true f.rows_fit)

pub invariant_of-rows : goal.invariant_of-rows
invariant_of-rows c =
    let formed : form_of (lent c.args.tables.now) ≡ Some c.in_ok-n.n =
    facts_found _ _ _ _ _ (passed_of _ _ (c.in_ok-n.ensures.value ∙ ap result_ok c.check_file.ensures)) c.if-tables-n.false c.if-tables-n-2.false
    c.if-tables-n-3.false c.if-tables-n-4.false c.if-tables-lt-AREA.false c.places_match.ensures c.rows_fit.ensures c.if-not-places_match.false
    c.if-not-rows_fit.false in
    record { placed = (ready _ _ formed).places_ready.placed }

pub returns : goal.returns
returns c =
    let formed : form_of (lent c.args.tables.now) ≡ Some c.in_ok-n.n =
    facts_found _ _ _ _ _ (passed_of _ _ (c.in_ok-n.ensures.value ∙ ap result_ok c.check_file.ensures)) c.if-tables-n.false c.if-tables-n-2.false
    c.if-tables-n-3.false c.if-tables-n-4.false c.if-tables-lt-AREA.false c.places_match.ensures c.rows_fit.ensures c.if-not-places_match.false
    c.if-not-rows_fit.false in
    record { same = refl; formed = formed }
