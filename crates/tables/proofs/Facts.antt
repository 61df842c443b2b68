-- What dictionary tables in form are, fact by fact, and back. Assumes nothing.
use mathlib.Core.Path.{◌≡◌, refl, sym, ap, ◌∙◌}
use mathlib.Core.List.{List}
use mathlib.Core.Bool.{Bool, true, false, cond}
use Prim.Native.Nat.{ℕ, ◌≤◌, ◌<◌}
use native.Mathlib.Omega.{arith}
use lib.ListN.{length, take}
use lib.Dec.{leb}
use borrow.Author.Tests.{le-leb, leb-true}
use Rattle.std.specs.Result.{result_ok}
use Rattle.std.proofs.lemmas.Option.{none-some}
use Rattle.std.specs.Prelude.{Option, Some, None, Result, Ok, Err}
use Rattle.causes.specs.declared.Cause.{Cause}
use Rattle.phrase_file.specs.Form.{places}
use Rattle.phrase_file.specs.Checks.{check_of}
use Rattle.phrase_file.proofs.Checks.{accepted}
use Rattle.placed_rows.proofs.Beginning.{and_both, no_true, true-false}
use Rattle.tables.specs.Tables.{Tables}
use Rattle.theory.specs.Lists.{equal}
use Rattle.theory.proofs.Lists.{equal_eq}
use Rattle.tables.specs.InForm.{all_below, is_rows, count, row_size, row_in_form, large_enough, in_form, form_of}
use Rattle.tables.specs.Steps.{PlacesMatch, sized}
use Rattle.tables.proofs.Sweeps.{equal-same, all-each, each_all}
use Rattle.tables.proofs.Entries.{rows_same}

some_none : {A X : Type 0} {x : X} → ◌≡◌ {A = Option X} None (Some x) → A
some_none {x = x} e = absurd (none-some x e)

-- tables in form, n being the count of rows
pub record Facts (T : Tables) (n : ℕ) : Type 0 where
  pub passed : check_of T.file ≡ Ok n
  pub places_room : n ≤ length T.places
  pub lefts_room : n ≤ length T.lefts
  pub rights_room : n ≤ length T.rights
  pub prefixes_room : n ≤ length T.prefixes
  pub area_room : 16384 ≤ length T.area
  pub places_match : take n T.places ≡ places T.file
  pub rows_fit : (i : ℕ) → i < n → row_in_form n (row_size T.file) T.lefts T.rights T.prefixes i ≡ true

rows-passed : (file : List ℕ) → is_rows (check_of file) ≡ true → check_of file ≡ Ok (count file)
rows-passed file e = go (check_of file) refl e
  where
    go : (b : Result ℕ Cause) → check_of file ≡ b → is_rows b ≡ true → check_of file ≡ Ok (count file)
    go (Ok n) q t = q ∙ ap Ok (accepted file n q).count
    go (Err cause) q t = absurd (true-false (sym t))

module _ (T : Tables) where
  open T use {file, places as placeTable, lefts, rights, prefixes}

  in_facts : in_form T ≡ true → Facts T (count file)
  unfolding in_form large_enough
  in_facts e =
      let q = and_both (is_rows (check_of file)) _ e in
      let q1 = and_both (large_enough T) _ q.1 in
      let q2 = and_both (equal (take (count file) placeTable) (places file)) _ q1.1 in
      let p = and_both (leb (count file) (length placeTable)) _ q1.0 in
      let p1 = and_both (leb (count file) (length lefts)) _ p.1 in
      let p2 = and_both (leb (count file) (length rights)) _ p1.1 in
      let p3 = and_both (leb (count file) (length prefixes)) _ p2.1 in
      record {
        passed = rows-passed file q.0;
        places_room = leb-true _ _ p.0;
        lefts_room = leb-true _ _ p1.0;
        rights_room = leb-true _ _ p2.0;
        prefixes_room = leb-true _ _ p3.0;
        area_room = leb-true _ _ p3.1;
        places_match = equal_eq _ _ q2.0;
        rows_fit = all-each _ (count file) q2.1;
      }

  facts_in : Facts T (count file) → in_form T ≡ true
  unfolding in_form large_enough
  facts_in f =
      rw (
        f.passed,
        le-leb _ _ f.places_room,
        le-leb _ _ f.lefts_room,
        le-leb _ _ f.rights_room,
        le-leb _ _ f.prefixes_room,
        le-leb _ _ f.area_room,
        equal-same _ _ f.places_match,
      ) (each_all _ (count file) f.rows_fit)

  module _ (n : ℕ) where
    pub form-facts : form_of T ≡ Some n → Facts T n
    unfolding form_of
    form-facts e = go (in_form T) refl e
      where
        go : (b : Bool) → in_form T ≡ b → cond b (Some (count file)) None ≡ Some n
            → Facts T n
        go true q t = let z : count file ≡ n = cc in rw z at (in_facts q)
        go false q t = let z : ◌≡◌ {A = ℕ} 0 1 = cc in absurd (omega arith)

    pub facts-form : Facts T n → form_of T ≡ Some n
    unfolding form_of
    facts-form f =
        let z : n ≡ count file = (accepted file n f.passed).count in
        let g : Facts T (count file) = rw (← z) f in
        rw (facts_in g) (ap Some (sym z))

    -- where a fact fails
    pub facts_fail : check_of file ≡ Ok n → (Facts T n → ⊥) → form_of T ≡ None
    unfolding form_of
    facts_fail p fail =
        let z : n ≡ count file = (accepted file n p).count in
        rw (no_true (in_form T) (λ e. fail (rw z (in_facts e))))

  pub check-fails : result_ok (check_of file) ≡ None → form_of T ≡ None
  unfolding form_of in_form
  check-fails e = go (check_of file) refl e
    where
      go : (r : Result ℕ Cause) → check_of file ≡ r → result_ok r ≡ None → form_of T ≡ None
      go (Ok n) q f = some_none (sym f)
      go (Err cause) q f = rw q

-- the count of rows of a file that passes
pub passed_of : (file : List ℕ) (n : ℕ) → Some n ≡ result_ok (check_of file) → check_of file ≡ Ok n
passed_of file n e = go (check_of file) refl e
  where
    go : (r : Result ℕ Cause) → check_of file ≡ r → Some n ≡ result_ok r → check_of file ≡ Ok n
    go (Ok m) q f = let z : m ≡ n = cc in q ∙ ap Ok z
    go (Err cause) q f = some_none (sym f)

-- what the passes over the places and the rows find

module _ (file placeTable : List ℕ) (n : ℕ) (sizes : List ℕ) (r : Bool) (m : PlacesMatch file placeTable n sizes r) where
  pub places-found : r ≡ true → take n placeTable ≡ places file
  places-found e = equal_eq _ _ (sym m.answer ∙ e)

  pub places_lost : r ≡ false → take n placeTable ≡ places file → ⊥
  places_lost e f = true-false (sym (equal-same _ _ f) ∙ sym m.answer ∙ e)

  module _ (lefts rights prefixes : List ℕ) (b : Bool) (q : b ≡ all_below n (row_in_form n (sized sizes) lefts rights prefixes)) (e : r ≡ true) where
    by-file : b ≡ all_below n (row_in_form n (row_size file) lefts rights prefixes)
    by-file = q ∙ rows_same n (sized sizes) (row_size file) (m.sizes_are e) lefts rights prefixes

    pub rows_found : b ≡ true → (i : ℕ) → i < n → row_in_form n (row_size file) lefts rights prefixes i ≡ true
    rows_found t = all-each _ n (sym by-file ∙ t)

    pub rows_lost : b ≡ false → ((i : ℕ) → i < n → row_in_form n (row_size file) lefts rights prefixes i ≡ true) → ⊥
    rows_lost t f = true-false (sym (each_all _ n f) ∙ sym by-file ∙ t)

-- where nothing fails
pub facts_found : (T : Tables) (n : ℕ) (sizes : List ℕ) (r b : Bool) → check_of T.file ≡ Ok n → n ≤ length T.places → n ≤ length T.lefts
    → n ≤ length T.rights → n ≤ length T.prefixes → 16384 ≤ length T.area → PlacesMatch T.file T.places n sizes r
    → b ≡ all_below n (row_in_form n (sized sizes) T.lefts T.rights T.prefixes) → r ≡ true → b ≡ true → form_of T ≡ Some n
facts_found T n sizes r b passed places_room lefts_room rights_room prefixes_room area_room m q e t =
    facts-form T n
    (record {
      passed = passed;
      places_room = places_room;
      lefts_room = lefts_room;
      rights_room = rights_room;
      prefixes_room = prefixes_room;
      area_room = area_room;
      places_match = places-found T.file T.places n sizes r m e;
      rows_fit = rows_found T.file T.places n sizes r m T.lefts T.rights T.prefixes b q e t;
    })
