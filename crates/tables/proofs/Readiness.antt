-- Tables in form may be read by the functions over them, and tables that build fills so are in form. Assumes nothing.
use mathlib.Core.Path.{◌≡◌, refl, sym, ap}
use mathlib.Core.List.{List}
use mathlib.Core.Bool.{Bool, true, false, ◌&&◌, ◌||◌, or-true}
use mathlib.Core.Logic.{◌⊎◌, inl, inr, ⊎_elim}
use Prim.Native.Nat.{ℕ, ◌+◌, ◌≤◌, ◌<◌}
use native.Mathlib.Nat.{eq-or-lt_of_le}
use native.Mathlib.Omega.{arith}
use lib.ListN.{length, get_or, take, length-take}
use lib.Dec.{ltb, eqb}
use borrow.Author.Tests.{eq-eqb, eqb-true, lt-ltb, ltb-true}
use Rattle.std.specs.Prelude.{Option, Some, None, Ok}
use Rattle.phrase_file.specs.Form.{places}
use Rattle.phrase_file.specs.Checks.{check_of}
use Rattle.phrase_file.proofs.Checks.{accepted}
use Rattle.phrase_file.proofs.Rows.{RowIs, row_is}
use Rattle.theory.specs.Dictionary.{none}
use Rattle.placed_rows.proofs.Beginning.{and_both}
use Rattle.tables.specs.Tables.{Tables}
use Rattle.tables.specs.InForm.{row_size, prefix_in_form, parts_in_form, row_in_form, form_of, is_out}
use Rattle.tables.specs.Ready.{Lower, PartsReady, PrefixesReady, Ready}
use Rattle.tables.proofs.Placing.{places_ready}
use Rattle.tables.proofs.Facts.{Facts, form-facts, facts-form}

-- the tests of a row and what they say

module _ (n : ℕ) (size : ℕ → ℕ) (i p : ℕ) where
  prefix_of : prefix_in_form n size i p ≡ true → (p ≡ none) ⊎ ((p < n) × (size p < size i))
  unfolding prefix_in_form
  prefix_of e = go (eqb p none) refl e
    where
      go : (b : Bool) → eqb p none ≡ b → b || (ltb p n && ltb (size p) (size i)) ≡ true → (p ≡ none) ⊎ ((p < n) × (size p < size i))
      go true q t = inl (eqb-true p none q)
      go false q t = let w = and_both (ltb p n) (ltb (size p) (size i)) t in inr (ltb-true p n w.0, ltb-true (size p) (size i) w.1)

  prefix-is : (p ≡ none) ⊎ ((p < n) × (size p < size i)) → prefix_in_form n size i p ≡ true
  unfolding prefix_in_form
  prefix-is = ⊎_elim (λ e. rw (eq-eqb p none e)) (λ h. rw (lt-ltb p n h.0, lt-ltb (size p) (size i) h.1, or-true))

-- the row twice, which is one byte
record Twice (size : ℕ → ℕ) (i l r : ℕ) : Type 0 where
  left : l ≡ i
  right : r ≡ i
  one : size i ≡ 1

module _ (file : List ℕ) (i l r : ℕ) where
  parts_of_lem : parts_in_form (row_size file) i l r ≡ true → Twice (row_size file) i l r ⊎ Lower file i l r
  unfolding parts_in_form
  parts_of_lem e = go (eqb l i && (eqb r i && eqb (row_size file i) 1)) refl e
    where
      go : (b : Bool) → eqb l i && (eqb r i && eqb (row_size file i) 1) ≡ b
          → b || (ltb l i && (ltb r i && eqb (row_size file l + row_size file r) (row_size file i))) ≡ true → Twice (row_size file) i l r ⊎ Lower file i l r
      go true q t =
          let w = and_both (eqb l i) _ q in
          let v = and_both (eqb r i) _ w.1 in
          inl (record { left = eqb-true l i w.0; right = eqb-true r i v.0; one = eqb-true (row_size file i) 1 v.1 })
      go false q t =
          let w = and_both (ltb l i) _ t in
          let v = and_both (ltb r i) _ w.1 in
          inr (record { left = ltb-true l i w.0; right = ltb-true r i v.0; sizes = eqb-true _ (row_size file i) v.1 })

  parts_are : Twice (row_size file) i l r ⊎ Lower file i l r → parts_in_form (row_size file) i l r ≡ true
  unfolding parts_in_form
  parts_are =
      ⊎_elim
      (λ t. rw (eq-eqb l i t.left, eq-eqb r i t.right, eq-eqb (row_size file i) 1 t.one))
      (λ t. rw (lt-ltb l i t.left, lt-ltb r i t.right, eq-eqb _ (row_size file i) t.sizes, or-true))

module _ (T : Tables) (n : ℕ) where
  open T use {file, places as placeTable, lefts, rights, prefixes, area}

  module _ (f : Facts T n) where
    row-facts : (c : ℕ) → c < n → RowIs file c
    row-facts c h = row_is file c (omega (arith, (accepted file n f.passed).count))

    tests : (c : ℕ) → c < n
        → (prefix_in_form n (row_size file) c (get_or prefixes c 0) ≡ true) × (parts_in_form (row_size file) c (get_or lefts c 0) (get_or rights c 0) ≡ true)
    unfolding row_in_form
    tests c h = and_both _ _ (f.rows_fit c h)

    parts : (c : ℕ) → c < n → Twice (row_size file) c (get_or lefts c 0) (get_or rights c 0) ⊎ Lower file c (get_or lefts c 0) (get_or rights c 0)
    parts c h = parts_of_lem file c (get_or lefts c 0) (get_or rights c 0) (tests c h).1

    parts_ready : PartsReady file lefts rights n
    parts_ready =
        record {
          left_room = f.lefts_room;
          right_room = f.rights_room;
          single = λ c h e.
              ⊎_elim
              (λ t. (t.left, t.right))
              (λ t. absurd (omega (arith, t.left, t.right, t.sizes, (row-facts (get_or lefts c 0) (omega (arith, t.left))).some, (row-facts (get_or rights c 0) (omega (arith, t.right))).some)))
              (parts c h);
          lower = λ c h l. ⊎_elim (λ t. absurd (omega (arith, t.one))) (λ t. t) (parts c h);
        }

    prefixes_ready : PrefixesReady file prefixes n
    prefixes_ready = record { room = f.prefixes_room; shorter = λ c h. prefix_of n (row_size file) c (get_or prefixes c 0) (tests c h).0 }

  -- tables in form may be read
  pub ready : form_of T ≡ Some n → Ready T n
  ready e =
      let f = form-facts T n e in
      record { places_ready = places_ready file placeTable n f.passed f.places_match; parts_ready = parts_ready f; prefixes_ready = prefixes_ready f; area_room = f.area_room }

  -- tables of an accepted file are in form if they hold its places and may be read
  pub is_in_form : check_of file ≡ Ok n → take n placeTable ≡ places file → PartsReady file lefts rights n → PrefixesReady file prefixes n → 16384 ≤ length area
      → form_of T ≡ Some n
  unfolding row_in_form
  is_in_form p m s t w =
      let a = accepted file n p in
      facts-form T n
      (record {
        passed = p;
        places_room = omega (arith, length-take n placeTable, ap length m, a.count_places);
        lefts_room = s.left_room;
        rights_room = s.right_room;
        prefixes_room = t.room;
        area_room = w;
        places_match = m;
        rows_fit = λ c h.
            rw (prefix-is n (row_size file) c (get_or prefixes c 0) (t.shorter c h))
            (parts_are file c (get_or lefts c 0) (get_or rights c 0) (found c h (row_is file c (omega (arith, a.count))).some));
      })
    where
      found : (c : ℕ) → c < n → 1 ≤ row_size file c → Twice (row_size file) c (get_or lefts c 0) (get_or rights c 0) ⊎ Lower file c (get_or lefts c 0) (get_or rights c 0)
      found c h o =
          ⊎_elim
          (λ e. let q = s.single c h (sym e) in inl (record { left = q.0; right = q.1; one = sym e }))
          (λ l. inr (s.lower c h l))
          (eq-or-lt_of_le o)

-- tables that are not out of form are in form, with some n
pub form-rows : (T : Tables) → is_out (form_of T) ≡ false → (n : ℕ) × (form_of T ≡ Some n)
form-rows T e = go (form_of T) refl e
  where
    go : (f : Option ℕ) → form_of T ≡ f → is_out f ≡ false → (n : ℕ) × (form_of T ≡ Some n)
    go (Some n) q _ = (n, q)
    go None q z = absurd (let y : ◌≡◌ {A = ℕ} 0 1 = cc in omega arith)
