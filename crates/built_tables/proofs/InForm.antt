-- Tables that an accepting build left are in form, and may be read by the functions over them. Assumes nothing.
use mathlib.Core.Path.{◌≡◌, ap, ◌∙◌}
use mathlib.Core.Logic.{inl, inr, ⊎_elim}
use mathlib.Core.List.{List, []}
use mathlib.Core.Bool.{true}
use mathlib.Core.Option.{none}
use Prim.Native.Nat.{ℕ, ◌<◌}
use native.Mathlib.Omega.{arith}
use lib.ListN.{length, length-append, get_or}
use borrow.Author.Tests.{lt-ltb, le-ltb}
use Rattle.std.specs.Prelude.{Some}
use Rattle.phrase_file.specs.Form.{rows}
use Rattle.phrase_file.proofs.Checks as Checks
use Rattle.theory.specs.Dictionary.{Dictionary}
use Rattle.theory.specs.Parts.{Parts, part_or, bytes_of, parts_of, parts_below, dictionary}
use Rattle.theory.proofs.Accepted.{parts_at}
use Rattle.tables.specs.Tables.{Tables}
use Rattle.tables.specs.InForm.{form_of}
use Rattle.tables.specs.Ready.{Lower, PartsReady, PrefixesReady, Ready}
use Rattle.tables.proofs.Readiness as Readiness
use Rattle.built_tables.specs.Built.{dictionary_of, Built}
use Rattle.built_tables.proofs.Rows.{bytes_are, lawful-is}
use Rattle.built_tables.proofs.Lookups.{prefix_cases}

-- a one-byte row has itself twice
module _ (rs : List (List ℕ)) (c : ℕ) (h : c < length rs) (one : length (bytes_of rs c) ≡ 1) where
  part-is : (part : Parts → ℕ) → part_or part c (parts_of rs (parts_below rs c) c) ≡ c → part_or part c (get_or (parts_below rs (length rs)) c none) ≡ c
  part-is part e = ap (part_or part c) (parts_at rs (length rs) c h) ∙ e

  single-left : (dictionary rs).left c ≡ c
  unfolding dictionary
  single-left = part-is (λ p. p.left) (rw (le-ltb 1 (length (bytes_of rs c)) (omega arith), parts_of))

  single-right : (dictionary rs).right c ≡ c
  unfolding dictionary
  single-right = part-is (λ p. p.right) (rw (le-ltb 1 (length (bytes_of rs c)) (omega arith), parts_of))

module _ (T : Tables) (n : ℕ) (B : Built T n) where
  open T use {file, lefts, rights, prefixes}

  abbrev D : Dictionary
  D = dictionary_of file

  size_is : (c : ℕ) → c < n → length (D.bytes c) ≡ length (get_or (rows file) c [])
  size_is c h = ap length (bytes_are T n B c h)

  single : (c : ℕ) → c < n → length (get_or (rows file) c []) ≡ 1 → (get_or lefts c 0 ≡ c) × (get_or rights c 0 ≡ c)
  unfolding dictionary_of dictionary
  single c h e =
      let r : c < length (rows file) = omega (arith, (Checks.accepted file n B.passed).count) in
      let o : length (bytes_of (rows file) c) ≡ 1 = size_is c h ∙ e in
      (B.lefts_are c h ∙ single-left (rows file) c r o, B.rights_are c h ∙ single-right (rows file) c r o)

  long-is : (c : ℕ) → c < n → 1 < length (get_or (rows file) c []) → D.long c ≡ true
  unfolding dictionary_of dictionary
  long-is c h l = lt-ltb 1 (length (bytes_of (rows file) c)) (omega (arith, size_is c h))

  lower : (c : ℕ) → c < n → 1 < length (get_or (rows file) c []) → Lower file c (get_or lefts c 0) (get_or rights c 0)
  lower c h l =
      let laws = (lawful-is T n B).laws in
      let long = long-is c h l in
      let x = laws.left_below c long in
      let y = laws.right_below c long in
      rw (B.lefts_are c h, B.rights_are c h)
      (record {
        left = x;
        right = y;
        sizes = omega (
          arith,
          ap length (laws.parts c long),
          length-append (D.bytes (D.left c)) (D.bytes (D.right c)),
          size_is (D.left c) (omega arith),
          size_is (D.right c) (omega arith),
          size_is c h,
        );
      })

  parts_ready : PartsReady file lefts rights n
  parts_ready = record { left_room = B.lefts_room; right_room = B.rights_room; single = single; lower = lower }

  prefixes_ready : PrefixesReady file prefixes n
  prefixes_ready = record {
    room = B.prefixes_room;
    shorter = λ c h. ⊎_elim
        (λ e. inl e.0)
        (λ p. inr (p.row, omega (arith, p.shorter, size_is (get_or prefixes c 0) p.row, size_is c h)))
        (prefix_cases T n B c h);
  }

  -- tables that an accepting build left are in form, n being the count of rows
  pub is_in_form : form_of T ≡ Some n
  is_in_form = Readiness.is_in_form T n B.passed B.places_are parts_ready prefixes_ready B.area_room

  pub ready : Ready T n
  ready = Readiness.ready T n is_in_form
