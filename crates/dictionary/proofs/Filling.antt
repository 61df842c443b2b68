-- The buffers are filled step by step. Assumes nothing.
use mathlib.Core.Path.{◌≡◌, refl, sym, ap, ◌∙◌}
use mathlib.Core.Logic.{⊎_elim}
use mathlib.Core.List.{List, ◌++◌}
use Prim.Native.Nat.{ℕ, ◌≤◌, ◌<◌}
use native.Mathlib.Omega.{arith}
use lib.ListN.{length, take, drop}
use lib.Seq.{drop-drop}
use borrow.Author.Tests.{lt-ltb, le-ltb}
use Rattle.theory.proofs.Lists.{lt_or_ge}
use Rattle.causes.specs.declared.Cause.{Cause}
use Rattle.causes.specs.declared.Cause.TheVariants.{EqualRow, SameHash, NoParts}
use Rattle.std.specs.Prelude.{Result, Ok, Err}
use Rattle.causes.proofs.Calls.{ok_err, ok_same}
use Rattle.phrase_file.specs.Form.{places}
use Rattle.phrase_file.specs.Checks.{check_of}
use Rattle.phrase_file.specs.Post.{PlacesFit}
use Rattle.phrase_file.proofs.Checks.{accepted}
use Rattle.placed_rows.specs.Rows.{row, Placed}
use Rattle.clashes.specs.Clashes.{is_equal, shares_hash, Found}
use Rattle.search_fill.specs.Filled.{Filled}
use Rattle.built_tables.specs.Built.{Built}
use Rattle.parts.specs.Parts.{PartsFit, PartsFilled}
use Rattle.tables.specs.Tables.{Tables, tables}
use Rattle.dictionary.specs.Build.{equal_row}
use Rattle.dictionary.specs.Steps.{rows_answer, shared_hash, Buildable, Searched, clash_cause, ClashTold, TablesFilled}
use Rattle.dictionary.proofs.Sizes.{Large, large, not_short}
use Rattle.dictionary.proofs.Rows as Table
use Rattle.dictionary.proofs.Finding.{searched, is-built}
use Rattle.dictionary.proofs.Building.{answer-equal, answer_hash, answer-parts, answer-rows}

-- a file with n rows that passes 2 to 4, and places, prefixes and search area that are large enough
pub record RowsFit (file placeTable prefixes area : List ℕ) (n : ℕ) : Type 0 where
  pub passed : check_of file ≡ Ok n
  pub places_room : n ≤ length placeTable
  pub prefixes_room : n ≤ length prefixes
  pub area_room : 16384 ≤ length area

-- the places are written, and r is the lowest row with the hash of an earlier row; where there is none, prefixes and
-- search area are found. What is beyond is unchanged
pub record RowsFilled (file : List ℕ) (factor n : ℕ) (placeTable prefixes area placeTable' prefixes' area' : List ℕ) (r : ℕ) : Type 0 where
  pub answer : r ≡ shared_hash file factor
  pub places_are : take n placeTable' ≡ places file
  pub searched : n ≤ r → Searched file placeTable' prefixes' area' n
  pub places_length : length placeTable' ≡ length placeTable
  pub prefixes_length : length prefixes' ≡ length prefixes
  pub area_length : length area' ≡ length area
  pub places_beyond : drop n placeTable' ≡ drop n placeTable
  pub prefixes_beyond : drop n prefixes' ≡ drop n prefixes
  pub area_beyond : drop 16384 area' ≡ drop 16384 area

module _ (file placeTable prefixes area : List ℕ) (factor n : ℕ) (R : RowsFit file placeTable prefixes area n) where
  pub places_fit : PlacesFit file placeTable
  places_fit = Table.places_fit file n R.passed placeTable R.places_room

  -- the places were written
  module _ (placeTable' : List ℕ) (e : placeTable' ≡ places file ++ drop (length (places file)) placeTable) where
    written : take n placeTable' ≡ places file
    written = Table.places-written file n R.passed placeTable placeTable' e

    pub placed : Placed file placeTable' n
    placed = (Table.places_ready file n R.passed placeTable' written).placed

    -- the hashes were compared
    module _ (area₁ : List ℕ) (shared : ℕ) (C : Found (shares_hash (row file placeTable' n) factor) n area area₁ shared) where
      same : shared ≡ shared_hash file factor
      unfolding shared_hash
      same = C.answer ∙ Table.first-is file n R.passed placeTable' written (λ bytes. shares_hash bytes factor)

      filled : (prefixes' area' : List ℕ) → (n ≤ shared → Searched file placeTable' prefixes' area' n)
          → length prefixes' ≡ length prefixes → length area' ≡ length area₁ → drop n prefixes' ≡ drop n prefixes → drop 16384 area' ≡ drop 16384 area₁
          → RowsFilled file factor n placeTable prefixes area placeTable' prefixes' area' shared
      filled prefixes' area' s xl al xb ab = record {
        answer = same;
        places_are = written;
        searched = s;
        places_length = Table.places_length file n R.passed placeTable placeTable' e R.places_room;
        prefixes_length = xl;
        area_length = al ∙ C.kept;
        places_beyond = Table.places_beyond file n R.passed placeTable placeTable' e;
        prefixes_beyond = xb;
        area_beyond = ab ∙ C.beyond;
      }

      pub shared_fills : shared < n → RowsFilled file factor n placeTable prefixes area placeTable' prefixes area₁ shared
      shared_fills h = filled prefixes area₁ (λ l. absurd (omega arith)) refl refl refl refl

      pub area_room : 16384 ≤ length area₁
      area_room = omega (arith, C.kept, R.area_room)

      pub search_fills : (prefixes' area' : List ℕ) → Filled file placeTable' n prefixes area₁ prefixes' area' → RowsFilled file factor n placeTable prefixes area placeTable' prefixes' area' shared
      search_fills prefixes' area' F =
          filled prefixes' area' (λ l. searched file placeTable' prefixes area₁ prefixes' area' factor n R.passed written (omega (arith, same)) R.prefixes_room area_room F)
          F.prefixes_filled.prefixes_length F.area_filled.area_length F.prefixes_filled.prefixes_beyond (sym (drop-drop 3840 12544 area') ∙ ap (drop 3840) F.area_filled.area_beyond ∙ drop-drop 3840 12544 area₁)

-- the bytes of the rows were compared
module _ (file placeTable : List ℕ) (n shared : ℕ) (area area' : List ℕ) (equal : ℕ) (F : Found (is_equal (row file placeTable n)) n area area' equal) where
  told : (r : Cause) → r ≡ clash_cause n shared equal → ClashTold file placeTable n shared area area' r
  told r e = record { answer = e ∙ ap (clash_cause n shared) F.answer; area_length = F.kept; area_beyond = F.beyond }

  pub told-equal : equal < n → ClashTold file placeTable n shared area area' (EqualRow equal)
  told-equal h = told (EqualRow equal) (rw (lt-ltb equal n h, clash_cause))

  pub told_hash : n ≤ equal → ClashTold file placeTable n shared area area' (SameHash shared)
  told_hash h = told (SameHash shared) (rw (le-ltb equal n h, clash_cause))

module _ (T : Tables) (factor n : ℕ) (A : Buildable factor T n) where
  open T use {file, places as placeTable, lefts, rights, prefixes, area}

  enough : Large T n
  enough = large T n A.room

  pub few : n ≤ 4096
  few = (accepted file n A.passed).most

  pub rows_fit : RowsFit file placeTable prefixes area n
  rows_fit = record { passed = A.passed; places_room = enough.places_room; prefixes_room = enough.prefixes_room; area_room = enough.area_room }

  -- the rows were filled
  module _ (placeTable' prefixes' area' : List ℕ) (shared : ℕ) (R : RowsFilled file factor n placeTable prefixes area placeTable' prefixes' area' shared) where
    filled-tables : (lefts' rights' area₂ : List ℕ) (r : Result ℕ Cause)
        → length lefts' ≡ length lefts → length rights' ≡ length rights → drop n lefts' ≡ drop n lefts → drop n rights' ≡ drop n rights
        → length area₂ ≡ length area' → drop 16384 area₂ ≡ drop 16384 area'
        → r ≡ rows_answer factor T n
        → ((m : ℕ) → r ≡ Ok m → Built (tables file placeTable' lefts' rights' prefixes' area₂) m)
        → TablesFilled factor n T (tables file placeTable' lefts' rights' prefixes' area₂) r
    filled-tables lefts' rights' area₂ r ll rl lb rb al ab a t = record {
      answer = a;
      built = t;
      room = not_short (tables file placeTable' lefts' rights' prefixes' area₂) n (record {
        places_room = omega (arith, enough.places_room, R.places_length);
        lefts_room = omega (arith, enough.lefts_room);
        rights_room = omega (arith, enough.rights_room);
        prefixes_room = omega (arith, enough.prefixes_room, R.prefixes_length);
        area_room = omega (arith, enough.area_room, R.area_length);
      });
      beyond_kept = rw (R.places_beyond, lb, rb, R.prefixes_beyond, ab ∙ R.area_beyond);
    }

    -- two rows have one hash
    pub rows-placed : Placed file placeTable' n
    rows-placed = (Table.places_ready file n A.passed placeTable' R.places_are).placed

    pub clash-room : 16384 ≤ length area'
    clash-room = omega (arith, enough.area_room, R.area_length)

    clash-told : (area₂ : List ℕ) (cause : Cause) → ClashTold file placeTable' n shared area' area₂ cause
        → cause ≡ clash_cause n shared (equal_row file)
    unfolding equal_row
    clash-told area₂ cause C =
        C.answer ∙ ap (clash_cause n shared) (Table.first-is file n A.passed placeTable' R.places_are is_equal)

    pub clash-filled : (area₂ : List ℕ) (cause : Cause) → ClashTold file placeTable' n shared area' area₂ cause → shared < n
        → TablesFilled factor n T (tables file placeTable' lefts rights prefixes' area₂) (Err cause)
    clash-filled area₂ cause C h =
        filled-tables lefts rights area₂ (Err cause) refl refl refl refl C.area_length C.area_beyond
        (⊎_elim
        (λ l. ap Err (equal l) ∙ answer-equal factor T n A l)
        (λ l. ap Err (other l) ∙ answer_hash factor T n A shared R.answer l h)
        (lt_or_ge (equal_row file) n))
        (λ m e. ok_err (sym e))
      where
        equal : equal_row file < n → cause ≡ EqualRow (equal_row file)
        equal l = clash-told area₂ cause C ∙ rw (lt-ltb (equal_row file) n l, clash_cause)

        other : n ≤ equal_row file → cause ≡ SameHash shared
        other l = clash-told area₂ cause C ∙ rw (le-ltb (equal_row file) n l, clash_cause)

    module _ (d : n ≤ shared) where
      S : Searched file placeTable' prefixes' area' n
      S = R.searched d

      pub parts-fit : PartsFit file placeTable' lefts rights prefixes' area' n
      parts-fit = record { rows_found = S.rows_found; prefixes_found = S.prefixes_found; left_room = enough.lefts_room; right_room = enough.rights_room }

      -- the parts were filled
      module _ (lefts' rights' area₂ : List ℕ) (without : ℕ) (P : PartsFilled file lefts rights area' lefts' rights' area₂ n without) where
        pub parts-filled : without < n → TablesFilled factor n T (tables file placeTable' lefts' rights' prefixes' area₂) (Err (NoParts without))
        parts-filled h =
            filled-tables lefts' rights' area₂ (Err (NoParts without)) P.lefts_length P.rights_length P.lefts_beyond P.rights_beyond
            P.area_kept.area_length P.area_kept.beyond (answer-parts factor T n A shared R.answer d without P.answer h) (λ m e. ok_err (sym e))

        pub rows-filled : n ≤ without → TablesFilled factor n T (tables file placeTable' lefts' rights' prefixes' area₂) (Ok n)
        rows-filled h =
            filled-tables lefts' rights' area₂ (Ok n) P.lefts_length P.rights_length P.lefts_beyond P.rights_beyond
            P.area_kept.area_length P.area_kept.beyond (answer-rows factor T n A shared R.answer d without P.answer h)
            (λ m e. rw (← ok_same e) (is-built file placeTable' prefixes' area' lefts rights lefts' rights' area₂ n without A.passed R.places_are S P h))
