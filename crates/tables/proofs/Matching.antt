-- One pass over the table of places: what is known before each row. Assumes nothing.
use mathlib.Core.Path.{◌≡◌, refl, sym, ap, ◌∙◌}
use mathlib.Core.List.{List, [], ◌∷◌}
use mathlib.Core.Bool.{true, false}
use mathlib.Core.Logic.{⊎_elim}
use Prim.Native.Nat.{ℕ, zero, suc, ◌+◌, ◌≤◌, ◌<◌}
use native.Mathlib.Omega.{arith}
use lib.ListN.{length, get_or, take, set, length-set}
use lib.Seq.{get_or-take, get_or-set_same, get_or-set_other, ext_get_or, length-take-le}
use borrow.Author.Count.{below_more}
use Rattle.phrase_file.specs.Form.{places, end_after, records_end}
use Rattle.phrase_file.proofs.Places.{step}
use Rattle.phrase_file.proofs.Rows.{row_is, next_place}
use Rattle.phrase_file.proofs.Checks.{accepted}
use Rattle.placed_rows.proofs.Beginning.{no_true}
use Rattle.theory.specs.Lists.{equal}
use Rattle.theory.proofs.Lists.{equal_eq}
use Rattle.tables.specs.InForm.{row_size}
use Rattle.tables.specs.Steps.{Passed, PlacesMatch}
use Rattle.tables.proofs.Sweeps.{equal-same}

-- an element does not depend on the default
default : (l : List ℕ) (i c d : ℕ) → i < length l → get_or l i c ≡ get_or l i d
default [] i c d h = absurd (omega arith)
default (x ∷ l) zero c d h = refl
default (x ∷ l) (suc i) c d h = default l i c d (omega arith)

-- the first record stands at 0
first-place : (file : List ℕ) → 0 ≡ get_or (places file) 0 (records_end file)
unfolding places records_end end_after
first-place file = ⊎_elim (λ n. rw n.places_are) (λ r. rw r.places_are) (step file 0)

-- the first i places match the file and the lengths of these rows are written; the next record stands at an offset
pub record Matching (file placeTable : List ℕ) (n : ℕ) (sizes : List ℕ) (at i : ℕ) : Type 0 where
  pub few : i ≤ n
  pub width : length sizes ≡ 4096
  pub same : (j : ℕ) → j < i → get_or placeTable j 0 ≡ get_or (places file) j 0
  pub sizes_are : (j : ℕ) → j < i → get_or sizes j 0 ≡ row_size file j
  pub next : at ≡ get_or (places file) i (records_end file)
  pub inside : at ≤ length file

module _ (file placeTable : List ℕ) (n : ℕ) (sizes₀ : List ℕ) (s : Passed file placeTable n sizes₀) where
  pub match_start : Matching file placeTable n sizes₀ 0 0
  match_start =
      record {
        few = omega arith;
        width = s.width;
        same = λ j h. absurd (omega arith);
        sizes_are = λ j h. absurd (omega arith);
        next = first-place file;
        inside = omega arith;
      }

  -- what is known of the record at the offset
  pub record Next (at i : ℕ) : Type 0 where
    pub place : at ≡ get_or (places file) i 0
    pub size : get_or file (at + 2) 0 ≡ row_size file i
    pub inside : at + 3 + get_or file (at + 2) 0 ≤ length file
    pub after : at + 3 + get_or file (at + 2) 0 ≡ get_or (places file) (i + 1) (records_end file)

  module _ (sizes : List ℕ) (at i : ℕ) (m : Matching file placeTable n sizes at i) (h : i < n) where
    pub next_row : Next at i
    next_row =
        let a = accepted file n s.passed in
        let r = row_is file i (omega (arith, a.count)) in
        let p : at ≡ get_or (places file) i 0 = m.next ∙ default (places file) i (records_end file) 0 (omega (arith, a.count_places)) in
        let z : get_or file (at + 2) 0 ≡ row_size file i = ap (λ (k : ℕ). get_or file (k + 2) 0) p ∙ sym r.size in
        record {
          place = p;
          size = z;
          inside = omega (arith, r.inside);
          after = omega (arith, next_place file i (omega (arith, a.count)));
        }

    -- a place that is not that record's does not match
    pub match_fails : (now : List ℕ) → (get_or placeTable i 0 ≡ at → ⊥) → PlacesMatch file placeTable n now false
    match_fails now differ =
        record {
          answer = sym (no_true (equal (take n placeTable) (places file)) (λ e. differ (meets (equal_eq _ _ e))));
          sizes_are = λ e. absurd (let z : ◌≡◌ {A = ℕ} 0 1 = cc in omega arith);
        }
      where
        meets : take n placeTable ≡ places file → get_or placeTable i 0 ≡ at
        meets e = sym (get_or-take n placeTable i 0 h) ∙ ap (λ (l : List ℕ). get_or l i 0) e ∙ sym next_row.place

    -- the record's own place matches
    pub match_more : (place size : ℕ) → place ≡ get_or placeTable i 0 → place ≡ at → size ≡ get_or file (place + 2) 0
        → Matching file placeTable n (set sizes i (get_or file (place + 2) 0)) (at + 3 + size) (i + 1)
    match_more place size p e z =
        let a = accepted file n s.passed in
        let r = next_row in
        let w : size ≡ get_or file (at + 2) 0 = z ∙ ap (λ (k : ℕ). get_or file (k + 2) 0) e in
        let v = get_or file (place + 2) 0 in
        record {
          few = omega arith;
          width = length-set sizes i v ∙ m.width;
          same = below_more _ _ m.same (sym p ∙ e ∙ r.place);
          sizes_are = below_more _ _
              (λ j l. get_or-set_other sizes i j v 0 (λ q. omega arith) ∙ m.sizes_are j l)
              (get_or-set_same sizes i v 0 (omega (arith, m.width, a.most)) ∙ sym z ∙ w ∙ r.size);
          next = ap (λ (k : ℕ). at + 3 + k) w ∙ r.after;
          inside = omega (arith, r.inside);
        }

  pub match_done : (sizes : List ℕ) (at i : ℕ) → Matching file placeTable n sizes at i → n ≤ i → PlacesMatch file placeTable n sizes true
  match_done sizes at i m h =
      let a = accepted file n s.passed in
      let w : length (take n placeTable) ≡ n = length-take-le n placeTable s.room in
      let same : take n placeTable ≡ places file =
      ext_get_or 0 (take n placeTable) (places file) (w ∙ a.count_places)
      (λ j l. get_or-take n placeTable j 0 (omega arith) ∙ m.same j (omega arith)) in
      record {
        answer = sym (equal-same _ _ same);
        sizes_are = λ e j l. m.sizes_are j (omega arith);
      }
