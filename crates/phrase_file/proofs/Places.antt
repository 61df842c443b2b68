-- Laws of the places of a file's rows. Assumes nothing.
use mathlib.Core.Path.{◌≡◌, refl, sym, ap, ◌∙◌}
use mathlib.Core.List.{List, [], ◌∷◌}
use mathlib.Core.Logic.{◌⊎◌, inl, inr, ⊎_elim}
use Prim.Native.Nat.{ℕ, zero, suc, ◌+◌, ◌-◌, ◌<◌, ◌≤◌}
use native.Mathlib.Nat.{eq-zero-or-pos}
use native.Mathlib.Omega.{arith}
use lib.ListN.{length}
use Rattle.phrase_file.specs.Form.{row_length, places_within, places_from, end_after}
use Rattle.phrase_file.proofs.Records.{row-whole, length-byte, some_record, no_record}

-- what is known at an offset where no whole record stands
pub record NoRow (file : List ℕ) (at : ℕ) : Type 0 where
  pub none : row_length file at ≡ 0
  pub places_are : places_from file at ≡ []
  pub end_is : end_after file at (places_from file at) ≡ at

-- what is known at an offset where a row of m bytes stands
pub record Row (file : List ℕ) (at m : ℕ) : Type 0 where
  pub size : m ≡ row_length file at
  pub some : 1 ≤ m
  pub most : m ≤ 64
  pub inside : at + 3 + m ≤ length file
  pub places_are : places_from file at ≡ at ∷ places_from file (at + 3 + m)
  pub end_is : end_after file at (places_from file at) ≡ end_after file (at + 3 + m) (places_from file (at + 3 + m))

module _ (file : List ℕ) where
  within_none : (k at : ℕ) → row_length file at ≡ 0 → places_within k file at ≡ []
  unfolding places_within
  within_none zero at e = refl
  within_none (suc k) at e = rw (no_record file at e, places_within)

  within-some : (k at : ℕ) → 0 < row_length file at → places_within (suc k) file at ≡ at ∷ places_within k file (at + 3 + row_length file at)
  unfolding places_within
  within-some k at h = rw (some_record file at h, places_within)

  -- a row ends inside the file
  row_inside : (at : ℕ) → 0 < row_length file at → at + 3 + row_length file at ≤ length file
  row_inside at h = let w = row-whole file at h in let e = length-byte file at w in omega (arith, w.inside)

  -- a row is no longer than the file
  pub length-inside : (at : ℕ) → row_length file at ≤ length file
  length-inside at = ⊎_elim (λ e. omega arith) (λ l. let i = row_inside at l in omega arith) (eq-zero-or-pos (row_length file at))

  pub past_end : (at : ℕ) → length file ≤ at → row_length file at ≡ 0
  past_end at h = ⊎_elim (λ e. e) (λ l. let i = row_inside at l in omega arith) (eq-zero-or-pos (row_length file at))

  -- one place more changes nothing where there were enough
  more : (k at : ℕ) → length file - at ≤ k → places_within (suc k) file at ≡ places_within k file at
  more zero at h = let e = past_end at (omega arith) in within_none 1 at e ∙ sym (within_none 0 at e)
  more (suc k) at h =
      ⊎_elim
      (λ e. within_none (suc (suc k)) at e ∙ sym (within_none (suc k) at e))
      (λ l. within-some (suc k) at l ∙ ap (λ (ps : List ℕ). at ∷ ps) (more k (at + 3 + row_length file at) (omega arith)) ∙ sym (within-some k at l))
      (eq-zero-or-pos (row_length file at))

  from_some : (at : ℕ) → 0 < row_length file at → places_from file at ≡ at ∷ places_from file (at + 3 + row_length file at)
  unfolding places_from
  from_some at h =
      let i = row_inside at h in
      let e : length file ≡ suc (length file - 1) = omega arith in
      ap (λ (k : ℕ). places_within k file at) e
      ∙ within-some (length file - 1) at h
      ∙ ap (λ (ps : List ℕ). at ∷ ps) (sym (more (length file - 1) (at + 3 + row_length file at) (omega arith)))
      ∙ ap (λ (k : ℕ). at ∷ places_within k file (at + 3 + row_length file at)) (sym e)

  pub none_found : (at : ℕ) → row_length file at ≡ 0 → NoRow file at
  unfolding places_from end_after
  none_found at e = let p = within_none (length file) at e in record { none = e; places_are = p; end_is = rw p }

  pub row-found : (at m : ℕ) → m ≡ row_length file at → (m ≡ 0 → ⊥) → Row file at m
  unfolding end_after
  row-found at m e n =
      let h : 0 < row_length file at = omega arith in
      let w = row-whole file at h in
      let b = length-byte file at w in
      let p : places_from file at ≡ at ∷ places_from file (at + 3 + m) = rw e (from_some at h) in
      record {
        size = e;
        some = omega arith;
        most = omega (arith, w.most);
        inside = omega (arith, w.inside);
        places_are = p;
        end_is = rw p (ap (λ (k : ℕ). end_after file (at + 3 + k) (places_from file (at + 3 + m))) (sym e));
      }

  pub step : (at : ℕ) → NoRow file at ⊎ Row file at (row_length file at)
  step at = ⊎_elim (λ e. inl (none_found at e)) (λ l. inr (row-found at (row_length file at) refl (λ z. omega arith))) (eq-zero-or-pos (row_length file at))

  -- induction along the records: what holds where no record stands, and at each record if it holds after it, holds everywhere
  pub along : (P : ℕ → Type 0)
      → ((at : ℕ) → NoRow file at → P at)
      → ((at m : ℕ) → Row file at m → P (at + 3 + m) → P at)
      → (at : ℕ) → P at
  along P none some at = go (length file) at (omega arith)
    where
      go : (k at : ℕ) → length file - at ≤ k → P at
      go zero at h = none at (none_found at (past_end at (omega arith)))
      go (suc k) at h =
          ⊎_elim (none at) (λ r. let i = r.inside in some at (row_length file at) r (go k (at + 3 + row_length file at) (omega arith))) (step at)
