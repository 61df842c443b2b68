-- The shortest codes (theorem 8): they are rows, they spell the text, no list of rows that does has fewer codes, and of those with as few
-- each other one has the shorter row at the first place where it differs.
use mathlib.Core.Path.{◌≡◌, refl, sym, ap, ◌∙◌}
use mathlib.Core.Logic.{◌⊎◌, inl, inr, ⊎_elim}
use mathlib.Core.List.{List, [], ◌∷◌, ◌++◌}
use Prim.Native.Nat.{ℕ, zero, suc, ◌≤◌, ◌<◌}
use native.Mathlib.Omega.{arith}
use lib.ListN.{length, length-append, drop}
use Rattle.theory.specs.Lists.{In}
use Rattle.theory.specs.Dictionary.{Dictionary, spell, AllRows, KnownText}
use Rattle.theory.specs.Parts.{rows_at}
use Rattle.theory.specs.Shortest.{shortest, LongerFirst}
use Rattle.theory.proofs.PairCheck.{Lawful}
use Rattle.theory.proofs.RowsAt.{different, filled, rows-known, rows-every}
use Rattle.theory.proofs.Longest.{row_length, rest-is, row-begins}
use Rattle.theory.proofs.ShortestSteps.{behind, chosen, shortest-nil, shortest-cons, chosen_in, chosen-fewest, chosen-longest}

module _ (D : Dictionary) where
  record Good (t : List ℕ) : Type 0 where
    rows : AllRows D (shortest D t)
    spells : spell D (shortest D t) ≡ t
    least : (M : List ℕ) → AllRows D M → spell D M ≡ t → length (shortest D t) ≤ length M
    ties : (M : List ℕ) → AllRows D M → spell D M ≡ t → length M ≡ length (shortest D t) → (M ≡ shortest D t) ⊎ LongerFirst D (shortest D t) M

  module _ (A : Lawful D) where
    good-nil : Good []
    good-nil = record { rows = rw e tt; spells = ap (spell D) e; least = λ M a s. omega (arith, ap length e); ties = λ M a s q. alone M (q ∙ ap length e) }
      where
        e : shortest D [] ≡ []
        e = shortest-nil D

        alone : (M : List ℕ) → length M ≡ 0 → (M ≡ shortest D []) ⊎ LongerFirst D (shortest D []) M
        alone [] q = inl (sym e)
        alone (d ∷ M) q = absurd (omega arith)

    -- a list of rows that spells a text: its first row begins the text, and the others spell the rest
    record First (t : List ℕ) (d : ℕ) (M : List ℕ) : Type 0 where
      row : In d (rows_at D t)
      rest : spell D M ≡ drop (row_length D d) t

    first : (t : List ℕ) (d : ℕ) (M : List ℕ) → AllRows D (d ∷ M) → spell D (d ∷ M) ≡ t → First t d M
    first t d M a s = record {
      row = rows-every D (different D A) (length t) t d (spell D M) a.0 (sym s) (omega (arith, ap length s, length-append (D.bytes d) (spell D M)));
      rest = rest-is D t d (spell D M) (sym s);
    }

    module _ (t : List ℕ) (k : KnownText D t) (h : 0 < length t) (ih : (i : ℕ) → 0 < i → Good (drop i t)) where
      abbrev c : ℕ
      c = chosen D t

      e : shortest D t ≡ c ∷ shortest D (drop (row_length D c) t)
      e = shortest-cons D A t k h

      after : (d : ℕ) → Good (drop (row_length D d) t)
      after d = ih (row_length D d) (filled D A d)

      -- a list of rows that spells t has behind its first row no fewer codes than the shortest ones there
      fewer : (d : ℕ) (M : List ℕ) → AllRows D (d ∷ M) → spell D (d ∷ M) ≡ t → behind D t d ≤ length M
      fewer d M a s = (after d).least M a.1 (first t d M a s).rest

      least_step : (M : List ℕ) → AllRows D M → spell D M ≡ t → length (shortest D t) ≤ length M
      least_step [] a s = absurd (omega (arith, ap length s))
      least_step (d ∷ M) a s =
          let l = fewer d M a s in
          let m = chosen-fewest D A t k h d (first t d M a s).row in
          omega (arith, ap length e)

      ties-step : (M : List ℕ) → AllRows D M → spell D M ≡ t → length M ≡ length (shortest D t) → (M ≡ shortest D t) ⊎ LongerFirst D (shortest D t) M
      ties-step [] a s q = absurd (omega (arith, ap length s))
      ties-step (d ∷ M) a s q =
          let l = fewer d M a s in
          ⊎_elim same (λ w. rw e (inr (inl w))) (chosen-longest D A t k h d (first t d M a s).row (omega (arith, ap length e)))
        where
          same : d ≡ c → (d ∷ M ≡ shortest D t) ⊎ LongerFirst D (shortest D t) (d ∷ M)
          same p =
              let e' : shortest D t ≡ d ∷ shortest D (drop (row_length D d) t) = e ∙ ap (λ (x : ℕ). x ∷ shortest D (drop (row_length D x) t)) (sym p) in
              rw e' (⊎_elim
              (λ r. inl (ap (λ (l : List ℕ). d ∷ l) r))
              (λ r. inr (inr (refl, r)))
              ((after d).ties M a.1 (first t d M a s).rest (omega (arith, ap length e'))))

      good-step : Good t
      good-step =
          let m = chosen_in D A t k h in
          record {
            rows = rw e (rows-known D (length t) t c m, (after c).rows);
            spells = ap (spell D) e ∙ ap (λ (l : List ℕ). D.bytes c ++ l) (after c).spells ∙ sym (row-begins D A t c m);
            least = least_step;
            ties = ties-step;
          }

    good_tails : (t : List ℕ) → KnownText D t → (i : ℕ) → Good (drop i t)
    good_tails [] k zero = good-nil
    good_tails [] k (suc i) = good-nil
    good_tails (b ∷ t) k (suc i) = good_tails t k.1 i
    good_tails (b ∷ t) k zero = good-step (b ∷ t) k (omega arith) (later (good_tails t k.1))
      where
        later : ((i : ℕ) → Good (drop i t)) → (i : ℕ) → 0 < i → Good (drop i (b ∷ t))
        later g zero h = absurd (omega arith)
        later g (suc i) h = g i

    module _ (t : List ℕ) (k : KnownText D t) where
      pub shortest-rows : AllRows D (shortest D t)
      shortest-rows = (good_tails t k 0).rows

      pub shortest-spells : spell D (shortest D t) ≡ t
      shortest-spells = (good_tails t k 0).spells

      pub shortest-least : (M : List ℕ) → AllRows D M → spell D M ≡ t → length (shortest D t) ≤ length M
      shortest-least = (good_tails t k 0).least

      -- among those of as few codes the longest first row, then the longest second, and so on
      pub shortest-ties : (M : List ℕ) → AllRows D M → spell D M ≡ t → length M ≡ length (shortest D t) → (M ≡ shortest D t) ⊎ LongerFirst D (shortest D t) M
      shortest-ties = (good_tails t k 0).ties
