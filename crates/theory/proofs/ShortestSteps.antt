-- The shortest codes step by step: the row at the front of a text is the first of those with the fewest codes behind them.
use mathlib.Core.Path.{◌≡◌, refl, sym, ap, ap₂, ◌∙◌}
use mathlib.Core.Logic.{◌⊎◌, inl, inr, ⊎_elim}
use mathlib.Core.List.{List, [], ◌∷◌}
use Prim.Native.Nat.{ℕ, zero, suc, ◌+◌, ◌-◌, ◌≤◌, ◌<◌}
use native.Mathlib.Omega.{arith}
use lib.ListN.{length, length-drop, get_or, drop}
use lib.Seq.{drop-drop, drop-length}
use lib.Dec.{ltb}
use borrow.Author.Tests.{ltb-true, ltb-false}
use Rattle.theory.specs.Lists.{In}
use Rattle.theory.specs.Dictionary.{Dictionary, KnownText}
use Rattle.theory.specs.Parts.{rows_at, longest_at, prefixes}
use Rattle.theory.specs.Shortest.{shorter, best_of, shortest_of_tails, shortest}
use Rattle.theory.proofs.Lists.{bool_cases}
use Rattle.theory.proofs.PairCheck.{Lawful}
use Rattle.theory.proofs.RowsAt.{filled, rows-known, rows_short}
use Rattle.theory.proofs.ShortestLists.{least, least_right_kept, least_right_lower, least_in, least-low, least_first}
use Rattle.theory.proofs.Longest.{row_length, known-drop, rows-front, rows-falling}

module _ (D : Dictionary) where
  -- how many codes the text behind a row at its front has
  abbrev pub behind : List ℕ → ℕ → ℕ
  behind t c = length (shortest D (drop (row_length D c) t))

  -- the rows at the front of t are tried, longest first; a row is replaced only by one with fewer codes behind it
  unfoldable pub chosen : List ℕ → ℕ
  chosen t = least (behind t) (longest_at D t) (prefixes D (longest_at D t))

  -- a row and the shortest codes behind it
  abbrev with_row : List ℕ → ℕ → List ℕ
  with_row t c = c ∷ shortest D (drop (row_length D c) t)

  -- the second list if it is shorter, else the first
  shorter-is : (a b : List ℕ) → ((length b < length a) × (shorter D a b ≡ b)) ⊎ ((length a ≤ length b) × (shorter D a b ≡ a))
  shorter-is a b = bool_cases
      (ltb (length b) (length a))
      (λ e. inl (ltb-true (length b) (length a) e, rw (e, shorter)))
      (λ e. inr (ltb-false (length b) (length a) e, rw (e, shorter)))

  tails_at : (t : List ℕ) (i : ℕ) → get_or (shortest_of_tails D t) i [] ≡ shortest D (drop i t)
  unfolding shortest
  tails_at [] zero = refl
  tails_at [] (suc i) = refl
  tails_at (b ∷ t) zero = refl
  tails_at (b ∷ t) (suc i) = tails_at t i

  drop-less : (n b : ℕ) (t : List ℕ) → 0 < n → drop (n - 1) t ≡ drop n (b ∷ t)
  drop-less zero b t h = absurd (omega arith)
  drop-less (suc n) b t h = let e : suc n - 1 ≡ n = omega arith in ap (λ (k : ℕ). drop k t) e

  pub shortest-nil : shortest D [] ≡ []
  unfolding shortest
  shortest-nil = refl

  shortest-front : (b : ℕ) (t : List ℕ) → shortest D (b ∷ t) ≡ best_of D (shortest_of_tails D t) (rows_at D (b ∷ t))
  unfolding shortest
  shortest-front b t = refl

  -- at place i of a text the shortest codes have row c, which ends inside the text
  pub record At (t : List ℕ) (i c : ℕ) : Type 0 where
    pub known : c < D.count
    pub filled : 0 < row_length D c
    pub fits : i + row_length D c ≤ length t
    pub codes : shortest D (drop i t) ≡ c ∷ shortest D (drop (i + row_length D c) t)

  module _ (A : Lawful D) where
    tail-behind : (b : ℕ) (t : List ℕ) (c : ℕ) → c ∷ get_or (shortest_of_tails D t) (row_length D c - 1) [] ≡ with_row (b ∷ t) c
    tail-behind b t c = ap (λ (l : List ℕ). c ∷ l) (tails_at t (row_length D c - 1) ∙ ap (shortest D) (drop-less (row_length D c) b t (filled D A c)))

    best_is : (b : ℕ) (t : List ℕ) (c : ℕ) (cs : List ℕ) → best_of D (shortest_of_tails D t) (c ∷ cs) ≡ with_row (b ∷ t) (least (behind (b ∷ t)) c cs)
    best_is b t c [] = tail-behind b t c
    best_is b t c (d ∷ ds) =
        ap₂ (shorter D) (tail-behind b t c) (best_is b t d ds)
        ∙ ⊎_elim
        (λ h. h.1 ∙ ap (with_row (b ∷ t)) (sym (least_right_lower (behind (b ∷ t)) c d ds (omega (arith, h.0)))))
        (λ h. h.1 ∙ ap (with_row (b ∷ t)) (sym (least_right_kept (behind (b ∷ t)) c d ds (omega (arith, h.0)))))
        (shorter-is (with_row (b ∷ t) c) (with_row (b ∷ t) (least (behind (b ∷ t)) d ds)))

    pub shortest-cons : (t : List ℕ) → KnownText D t → 0 < length t → shortest D t ≡ chosen t ∷ shortest D (drop (row_length D (chosen t)) t)
    unfolding chosen
    shortest-cons [] k h = absurd (omega arith)
    shortest-cons (b ∷ t) k h = shortest-front b t ∙ ap (best_of D (shortest_of_tails D t)) (rows-front D A (b ∷ t) k h) ∙ best_is b t (longest_at D (b ∷ t)) (prefixes D (longest_at D (b ∷ t)))

    -- the chosen row is one of them
    pub chosen_in : (t : List ℕ) → KnownText D t → 0 < length t → In (chosen t) (rows_at D t)
    unfolding chosen
    chosen_in t k h = rw (rows-front D A t k h) (least_in (behind t) (longest_at D t) (prefixes D (longest_at D t)))

    -- none of them has fewer codes behind it
    pub chosen-fewest : (t : List ℕ) → KnownText D t → 0 < length t → (d : ℕ) → In d (rows_at D t) → behind t (chosen t) ≤ behind t d
    unfolding chosen
    chosen-fewest t k h d m = least-low (behind t) (longest_at D t) (prefixes D (longest_at D t)) d (rw (rows-front D A t k h) at m)

    -- and of those with as few it is the longest
    pub chosen-longest : (t : List ℕ) → KnownText D t → 0 < length t → (d : ℕ) → In d (rows_at D t) → behind t d ≤ behind t (chosen t)
        → (d ≡ chosen t) ⊎ (row_length D d < row_length D (chosen t))
    unfolding chosen
    chosen-longest t k h d m l =
        let e = rows-front D A t k h in
        least_first (behind t) (row_length D) (longest_at D t) (prefixes D (longest_at D t)) d (rw e at (rows-falling D A t)) (rw e at m) l

    pub shortest-at : (t : List ℕ) → KnownText D t → (i : ℕ) → i < length t → At t i (chosen (drop i t))
    shortest-at t k i h =
        let s = drop i t in
        let k' = known-drop D i t k in
        let h' : 0 < length s = omega (arith, length-drop i t) in
        let m = chosen_in s k' h' in
        record {
          known = rows-known D (length s) s (chosen s) m;
          filled = filled D A (chosen s);
          fits = omega (arith, length-drop i t, rows_short D (length s) s (chosen s) m);
          codes = shortest-cons s k' h' ∙ ap (λ (l : List ℕ). chosen s ∷ shortest D l) (drop-drop (row_length D (chosen s)) i t);
        }

  -- the codes behind a row at place i
  pub behind-drop : (i : ℕ) (t : List ℕ) (c : ℕ) → behind (drop i t) c ≡ length (shortest D (drop (i + row_length D c) t))
  behind-drop i t c = ap (λ (l : List ℕ). length (shortest D l)) (drop-drop (row_length D c) i t)

  pub shortest-end : (t : List ℕ) → shortest D (drop (length t) t) ≡ []
  shortest-end t = ap (shortest D) (drop-length t) ∙ shortest-nil
