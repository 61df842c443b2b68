-- The greedy codes: the longest row at the front of a text, and then the greedy codes of what is behind it.
use mathlib.Core.Path.{◌≡◌, refl, sym, ap, ◌∙◌}
use mathlib.Core.List.{List, [], ◌∷◌, ◌++◌}
use Prim.Native.Nat.{ℕ, zero, suc, ◌≤◌, ◌<◌}
use native.Mathlib.Omega.{arith}
use lib.ListN.{length, length-drop, drop}
use Rattle.theory.specs.Dictionary.{Dictionary, spell, AllRows, KnownText}
use Rattle.theory.specs.Parts.{longest_at}
use Rattle.theory.specs.Shortest.{greedy_up_to, greedy}
use Rattle.theory.proofs.PairCheck.{Lawful}
use Rattle.theory.proofs.RowsAt.{filled}
use Rattle.theory.proofs.Longest.{row_length, known-drop, longest-at}

module _ (D : Dictionary) where
  pub greedy-nil : greedy D [] ≡ []
  unfolding greedy
  greedy-nil = refl

  module _ (A : Lawful D) where
    rest-shorter : (c b : ℕ) (t : List ℕ) (k : ℕ) → length t ≤ k → length (drop (row_length D c) (b ∷ t)) ≤ k
    rest-shorter c b t k h = omega (arith, length-drop (row_length D c) (b ∷ t), filled D A c)

    record Good (t L : List ℕ) : Type 0 where
      rows : AllRows D L
      spells : spell D L ≡ t

    -- as many steps as bytes reach the end of the text
    good : (k : ℕ) (t : List ℕ) → length t ≤ k → KnownText D t → Good t (greedy_up_to D k t)
    good zero [] h n = record { rows = tt; spells = refl }
    good (suc k) [] h n = record { rows = tt; spells = refl }
    good zero (b ∷ t) h n = absurd (omega arith)
    good (suc k) (b ∷ t) h n =
        let c = longest_at D (b ∷ t) in
        let l = longest-at D A (b ∷ t) n (omega arith) in
        let g = good k (drop (row_length D c) (b ∷ t)) (rest-shorter c b t k (omega arith)) (known-drop D (row_length D c) (b ∷ t) n) in
        record { rows = (l.known, g.rows); spells = ap (λ (s : List ℕ). D.bytes c ++ s) g.spells ∙ sym l.begins }

    module _ (t : List ℕ) (k : KnownText D t) where
      pub greedy-rows : AllRows D (greedy D t)
      unfolding greedy
      greedy-rows = (good (length t) t (omega arith) k).rows

      pub greedy-spells : spell D (greedy D t) ≡ t
      unfolding greedy
      greedy-spells = (good (length t) t (omega arith) k).spells

    -- and more of them change nothing
    enough : (k j : ℕ) (t : List ℕ) → length t ≤ k → length t ≤ j → greedy_up_to D k t ≡ greedy_up_to D j t
    enough zero zero t h i = refl
    enough zero (suc j) [] h i = refl
    enough (suc k) zero [] h i = refl
    enough (suc k) (suc j) [] h i = refl
    enough zero (suc j) (b ∷ t) h i = absurd (omega arith)
    enough (suc k) zero (b ∷ t) h i = absurd (omega arith)
    enough (suc k) (suc j) (b ∷ t) h i =
        let c = longest_at D (b ∷ t) in
        ap (λ (l : List ℕ). c ∷ l) (enough k j (drop (row_length D c) (b ∷ t)) (rest-shorter c b t k (omega arith)) (rest-shorter c b t j (omega arith)))

    pub greedy-cons : (t : List ℕ) → 0 < length t → greedy D t ≡ longest_at D t ∷ greedy D (drop (row_length D (longest_at D t)) t)
    unfolding greedy
    greedy-cons [] h = absurd (omega arith)
    greedy-cons (b ∷ t) h =
        let c = longest_at D (b ∷ t) in
        let r = drop (row_length D c) (b ∷ t) in
        ap (λ (l : List ℕ). c ∷ l) (enough (length t) (length r) r (rest-shorter c b t (length t) (omega arith)) (omega arith))
