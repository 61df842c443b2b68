-- Whether a row is listed with two others, case by case. Assumes nothing.
use mathlib.Core.Path.{◌≡◌, sym, ◌∙◌}
use mathlib.Core.List.{List}
use mathlib.Core.Bool.{true, false}
use Prim.Native.Nat.{ℕ, ◌≤◌, ◌<◌}
use lib.ListN.{get_or}
use lib.Dec.{ltb, eqb}
use borrow.Author.Tests.{lt-ltb, le-ltb, eq-eqb, ne_eqb, ltb-true, eqb-true}
use Rattle.theory.proofs.Lists.{and_both, true-false}
use Rattle.pair_check.specs.Pair.{listed_in}

module _ (lefts rights : List ℕ) (c m u v : ℕ) where
  pub not-before : m ≤ c → false ≡ listed_in lefts rights c m u v
  unfolding listed_in
  not-before h = rw (le-ltb c m h)

  pub other-left : c < m → (get_or lefts c 0 ≡ u → ⊥) → false ≡ listed_in lefts rights c m u v
  unfolding listed_in
  other-left h n = rw (lt-ltb c m h, ne_eqb (get_or lefts c 0) u n)

  pub not-longer : c < m → get_or lefts c 0 ≡ u → c ≤ u → false ≡ listed_in lefts rights c m u v
  unfolding listed_in
  not-longer h e l = rw (lt-ltb c m h, eq-eqb (get_or lefts c 0) u e, le-ltb u c l)

  pub same_left : c < m → get_or lefts c 0 ≡ u → u < c → eqb (get_or rights c 0) v ≡ listed_in lefts rights c m u v
  unfolding listed_in
  same_left h e l = rw (lt-ltb c m h, eq-eqb (get_or lefts c 0) u e, lt-ltb u c l)

  -- what a listed row is
  pub record Facts : Type 0 where
    pub below : c < m
    pub left : get_or lefts c 0 ≡ u
    pub longer : u < c
    pub right : get_or rights c 0 ≡ v

  pub listed-facts : listed_in lefts rights c m u v ≡ true → Facts
  unfolding listed_in
  listed-facts e =
      let a = and_both (ltb c m) _ e in
      let b = and_both (eqb (get_or lefts c 0) u) _ a.1 in
      let d = and_both (ltb u c) _ b.1 in
      record { below = ltb-true _ _ a.0; left = eqb-true _ _ b.0; longer = ltb-true _ _ d.0; right = eqb-true _ _ d.1 }

  pub not_listed : listed_in lefts rights c m u v ≡ false → Facts → ⊥
  unfolding listed_in
  not_listed e f = true-false (sym (rw (lt-ltb c m f.below, eq-eqb (get_or lefts c 0) u f.left, lt-ltb u c f.longer, eq-eqb (get_or rights c 0) v f.right)) ∙ e)
