-- The sizes of the prefixes: from 1 for each, the size of each is added to its parent's, from the longest prefix on. Assumes nothing.
use mathlib.Core.Path.{◌≡◌, refl, sym, ap, ◌∙◌}
use mathlib.Core.List.{List}
use Prim.Native.Nat.{ℕ, zero, suc, ◌+◌, ◌-◌, ◌≤◌, ◌<◌}
use native.Mathlib.Omega.{arith}
use lib.ListN.{length, length-set, get_or, set, drop}
use lib.Dec.{eqb}
use borrow.Author.Tests.{eqb-true, eqb-false}
use lib.Seq.{get_or-set_same, get_or-set_other, drop-set-lt}
use Rattle.theory.proofs.Lists.{bool_cases}
use Rattle.theory.proofs.Tree.{size_from, size_from-start, size_from-hit, size_from_miss, size_from-all, size_from-le}
use Rattle.interval_prepare.specs.Steps.{parent_in, Ones, AddReady, added, SizesReady, SizesAre}
use Rattle.interval_prepare.proofs.Parents.{lower}

-- what is added
module _ (i : ℕ) (work : List ℕ) where
  pub added_none : (parent : ℕ) → parent ≡ 0 → work ≡ added i parent work
  unfolding added
  added_none parent e = rw e

  pub added-some : (parent : ℕ) → (parent ≡ 0 → ⊥) → set work (parent - 1) (get_or work (parent - 1) 0 + get_or work (i - 1) 0) ≡ added i parent work
  unfolding added
  added-some zero n = absurd (n refl)
  added-some (suc p) n = let z : suc p - 1 ≡ p = omega arith in rw z

  pub added-length : (parent : ℕ) → length (added i parent work) ≡ length work
  unfolding added
  added-length zero = refl
  added-length (suc p) = length-set work p (get_or work p 0 + get_or work (i - 1) 0)

  pub added-beyond : (m parent : ℕ) → parent ≤ m → drop m (added i parent work) ≡ drop m work
  unfolding added
  added-beyond m zero h = refl
  added-beyond m (suc p) h = drop-set-lt m work p (get_or work p 0 + get_or work (i - 1) 0) h

  pub added-own : (parent : ℕ) → 0 < parent → parent ≤ length work → get_or (added i parent work) (parent - 1) 0 ≡ get_or work (parent - 1) 0 + get_or work (i - 1) 0
  unfolding added
  added-own zero z h = absurd (omega arith)
  added-own (suc p) z h = let e : suc p - 1 ≡ p = omega arith in rw e (get_or-set_same work p (get_or work p 0 + get_or work (i - 1) 0) 0 h)

  pub added-other : (parent p : ℕ) → 0 < p → (parent ≡ p → ⊥) → get_or (added i parent work) (p - 1) 0 ≡ get_or work (p - 1) 0
  unfolding added
  added-other zero p z n = refl
  added-other (suc q) p z n = get_or-set_other work q (p - 1) (get_or work q 0 + get_or work (i - 1) 0) 0 (λ e. n (omega arith))

module _ (file places : List ℕ) (n m : ℕ) (codes work₀ : List ℕ) where
  abbrev parent : ℕ → ℕ
  parent = parent_in file codes

  -- the prefixes longer than i are added to their parents
  pub record Sizing (i : ℕ) (work : List ℕ) : Type 0 where
    pub ready : SizesReady file places n m codes work₀
    pub within : i ≤ m
    pub same_length : length work ≡ length work₀
    pub beyond : drop m work ≡ drop m work₀
    pub sizes : (p : ℕ) → 0 < p → p ≤ m → get_or work (p - 1) 0 ≡ size_from parent m (suc i) p

  low : SizesReady file places n m codes work₀ → (i : ℕ) → 0 < i → i ≤ m → parent i < i
  low R = lower file places n m codes R.rows

  pub sizing_start : (work : List ℕ) → SizesReady file places n m codes work → Ones m work work₀ → Sizing m work₀
  sizing_start work R O =
      let r : SizesReady file places n m codes work₀ = record { rows = R.rows; short = R.short; room = omega (arith, R.room, O.same_length) } in
      record {
        ready = r;
        within = omega arith;
        same_length = refl;
        beyond = refl;
        sizes = λ p z h. O.ones (p - 1) (omega arith) ∙ sym (size_from-start parent m (low r) p);
      }

  module _ (i : ℕ) (work : List ℕ) (S : Sizing i work) where
    pub sizing_end : (before : List ℕ) → Ones m before work₀ → i ≤ 0 → SizesAre file m codes before work
    sizing_end before O h =
        let e : i ≡ 0 = omega arith in
        record {
          same_length = S.same_length ∙ O.same_length;
          beyond = S.beyond ∙ O.beyond;
          sizes = λ p z l. S.sizes p z l ∙ ap (λ (k : ℕ). size_from parent m (suc k) p) e ∙ size_from-all parent m (low S.ready) p l;
        }

    module _ (z : 0 < i) where
      module _ (q : ℕ) (e : q ≡ parent i) where
        below : q < i
        below = omega (arith, low S.ready i z S.within)

        hit : size_from parent m i q ≡ size_from parent m (suc i) q + size_from parent m (suc i) i
        hit = size_from-hit parent m (low S.ready) q i z S.within (sym e)

        pub sizing_ready : AddReady i q work
        sizing_ready = record {
          some = z;
          known = omega (arith, S.within, S.same_length, S.ready.room);
          lower = below;
          fits = λ y.
              let b = below in
              let w = S.within in
              let a = S.sizes q y (omega arith) in
              let c = S.sizes i z w in
              omega (arith, hit, size_from-le parent m (low S.ready) i q (omega arith), S.ready.short);
        }

        sizing_added : Sizing (i - 1) (added i q work)
        sizing_added =
            let b = below in
            let w = S.within in
            let k : suc (i - 1) ≡ i = omega arith in
            record {
              ready = S.ready;
              within = omega arith;
              same_length = added-length i work q ∙ S.same_length;
              beyond = added-beyond i work m q (omega arith) ∙ S.beyond;
              sizes = λ p y h. rw k (bool_cases (eqb p q)
                  (λ s. let t = eqb-true p q s in
                  rw t (added-own i work q (omega arith) (omega (arith, S.same_length, S.ready.room))
                  ∙ (let a = S.sizes q (omega arith) (omega arith) in let c = S.sizes i z w in omega (arith, hit))))
                  (λ s. let t = eqb-false p q s in
                  added-other i work q p y (λ u. t (sym u)) ∙ S.sizes p y h ∙ sym (size_from_miss parent m (low S.ready) p i (λ u. t (sym (e ∙ u))))));
            }

        pub sizing_more : (work' : List ℕ) → work' ≡ added i q work → Sizing (i - 1) work'
        sizing_more work' a = rw a sizing_added
