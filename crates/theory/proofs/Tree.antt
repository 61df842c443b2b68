-- The tree numbers, over any parent that is lower than its child: p is e or above it exactly if number p ≤ number e < end p; and the
-- step laws of the algorithm that finds sizes, numbers and ends. Rests on: of the children of p one is above e, if p is above e.
use mathlib.Core.Path.{◌≡◌, refl, sym, ap, ◌∙◌, subst}
use mathlib.Core.Logic.{◌⊎◌, inl, inr, ⊎_elim, ◌↔◌}
use mathlib.Core.Bool.{Bool, true, false, ◌&&◌, ◌||◌}
use Prim.Native.Nat.{ℕ, zero, suc, ◌+◌, ◌-◌, ◌≤◌, ◌<◌}
use native.Mathlib.Decide.{le_ind}
use native.Mathlib.Omega.{arith}
use lib.Dec.{eqb, ltb}
use borrow.Author.Tests.{eqb-true, eqb-false, ltb-true}
use Rattle.theory.proofs.Lists.{lt_or_ge, bool_cases, and_both, eqb_eq, eqb_ne, ltb_lt, ltb_ge}
use Rattle.theory.specs.Tree.{above_in, above, one, size_below, size, children_below, number_in, number, end}

or-false : (b : Bool) → b || false ≡ b
or-false true = refl
or-false false = refl

or_cases : (a b : Bool) → a || b ≡ true → (a ≡ true) ⊎ (b ≡ true)
or_cases true b e = inl refl
or_cases false b e = inr e

or-true : (b : Bool) → b || true ≡ true
or-true true = refl
or-true false = refl

same_or_not : {A : Type 0} (m n : ℕ) → (m ≡ n → A) → ((m ≡ n → ⊥) → A) → A
same_or_not m n f g = bool_cases (eqb m n) (λ e. f (eqb-true m n e)) (λ e. g (eqb-false m n e))

module _ (parent : ℕ → ℕ) where
  root-above : (k p i : ℕ) → i ≤ 0 → above_in parent k p i ≡ eqb p i
  root-above zero p i h = refl
  root-above (suc k) p i h = rw (ltb_ge 0 i h) (or-false (eqb p i))

  step-above : (k p i : ℕ) → 0 < i → above_in parent (suc k) p i ≡ eqb p i || above_in parent k p (parent i)
  step-above k p i h = rw (ltb_lt 0 i h)

  pub above-own : (p : ℕ) → above parent p p ≡ true
  above-own p = go p
    where
      go : (k : ℕ) → above_in parent k p p ≡ true
      go zero = eqb_eq p p refl
      go (suc k) = rw (eqb_eq p p refl)

  -- the sum of f over the children of q below i
  abbrev over : (ℕ → ℕ) → ℕ → ℕ → ℕ
  over f q zero = 0
  over f q (suc i) = over f q i + elim (ltb 0 i && eqb (parent i) q) [ true ↦ f i | false ↦ 0 ]

  over-hit : (f : ℕ → ℕ) (q i : ℕ) → 0 < i → parent i ≡ q → over f q (suc i) ≡ over f q i + f i
  over-hit f q i h e = rw (ltb_lt 0 i h, eqb_eq (parent i) q e)

  over_miss : (f : ℕ → ℕ) (q i : ℕ) → (parent i ≡ q → ⊥) → over f q (suc i) ≡ over f q i
  over_miss f q i n = bool_cases (ltb 0 i) (λ e. rw (e, eqb_ne (parent i) q n) (omega arith)) (λ e. rw e (omega arith))

  over_sum : (f g h : ℕ → ℕ) (q i : ℕ) → ((j : ℕ) → 0 < j → j < i → f j ≡ g j + h j) → over f q i ≡ over g q i + over h q i
  over_sum f g h q zero e = omega arith
  over_sum f g h q (suc i) e = go (ltb 0 i && eqb (parent i) q) refl (over_sum f g h q i (λ j z l. e j z (omega arith)))
    where
      go : (b : Bool) → ltb 0 i && eqb (parent i) q ≡ b → over f q i ≡ over g q i + over h q i → over f q (suc i) ≡ over g q (suc i) + over h q (suc i)
      go true t ih = let s = e i (ltb-true 0 i (and_both (ltb 0 i) (eqb (parent i) q) t).0) (omega arith) in rw t (omega arith)
      go false t ih = rw t (omega arith)

  over_none : (f : ℕ → ℕ) (q i : ℕ) → ((j : ℕ) → 0 < j → j < i → f j ≡ 0) → over f q i ≡ 0
  over_none f q i e = let s = over_sum f f f q i (λ j z l. let w = e j z l in omega arith) in omega arith

  over_zero : (f : ℕ → ℕ) (q i : ℕ) → f i ≡ 0 → over f q (suc i) ≡ over f q i
  over_zero f q i e = bool_cases (ltb 0 i && eqb (parent i) q) (λ t. rw t (omega arith)) (λ t. rw t (omega arith))

  one_same : (i j : ℕ) → i ≡ j → one parent (eqb i j) ≡ 1
  one_same i j e = rw (eqb_eq i j e)

  one-other : (i j : ℕ) → (i ≡ j → ⊥) → one parent (eqb i j) ≡ 0
  one-other i j n = rw (eqb_ne i j n)

  one_below : (i j : ℕ) → one parent (ltb i (suc j)) ≡ one parent (ltb i j) + one parent (eqb i j)
  one_below i j = ⊎_elim
      (λ l. rw (ltb_lt i j l, ltb_lt i (suc j) (omega arith), eqb_ne i j (λ e. omega arith)))
      (λ l. same_or_not i j
      (λ e. rw (ltb_ge i j l, ltb_lt i (suc j) (omega arith), eqb_eq i j e))
      (λ n. rw (ltb_ge i j l, ltb_ge i (suc j) (omega arith), eqb_ne i j n)))
      (lt_or_ge i j)

  one-le : (b : Bool) → one parent b ≤ 1
  one-le true = omega arith
  one-le false = omega arith

  -- the sum of what is 1 at e and 0 elsewhere
  over_point : (e q : ℕ) → 0 < e → (i : ℕ) → e < i → over (λ j. one parent (eqb j e)) q i ≡ one parent (eqb q (parent e))
  over_point e q z i l = le_ind {n = suc e} (λ i. over (λ j. one parent (eqb j e)) q i ≡ one parent (eqb q (parent e)))
      (same_or_not (parent e) q
      (λ s. over-hit (λ j. one parent (eqb j e)) q e z s ∙ (let a = one_same e e refl in let b = one_same q (parent e) (sym s) in omega (arith, before)))
      (λ n. over_miss (λ j. one parent (eqb j e)) q e n ∙ (let b = one-other q (parent e) (λ s. n (sym s)) in omega (arith, before))))
      (λ i l ih. over_zero (λ j. one parent (eqb j e)) q i (one-other i e (λ s. omega arith)) ∙ ih)
      i l
    where
      before : over (λ j. one parent (eqb j e)) q e ≡ 0
      before = over_none (λ j. one parent (eqb j e)) q e (λ j _ l. one-other j e (λ s. omega arith))

  size-le : (p e : ℕ) → size_below parent p e ≤ e
  size-le p zero = omega arith
  size-le p (suc e) = omega (arith, size-le p e, one-le (above parent p e))

  module _ (m : ℕ) (lower : (i : ℕ) → 0 < i → i ≤ m → parent i < i) where
    -- induction along the parents
    pub tree_ind : (P : ℕ → Type 0) → P 0 → ((i : ℕ) → 0 < i → i ≤ m → P (parent i) → P i) → (e : ℕ) → e ≤ m → P e
    tree_ind P base step e h = go e e (omega arith) h
      where
        go : (k i : ℕ) → i ≤ k → i ≤ m → P i
        go zero zero l h = base
        go zero (suc i) l h = absurd (omega arith)
        go (suc k) zero l h = base
        go (suc k) (suc i) l h = let w = lower (suc i) (omega arith) h in step (suc i) (omega arith) h (go k (parent (suc i)) (omega arith) (omega arith))

    enough-above : (k l p i : ℕ) → i ≤ k → i ≤ l → i ≤ m → above_in parent k p i ≡ above_in parent l p i
    enough-above zero l p i hk hl h = sym (root-above l p i hk)
    enough-above (suc k) zero p i hk hl h = root-above (suc k) p i hl
    enough-above (suc k) (suc l) p i hk hl h = ⊎_elim
        (λ z. let w = lower i z h in
        step-above k p i z ∙ ap (λ (b : Bool). eqb p i || b) (enough-above k l p (parent i) (omega arith) (omega arith) (omega arith)) ∙ sym (step-above l p i z))
        (λ z. root-above (suc k) p i z ∙ sym (root-above (suc l) p i z))
        (lt_or_ge 0 i)

    above_step : (p i : ℕ) → 0 < i → i ≤ m → above parent p i ≡ eqb p i || above parent p (parent i)
    above_step p zero z h = absurd (omega arith)
    above_step p (suc i) z h =
        let w = lower (suc i) z h in
        step-above i p (suc i) z ∙ ap (λ (b : Bool). eqb p (suc i) || b) (enough-above i (parent (suc i)) p (parent (suc i)) (omega arith) (omega arith) (omega arith))

    above_cases : (p i : ℕ) → i ≤ m → above parent p i ≡ true → (p ≡ i) ⊎ ((0 < i) × (above parent p (parent i) ≡ true))
    above_cases p zero h a = inl (eqb-true p 0 a)
    above_cases p (suc i) h a = ⊎_elim
        (λ e. inl (eqb-true p (suc i) e))
        (λ e. inr (omega arith, e))
        (or_cases (eqb p (suc i)) (above parent p (parent (suc i))) (sym (above_step p (suc i) (omega arith) h) ∙ a))

    pub above_parent : (p i : ℕ) → 0 < i → i ≤ m → above parent p (parent i) ≡ true → above parent p i ≡ true
    above_parent p i z h a = above_step p i z h ∙ rw a (or-true (eqb p i))

    -- induction along the path from p down to e
    pub path_ind : (p : ℕ) (P : ℕ → Type 0) → P p → ((i : ℕ) → 0 < i → i ≤ m → P (parent i) → P i) → (e : ℕ) → e ≤ m → above parent p e ≡ true → P e
    path_ind p P base step e h = tree_ind (λ e. above parent p e ≡ true → P e)
        (λ a. rw (← eqb-true p 0 a) base)
        (λ i z l ih a. ⊎_elim (λ s. rw (← s) base) (λ r. step i z l (ih r.1)) (above_cases p i l a))
        e h

    pub above-le : (p e : ℕ) → e ≤ m → above parent p e ≡ true → p ≤ e
    above-le p e h a = path_ind p (λ i. p ≤ i) (omega arith) (λ i z l ih. let w = lower i z l in omega arith) e h a

    above_root : (e : ℕ) → e ≤ m → above parent 0 e ≡ true
    above_root e h = tree_ind (λ e. above parent 0 e ≡ true) refl (λ i z l ih. above_parent 0 i z l ih) e h

    -- a child of p that is e or above it
    record Child (p e : ℕ) : Type 0 where
      child : ℕ
      some : 0 < child
      known : child ≤ m
      parent_is : parent child ≡ p
      holds : above parent child e ≡ true

    child_of : (p e : ℕ) → e ≤ m → above parent p e ≡ true → (p ≡ e) ⊎ Child p e
    child_of p e h a = path_ind p (λ e. (p ≡ e) ⊎ Child p e) (inl refl)
        (λ i z l ih. inr (⊎_elim
        (λ s. record { child = i; some = z; known = l; parent_is = sym s; holds = above-own i })
        (λ c. record { child = c.child; some = c.some; known = c.known; parent_is = c.parent_is; holds = above_parent c.child i z l c.holds })
        ih))
        e h a

    -- j is i or above it: it is i, or it is the parent of i or above that
    split : (j i : ℕ) → 0 < i → i ≤ m → one parent (above parent j i) ≡ one parent (eqb j i) + one parent (above parent j (parent i))
    split j i z h = same_or_not j i
        (λ e. bool_cases (above parent j (parent i))
        (λ a. let w = lower i z h in absurd (omega (arith, above-le j (parent i) (omega arith) a)))
        (λ a. rw (above_step j i z h, eqb_eq j i e, a)))
        (λ n. rw (above_step j i z h, eqb_ne j i n) (omega arith))

    -- of the children of p one is above e if p is, and none if p is e
    on_path : (e : ℕ) → e ≤ m → (p : ℕ) → over (λ j. one parent (above parent j e)) p (suc m) + one parent (eqb p e) ≡ one parent (above parent p e)
    on_path e h = tree_ind (λ e. (p : ℕ) → over (λ j. one parent (above parent j e)) p (suc m) + one parent (eqb p e) ≡ one parent (above parent p e))
        (λ p. let s = over_none (λ j. one parent (above parent j 0)) p (suc m) (λ j z _. one-other j 0 (λ e. omega arith)) in omega arith)
        (λ i z l ih p.
        let s = over_sum (λ j. one parent (above parent j i)) (λ j. one parent (eqb j i)) (λ j. one parent (above parent j (parent i))) p (suc m) (λ j _ _. split j i z l) in
        omega (arith, over_point i p z (suc m) (omega arith), split p i z l, ih p))
        e h

    -- the size of p so far, and the sizes of its children so far
    sizes : (p e : ℕ) → e ≤ suc m → size_below parent p e ≡ one parent (ltb p e) + over (λ j. size_below parent j e) p (suc m)
    sizes p zero h = rw (ltb_ge p 0 (omega arith)) (let s = over_none (λ _. 0) p (suc m) (λ j _ _. refl) in omega arith)
    sizes p (suc e) h =
        let s = over_sum (λ j. size_below parent j (suc e)) (λ j. size_below parent j e) (λ j. one parent (above parent j e)) p (suc m) (λ j _ _. refl) in
        omega (arith, sizes p e (omega arith), on_path e (omega arith) p, one_below p e)

    children_over : (q i : ℕ) → children_below parent m q i ≡ over (size parent m) q i
    children_over q zero = refl
    children_over q (suc i) = rw (children_over q i)

    -- the children of q by rising number: i is the next one, or is none
    pub children_hit : (q i : ℕ) → 0 < i → parent i ≡ q → children_below parent m q (suc i) ≡ children_below parent m q i + size parent m i
    children_hit q i z e = rw (children_over q i) (over-hit (size parent m) q i z e)

    pub children_miss : (q i : ℕ) → (parent i ≡ q → ⊥) → children_below parent m q (suc i) ≡ children_below parent m q i
    children_miss q i n = rw (children_over q i) (over_miss (size parent m) q i n)

    -- no child of q is q or lower
    pub children_none : (q i : ℕ) → i ≤ suc q → i ≤ suc m → children_below parent m q i ≡ 0
    children_none q zero l h = refl
    children_none q (suc zero) l h = refl
    children_none q (suc (suc i)) l h =
        children_miss q (suc i) (λ e. omega (arith, lower (suc i) (omega arith) (omega arith))) ∙ children_none q (suc i) (omega arith) (omega arith)

    children_more : (q i j : ℕ) → i ≤ j → children_below parent m q i ≤ children_below parent m q j
    children_more q i j h = le_ind {n = i} (λ j. children_below parent m q i ≤ children_below parent m q j) (omega arith) (λ j l ih. omega arith) j h

    -- size = 1 + the children's sizes
    pub size_children : (p : ℕ) → p ≤ m → size parent m p ≡ 1 + children_below parent m p (suc m)
    size_children p h = sizes p (suc m) (omega arith) ∙ rw (ltb_lt p (suc m) (omega arith), children_over p m)

    enough-number : (k l i : ℕ) → i ≤ k → i ≤ l → i ≤ m → number_in parent m k i ≡ number_in parent m l i
    enough-number zero zero i hk hl h = refl
    enough-number zero (suc l) zero hk hl h = refl
    enough-number zero (suc l) (suc i) hk hl h = absurd (omega arith)
    enough-number (suc k) zero zero hk hl h = refl
    enough-number (suc k) zero (suc i) hk hl h = absurd (omega arith)
    enough-number (suc k) (suc l) zero hk hl h = refl
    enough-number (suc k) (suc l) (suc i) hk hl h =
        let w = lower (suc i) (omega arith) h in
        rw (enough-number k l (parent (suc i)) (omega arith) (omega arith) (omega arith))

    pub number-root : number parent m 0 ≡ 0
    number-root = refl

    -- number(child) = number(parent) + 1 + the sizes of the earlier children
    pub number-child : (q i : ℕ) → 0 < i → i ≤ m → parent i ≡ q → number parent m i ≡ number parent m q + 1 + children_below parent m q i
    number-child q zero z h e = absurd (omega arith)
    number-child q (suc i) z h e =
        let w = lower (suc i) z h in
        subst
        (λ x. number parent m (suc i) ≡ number parent m x + 1 + children_below parent m x (suc i))
        e
        (rw (enough-number i (parent (suc i)) (parent (suc i)) (omega arith) (omega arith) (omega arith)))

    pub end_children : (p : ℕ) → p ≤ m → end parent m p ≡ number parent m p + 1 + children_below parent m p (suc m)
    end_children p h = omega (arith, size_children p h)

    number_below_end : (p : ℕ) → p ≤ m → number parent m p < end parent m p
    number_below_end p h = omega (arith, size_children p h)

    -- the numbers of a child are among those of its parent, beyond its first; those of an earlier child come before
    within-parent : (i : ℕ) → 0 < i → i ≤ m → (number parent m (parent i) < number parent m i) × (end parent m i ≤ end parent m (parent i))
    within-parent i z h =
        let w = lower i z h in
        let n = number-child (parent i) i z h refl in
        let c = children_hit (parent i) i z refl in
        let d = children_more (parent i) (suc i) (suc m) (omega arith) in
        let e = end_children (parent i) (omega arith) in
        (omega arith, omega arith)

    earlier-child : (c e : ℕ) → 0 < c → c < e → e ≤ m → parent c ≡ parent e → end parent m c ≤ number parent m e
    earlier-child c e z l h s =
        let n = number-child (parent e) c z (omega arith) s in
        let k = number-child (parent e) e (omega arith) h refl in
        let d = children_hit (parent e) c z s in
        let f = children_more (parent e) (suc c) e l in
        omega arith

    nested : (p e : ℕ) → e ≤ m → above parent p e ≡ true → (number parent m p ≤ number parent m e) × (end parent m e ≤ end parent m p)
    nested p e h a = path_ind p (λ e. (number parent m p ≤ number parent m e) × (end parent m e ≤ end parent m p))
        (omega arith, omega arith)
        (λ i z l ih. let w = within-parent i z l in (omega arith, omega arith))
        e h a

    strict : (p e : ℕ) → e ≤ m → above parent p e ≡ true → (p ≡ e) ⊎ (number parent m p < number parent m e)
    strict p e h a = ⊎_elim
        (λ s. inl s)
        (λ r. inr (let w = within-parent e r.0 h in let l = lower e r.0 h in omega (arith, nested p (parent e) (omega arith) r.1)))
        (above_cases p e h a)

    number-some : (p : ℕ) → p ≤ m → number parent m p ≡ 0 → p ≡ 0
    number-some p h e = ⊎_elim (λ z. absurd (omega (arith, within-parent p z h))) (λ l. omega arith) (lt_or_ge 0 p)

    -- p is below the parent of e: of that parent's children only e has numbers that hold both, and p is no other below e
    beside : (p e : ℕ) → 0 < e → p ≤ m → e ≤ m → number parent m p ≤ number parent m e → number parent m e < end parent m p → Child (parent e) p → p ≡ e
    beside p e z hp he a b c =
        let n = nested c.child p hp c.holds in
        let f = number_below_end e he in
        ⊎_elim
        (λ l. absurd (omega (arith, earlier-child c.child e c.some l he c.parent_is)))
        (λ l. ⊎_elim
        (λ l'. absurd (omega (arith, earlier-child e c.child z l' c.known (sym c.parent_is))))
        (λ l'. let s : c.child ≡ e = omega arith in ⊎_elim (λ r. sym r) (λ r. absurd (omega arith)) (strict e p hp (rw (← s) c.holds)))
        (lt_or_ge e c.child))
        (lt_or_ge c.child e)

    inside : (k p e : ℕ) → p + e ≤ k → p ≤ m → e ≤ m → number parent m p ≤ number parent m e → number parent m e < end parent m p → above parent p e ≡ true
    inside zero p e l hp he a b = let s : p ≡ e = omega arith in rw s (above-own e)
    inside (suc k) p e l hp he a b = ⊎_elim
        (λ z. let w = lower e z he in let n = within-parent e z he in ⊎_elim
        (λ s. let r = inside k (parent e) p (omega arith) (omega arith) hp (omega arith) (omega (arith, number_below_end e he)) in
        ⊎_elim (λ i. absurd (omega (arith, ap (number parent m) i))) (λ c. let i = beside p e z hp he a b c in rw i (above-own e)) (child_of (parent e) p hp r))
        (λ s. above_parent p e z he (inside k p (parent e) (omega arith) hp (omega arith) s (omega arith)))
        (lt_or_ge (number parent m (parent e)) (number parent m p)))
        (λ z. let i : e ≡ 0 = omega arith in let s = number-some p hp (omega (arith, ap (number parent m) i)) in rw (s, i))
        (lt_or_ge 0 e)

    -- p is e or above it exactly if its numbers hold that of e
    pub above↔inside : (p e : ℕ) → p ≤ m → e ≤ m
        → (above parent p e ≡ true) ↔ ((number parent m p ≤ number parent m e) × (number parent m e < end parent m p))
    above↔inside p e hp he = (
      λ a. let n = nested p e he a in let f = number_below_end e he in (omega arith, omega arith),
      λ n. inside (p + e) p e (omega arith) hp he n.0 n.1,
    )

    -- different ones have different numbers
    pub number-distinct : (p e : ℕ) → p ≤ m → e ≤ m → number parent m p ≡ number parent m e → p ≡ e
    number-distinct p e hp he s =
        let a = (above↔inside p e hp he).1 (omega arith, omega (arith, number_below_end p hp)) in
        let b = (above↔inside e p he hp).1 (omega arith, omega (arith, number_below_end e he)) in
        omega (arith, above-le p e he a, above-le e p hp b)

    pub end-le : (p : ℕ) → p ≤ m → end parent m p ≤ m + 1
    end-le p h = omega (arith, (nested 0 p h (above_root p h)).1, size-le 0 (suc m))

    pub number-le : (p : ℕ) → p ≤ m → number parent m p ≤ m
    number-le p h = omega (arith, number_below_end p h, end-le p h)

-- The tables are filled in two loops. The first finds the sizes: from 1 for each, i from m down to 1 adds the entry of i to that of its parent.
-- With the children from j on added, the entry of p is
unfoldable pub size_from : (ℕ → ℕ) → ℕ → ℕ → ℕ → ℕ
size_from parent m j p = 1 + (children_below parent m p (suc m) - children_below parent m p j)

-- The second finds numbers and ends: i from 1 up to m takes the running end of its parent as its number, and adds its size to it.
-- With the children below i numbered, the running end of q is
unfoldable pub running_end : (ℕ → ℕ) → ℕ → ℕ → ℕ → ℕ
running_end parent m i q = number parent m q + 1 + children_below parent m q i

module _ (parent : ℕ → ℕ) (m : ℕ) (lower : (i : ℕ) → 0 < i → i ≤ m → parent i < i) where
  pub size_from-start : (p : ℕ) → size_from parent m (suc m) p ≡ 1
  unfolding size_from
  size_from-start p = omega arith

  -- an entry is the size as soon as the children above it are added
  pub size_from-own : (i : ℕ) → i ≤ m → size_from parent m (suc i) i ≡ size parent m i
  unfolding size_from
  size_from-own i h = omega (arith, size_children parent m lower i h, children_none parent m lower i (suc i) (omega arith) (omega arith))

  pub size_from-hit : (p i : ℕ) → 0 < i → i ≤ m → parent i ≡ p → size_from parent m i p ≡ size_from parent m (suc i) p + size_from parent m (suc i) i
  unfolding size_from
  size_from-hit p i z h e = omega (
    arith,
    children_hit parent m lower p i z e,
    children_more parent m lower p (suc i) (suc m) (omega arith),
    size_children parent m lower i h,
    children_none parent m lower i (suc i) (omega arith) (omega arith),
  )

  pub size_from_miss : (p i : ℕ) → (parent i ≡ p → ⊥) → size_from parent m i p ≡ size_from parent m (suc i) p
  unfolding size_from
  size_from_miss p i n = omega (arith, children_miss parent m lower p i n)

  pub size_from-all : (p : ℕ) → p ≤ m → size_from parent m 1 p ≡ size parent m p
  unfolding size_from
  size_from-all p h = omega (arith, size_children parent m lower p h)

  pub size_from-le : (j p : ℕ) → p ≤ m → size_from parent m j p ≤ m + 1
  unfolding size_from
  size_from-le j p h = omega (arith, size_children parent m lower p h, size-le parent p (suc m))

  -- at first a running end is one past the number
  pub running_end-start : (q : ℕ) → q ≤ m → running_end parent m (suc q) q ≡ number parent m q + 1
  unfolding running_end
  running_end-start q h = omega (arith, children_none parent m lower q (suc q) (omega arith) (omega arith))

  pub running_end-child : (q i : ℕ) → 0 < i → i ≤ m → parent i ≡ q → number parent m i ≡ running_end parent m i q
  unfolding running_end
  running_end-child q i z h e = number-child parent m lower q i z h e

  pub running_end-hit : (q i : ℕ) → 0 < i → parent i ≡ q → running_end parent m (suc i) q ≡ running_end parent m i q + size parent m i
  unfolding running_end
  running_end-hit q i z e = omega (arith, children_hit parent m lower q i z e)

  pub running_end_miss : (q i : ℕ) → (parent i ≡ q → ⊥) → running_end parent m (suc i) q ≡ running_end parent m i q
  unfolding running_end
  running_end_miss q i n = omega (arith, children_miss parent m lower q i n)

  pub running_end-all : (q : ℕ) → q ≤ m → running_end parent m (suc m) q ≡ end parent m q
  unfolding running_end
  running_end-all q h = sym (end_children parent m lower q h)

  pub running_end-le : (q i : ℕ) → q ≤ m → i ≤ suc m → running_end parent m i q ≤ m + 1
  unfolding running_end
  running_end-le q i h l = omega (arith, end_children parent m lower q h, end-le parent m lower q h, children_more parent m lower q i (suc m) l)
