-- The element with the least value, of equally low ones the first.
use mathlib.Core.Path.{◌≡◌, refl, sym, ap, ◌∙◌, subst}
use mathlib.Core.Logic.{◌⊎◌, inl, inr, ⊎_elim}
use mathlib.Core.List.{List, [], ◌∷◌}
use mathlib.Core.Bool.{true, false}
use Prim.Native.Nat.{ℕ, ◌≤◌, ◌<◌}
use native.Mathlib.Omega.{arith}
use lib.Dec.{ltb}
use borrow.Author.Tests.{lt-ltb, le-ltb}
use Rattle.theory.specs.Lists.{In}
use Rattle.theory.proofs.Lists.{lt_or_ge}

-- each element has a higher value than all behind it
abbrev pub Falling : (ℕ → ℕ) → List ℕ → Type 0
Falling g [] = Unit {0}
Falling g (c ∷ cs) = ((d : ℕ) → In d cs → g d < g c) × Falling g cs

module _ (f : ℕ → ℕ) where
  -- c is held; each of the others in turn takes its place if its value is lower
  abbrev pub least : ℕ → List ℕ → ℕ
  least c [] = c
  least c (d ∷ ds) = elim (ltb (f d) (f c)) [ true ↦ least d ds | false ↦ least c ds ]

  pub least-lower : (c d : ℕ) (ds : List ℕ) → f d < f c → least c (d ∷ ds) ≡ least d ds
  least-lower c d ds h = rw (lt-ltb (f d) (f c) h, least)

  pub least_kept : (c d : ℕ) (ds : List ℕ) → f c ≤ f d → least c (d ∷ ds) ≡ least c ds
  least_kept c d ds h = rw (le-ltb (f d) (f c) h, least)

  -- it is one of them
  pub least_in : (c : ℕ) (cs : List ℕ) → In (least c cs) (c ∷ cs)
  least_in c [] = inl refl
  least_in c (d ∷ ds) = go (lt_or_ge (f d) (f c)) (least_in c ds) (least_in d ds)
    where
      go : (f d < f c) ⊎ (f c ≤ f d) → In (least c ds) (c ∷ ds) → In (least d ds) (d ∷ ds) → In (least c (d ∷ ds)) (c ∷ d ∷ ds)
      go (inl h) i j = subst (λ x. In x (c ∷ d ∷ ds)) (sym (least-lower c d ds h)) (inr j)
      go (inr h) i j =
          let kept : In (least c ds) (c ∷ d ∷ ds) = ⊎_elim (λ e. inl e) (λ m. inr (inr m)) i in
          subst (λ x. In x (c ∷ d ∷ ds)) (sym (least_kept c d ds h)) kept

  -- none has a lower value
  pub least-low : (c : ℕ) (cs : List ℕ) (x : ℕ) → In x (c ∷ cs) → f (least c cs) ≤ f x
  least-low c [] x m = ⊎_elim (λ e. rw e (omega arith)) (λ n. absurd n) m
  least-low c (d ∷ ds) x m = go (lt_or_ge (f d) (f c)) (least-low c ds) (least-low d ds) m
    where
      go : (f d < f c) ⊎ (f c ≤ f d) → ((x : ℕ) → In x (c ∷ ds) → f (least c ds) ≤ f x) → ((x : ℕ) → In x (d ∷ ds) → f (least d ds) ≤ f x) → In x (c ∷ d ∷ ds) → f (least c (d ∷ ds)) ≤ f x
      go (inl h) i j (inl e) = rw (least-lower c d ds h, e) (let l = j d (inl refl) in omega arith)
      go (inl h) i j (inr m) = rw (least-lower c d ds h) (j x m)
      go (inr h) i j (inl e) = rw (least_kept c d ds h) (i x (inl e))
      go (inr h) i j (inr (inl e)) = rw (least_kept c d ds h, e) (let l = i c (inl refl) in omega arith)
      go (inr h) i j (inr (inr m)) = rw (least_kept c d ds h) (i x (inr m))

  -- one as low as it is that one or stands behind it
  pub least_first : (g : ℕ → ℕ) (c : ℕ) (cs : List ℕ) (x : ℕ) → Falling g (c ∷ cs) → In x (c ∷ cs) → f x ≤ f (least c cs) → (x ≡ least c cs) ⊎ (g x < g (least c cs))
  least_first g c [] x w m l = ⊎_elim (λ e. inl e) (λ n. absurd n) m
  least_first g c (d ∷ ds) x w m l =
      go
      (lt_or_ge (f d) (f c))
      (λ y. least_first g c ds y ((λ z n. w.0 z (inr n)), w.1.1))
      (λ y. least_first g d ds y w.1)
      m
    where
      go : (f d < f c) ⊎ (f c ≤ f d) → ((y : ℕ) → In y (c ∷ ds) → f y ≤ f (least c ds) → (y ≡ least c ds) ⊎ (g y < g (least c ds)))
          → ((y : ℕ) → In y (d ∷ ds) → f y ≤ f (least d ds) → (y ≡ least d ds) ⊎ (g y < g (least d ds)))
          → In x (c ∷ d ∷ ds) → (x ≡ least c (d ∷ ds)) ⊎ (g x < g (least c (d ∷ ds)))
      go (inl h) i j (inl e) = absurd (let q = least-low d ds d (inl refl) in omega (arith, rw (least-lower c d ds h) at l, ap f e))
      go (inl h) i j (inr m) = rw (least-lower c d ds h) (j x m (rw (least-lower c d ds h) at l))
      go (inr h) i j (inl e) = rw (least_kept c d ds h) (i x (inl e) (rw (least_kept c d ds h) at l))
      go (inr h) i j (inr (inl e)) =
          let k = w.0 d (inl refl) in
          let q : f c ≤ f (least c ds) = omega (arith, rw (least_kept c d ds h) at l, ap f e) in
          rw (least_kept c d ds h) (inr (⊎_elim (λ s. omega (arith, ap g e, ap g s)) (λ s. omega (arith, ap g e)) (i c (inl refl) q)))
      go (inr h) i j (inr (inr m)) = rw (least_kept c d ds h) (i x (inr m) (rw (least_kept c d ds h) at l))

  -- the same taken from the right: c, unless the least of the others is lower
  least_stays : (c : ℕ) (cs : List ℕ) → ((x : ℕ) → In x cs → f c ≤ f x) → least c cs ≡ c
  least_stays c [] h = refl
  least_stays c (d ∷ ds) h = least_kept c d ds (h d (inl refl)) ∙ least_stays c ds (λ x m. h x (inr m))

  pub least_right_kept : (c d : ℕ) (ds : List ℕ) → f c ≤ f (least d ds) → least c (d ∷ ds) ≡ c
  least_right_kept c d ds h = least_stays c (d ∷ ds) (λ x m. let l = least-low d ds x m in omega arith)

  pub least_right_lower : (c d : ℕ) (ds : List ℕ) → f (least d ds) < f c → least c (d ∷ ds) ≡ least d ds
  least_right_lower c d [] h = least-lower c d [] h
  least_right_lower c d (e ∷ ds) h = go (lt_or_ge (f d) (f c)) (lt_or_ge (f (least e ds)) (f d)) (least_right_lower c e ds) (least_right_lower d e ds)
    where
      go : (f d < f c) ⊎ (f c ≤ f d) → (f (least e ds) < f d) ⊎ (f d ≤ f (least e ds)) → (f (least e ds) < f c → least c (e ∷ ds) ≡ least e ds)
          → (f (least e ds) < f d → least d (e ∷ ds) ≡ least e ds) → least c (d ∷ e ∷ ds) ≡ least d (e ∷ ds)
      go (inl k) l i j = least-lower c d (e ∷ ds) k
      go (inr k) (inl l) i j = least_kept c d (e ∷ ds) k ∙ i (rw (j l) at h) ∙ sym (j l)
      go (inr k) (inr l) i j = absurd (omega (arith, ap f (least_right_kept d e ds l)))
