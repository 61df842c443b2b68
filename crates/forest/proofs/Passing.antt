-- The walks in a rows' part in which the word w of row c was put at place a: they meet what they met, and w. Assumes nothing.
use mathlib.Core.Path.{◌≡◌, refl, ap, ◌∙◌}
use mathlib.Core.List.{List}
use mathlib.Core.Logic.{◌⊎◌, inl, inr, ⊎_elim}
use Prim.Native.Nat.{ℕ, zero, suc, ◌+◌, ◌%◌, ◌<◌}
use native.Mathlib.Decide.{ℕ_discrete}
use native.Mathlib.Omega.{arith}
use lib.ListN.{get_or}
use Rattle.forest.specs.Words.{walk, Mem}
use Rattle.forest.specs.Growth.{put}
use Rattle.forest.proofs.Walking.{walk_more, met, meet-first, meet-next}
use Rattle.forest.proofs.Pushing.{Place, put-at, put-link, put_other}

module _ (n : ℕ) (area : List ℕ) (a c w : ℕ) (P : Place area a c) (B : c < n) (E : w % 8192 ≡ c) where
  abbrev area' : List ℕ
  area' = put area a c w

  -- the link of x, and the word that stood at a
  abbrev link : ℕ → ℕ
  link x = get_or area (8448 + x % 8192) 0

  abbrev stood : ℕ
  stood = get_or area a 0

  -- the walk meets no word of row c
  abbrev Clear : ℕ → ℕ → Type 0
  Clear k x = (u : ℕ) → Mem u (walk n area k x) → u % 8192 ≡ c → ⊥

  link-w : get_or area' (8448 + w % 8192) 0 ≡ stood
  link-w = ap (λ (i : ℕ). get_or area' (8448 + i) 0) E ∙ put-link area a c w P

  clear_next : (k x : ℕ) → x % 8192 < n → Clear (suc k) x → Clear k (link x)
  clear_next k x l f u m = f u (meet-next n area k x u l m)

  kept-link : (k x : ℕ) → x % 8192 < n → Clear (suc k) x → (8448 + x % 8192 ≡ a → ⊥) → get_or area' (8448 + x % 8192) 0 ≡ link x
  kept-link k x l f e = put_other area a c w P (8448 + x % 8192) e (λ z. f x (meet-first n area k x l) (omega arith))

  -- a walk that comes to a goes on from the word that stood there with fewer steps left
  again : (k x v : ℕ) → Clear k x → Mem v (walk n area k x) → Mem v (walk n area' k x) ⊎ Mem v (walk n area' k stood)
  unfolding walk
  again zero x v f m = absurd m
  again (suc k) x v f m = go (met n area k x v m) (again k (link x) v)
    where
      more : Mem v (walk n area' k stood) → Mem v (walk n area' (suc k) stood)
      more = walk_more n area' k (suc k) stood v (omega arith)

      turn : x % 8192 < n → Dec (8448 + x % 8192 ≡ a) → Mem v (walk n area' k (link x)) ⊎ Mem v (walk n area' k stood)
          → Mem v (walk n area' (suc k) x) ⊎ Mem v (walk n area' (suc k) stood)
      turn l (yes e) (inl y) = inr (more (rw e at y))
      turn l (no e) (inl y) = inl (meet-next n area' k x v l (rw (kept-link k x l f e) y))
      turn l d (inr y) = inr (more y)

      go : (x % 8192 < n) × ((v ≡ x) ⊎ Mem v (walk n area k (link x)))
          → (Clear k (link x) → Mem v (walk n area k (link x)) → Mem v (walk n area' k (link x)) ⊎ Mem v (walk n area' k stood))
          → Mem v (walk n area' (suc k) x) ⊎ Mem v (walk n area' (suc k) stood)
      go (l, inl e) ih = inl (rw e (meet-first n area' k x l))
      go (l, inr y) ih = turn l (ℕ_discrete (8448 + x % 8192) a) (ih (clear_next k x l f) y)

  -- from w on, the walk meets what it met from the word that stood at a
  behind : (k v : ℕ) → Clear k stood → Mem v (walk n area k stood) → Mem v (walk n area' (suc k) w)
  behind k v f m = meet-next n area' k w v (omega arith) (rw link-w (⊎_elim (λ y. y) (λ y. y) (again k stood v f m)))

  -- so does the walk from what stands at a place g, where the walk from what stood there does
  through : (k g v : ℕ) → (g ≡ 8448 + c → ⊥) → Clear k (get_or area g 0) → Mem v (walk n area k (get_or area g 0)) → Mem v (walk n area' (suc k) (get_or area g 0))
      → Mem v (walk n area' (suc k) (get_or area' g 0))
  through k g v h f m y = go (ℕ_discrete g a)
    where
      go : Dec (g ≡ a) → Mem v (walk n area' (suc k) (get_or area' g 0))
      go (yes e) = rw (e, put-at area a c w P) (behind k v (rw e at f) (rw e at m))
      go (no e) = rw (put_other area a c w P g e h) y

  -- each walk meets what it met, in one step more
  one_more : (k x v : ℕ) → Clear k x → Mem v (walk n area k x) → Mem v (walk n area' (suc k) x)
  unfolding walk
  one_more zero x v f m = absurd m
  one_more (suc k) x v f m = go (met n area k x v m) (one_more k (link x) v)
    where
      go : (x % 8192 < n) × ((v ≡ x) ⊎ Mem v (walk n area k (link x)))
          → (Clear k (link x) → Mem v (walk n area k (link x)) → Mem v (walk n area' (suc k) (link x)))
          → Mem v (walk n area' (suc (suc k)) x)
      go (l, inl e) ih = rw e (meet-first n area' (suc k) x l)
      go (l, inr y) ih =
          let f' = clear_next k x l f in
          meet-next n area' (suc k) x v l (through k (8448 + x % 8192) v (λ z. f x (meet-first n area k x l) (omega arith)) f' y (ih f' y))

  pub still-met : (k g v : ℕ) → (g ≡ 8448 + c → ⊥) → Clear k (get_or area g 0) → Mem v (walk n area k (get_or area g 0)) → Mem v (walk n area' (suc k) (get_or area' g 0))
  still-met k g v h f m = through k g v h f m (one_more k (get_or area g 0) v f m)

  -- a walk that came neither to a nor to row c meets nothing else
  pub no_more : (k x v : ℕ) → Clear k x → ((u : ℕ) → Mem u (walk n area k x) → 8448 + u % 8192 ≡ a → ⊥) → Mem v (walk n area' k x) → Mem v (walk n area k x)
  unfolding walk
  no_more zero x v f h m = absurd m
  no_more (suc k) x v f h m = go (met n area' k x v m) (no_more k (link x) v)
    where
      go : (x % 8192 < n) × ((v ≡ x) ⊎ Mem v (walk n area' k (get_or area' (8448 + x % 8192) 0)))
          → (Clear k (link x) → ((u : ℕ) → Mem u (walk n area k (link x)) → 8448 + u % 8192 ≡ a → ⊥) → Mem v (walk n area' k (link x)) → Mem v (walk n area k (link x)))
          → Mem v (walk n area (suc k) x)
      go (l, inl e) ih = rw e (meet-first n area k x l)
      go (l, inr y) ih =
          meet-next n area k x v l
          (ih (clear_next k x l f) (λ u p. h u (meet-next n area k x u l p)) (rw (kept-link k x l f (h x (meet-first n area k x l))) at y))

  -- where the words from the one that stood at a are of a kind K, which has no word of row c, the words from w on are w and words of that kind
  module _ (K : ℕ → Type 0) (N : (u : ℕ) → K u → u % 8192 ≡ c → ⊥) where
    abbrev All : ℕ → ℕ → Type 0
    All k x = (u : ℕ) → Mem u (walk n area k x) → K u

    fewer : (k x : ℕ) → All (suc k) x → All k x
    fewer k x f u m = f u (walk_more n area k (suc k) x u (omega arith) m)

    of_kind : (k x v : ℕ) → All k stood → (x ≡ w) ⊎ All k x → Mem v (walk n area' k x) → (v ≡ w) ⊎ K v
    unfolding walk
    of_kind zero x v s f m = absurd m
    of_kind (suc k) x v s f m = go f (met n area' k x v m) (λ y. of_kind k y v (fewer k stood s))
      where
        turn : x % 8192 < n → All (suc k) x → Dec (8448 + x % 8192 ≡ a) → Mem v (walk n area' k (get_or area' (8448 + x % 8192) 0))
            → ((y : ℕ) → (y ≡ w) ⊎ All k y → Mem v (walk n area' k y) → (v ≡ w) ⊎ K v)
            → (v ≡ w) ⊎ K v
        turn l g (yes e) y ih = ih w (inl refl) (rw (e, put-at area a c w P) at y)
        turn l g (no e) y ih =
            ih (link x) (inr (λ u p. g u (meet-next n area k x u l p))) (rw (kept-link k x l (λ u p. N u (g u p)) e) at y)

        go : (x ≡ w) ⊎ All (suc k) x → (x % 8192 < n) × ((v ≡ x) ⊎ Mem v (walk n area' k (get_or area' (8448 + x % 8192) 0)))
            → ((y : ℕ) → (y ≡ w) ⊎ All k y → Mem v (walk n area' k y) → (v ≡ w) ⊎ K v)
            → (v ≡ w) ⊎ K v
        go (inl q) (l, inl e) ih = inl (e ∙ q)
        go (inr g) (l, inl e) ih = inr (rw e (g x (meet-first n area k x l)))
        go (inl q) (l, inr y) ih = ih stood (inr (fewer k stood s)) (rw (q, link-w) at y)
        go (inr g) (l, inr y) ih = turn l g (ℕ_discrete (8448 + x % 8192) a) y ih

    pub from-w : (k v : ℕ) → All k stood → Mem v (walk n area' k w) → (v ≡ w) ⊎ K v
    from-w k v s m = of_kind k w v s (inl refl) m
