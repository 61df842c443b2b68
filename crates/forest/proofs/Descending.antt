-- The descent from child to child ends at the longest row. Assumes nothing.
use mathlib.Core.Path.{◌≡◌, refl, ap, ◌∙◌}
use mathlib.Core.List.{List, ◌++◌}
use mathlib.Core.Logic.{◌⊎◌, inl, inr, ⊎_elim}
use mathlib.Core.Bool.{Bool}
use Prim.Native.Nat.{ℕ, ◌+◌, ◌-◌, ◌≤◌, ◌<◌}
use native.Mathlib.Omega.{arith}
use lib.ListN.{length, length-drop, drop}
use lib.Seq.{drop-drop}
use Rattle.theory.specs.Dictionary.{none}
use Rattle.placed_rows.specs.Longest.{Known}
use Rattle.forest.specs.Words.{In}
use Rattle.forest.specs.Lookups.{At, Step, ChildIs, Descent}
use Rattle.forest.proofs.NoChild.{no-child}
use Rattle.forest.proofs.Searching.{tail, search_empty}

-- best, of size bytes, is a row of S and begins the bytes of from followed by text
pub record Reached (R : ℕ → List ℕ) (S : ℕ → Bool) (from : ℕ) (text : List ℕ) (best size k : ℕ) : Type 0 where
  pub known : Known (In S) best
  pub sized : size ≡ length (R best)
  pub split : R from ++ text ≡ R best ++ drop k text

-- the descent from from, of len bytes, has come to best, of size bytes, over k bytes of text
pub record Descending (R : ℕ → List ℕ) (n : ℕ) (area : List ℕ) (from len : ℕ) (text : List ℕ) (best size k : ℕ) : Type 0 where
  pub bound : ((best ≡ from) × (size ≡ len)) ⊎ ((best < n) × (len < size))
  pub used : size ≡ len + k
  pub reached : (S : ℕ → Bool) → At R n area S from len → Reached R S from text best size k

module _ (R : ℕ → List ℕ) (n : ℕ) (area : List ℕ) (from len : ℕ) (text : List ℕ) where
  pub descend_start : Descending R n area from len text from len 0
  descend_start = record { bound = inl (refl, refl); used = omega arith; reached = λ S a. record { known = a.known; sized = a.size; split = refl } }

  -- the place that was reached
  abbrev pub here : (best size k : ℕ) → Descending R n area from len text best size k → (S : ℕ → Bool) → At R n area S from len → At R n area S best size
  here best size k D S a = let q = D.reached S a in record { index = a.index; known = q.known; size = q.sized }

  pub record Turn (best size k r l : ℕ) : Type 0 where
    pub step : Step n size (length text - k) r l
    pub gone : Descending R n area from len text r l (k + (l - size))

  pub turn : (best size k : ℕ) (rest : List ℕ) (r l : ℕ) → k ≤ length text → Descending R n area from len text best size k → ChildIs R n area best size rest r l
      → rest ≡ drop k text → (r ≡ none → ⊥) → Turn best size k r l
  turn best size k rest r l hk D h' e ne =
      let h : ChildIs R n area best size (drop k text) r l = rw e at h' in
      let b : Step n size (length (drop k text)) r l = ⊎_elim (λ z. absurd (ne z)) (λ z. z) h.bound in
      let u = D.used in
      let bl = b.longer in
      record {
        step = rw (length-drop k text) at b;
        gone = record {
          bound = inr (b.below, omega arith);
          used = omega arith;
          reached = λ S a. go h S a (D.reached S a);
        };
      }
    where
      go : ChildIs R n area best size (drop k text) r l → (S : ℕ → Bool) (a : At R n area S from len) → Reached R S from text best size k → Reached R S from text r l (k + (l - size))
      go h S a q =
          let c = h.sound ne S (here best size k D S a) in
          let t = tail R n area S a.index best (drop k text) r c.0 in
          let m : k + (length (R r) - length (R best)) ≡ k + (l - size) = omega (arith, q.sized, c.1) in
          record {
            known = inr c.0.in-K;
            sized = c.1;
            split = q.split ∙ t.split ∙ ap (λ (z : List ℕ). R r ++ z) (drop-drop (length (R r) - length (R best)) k text ∙ ap (λ (z : ℕ). drop z text) m);
          }

  pub descend_stop : (best size k : ℕ) (rest : List ℕ) (r l : ℕ) → k ≤ length text → Descending R n area from len text best size k → ChildIs R n area best size rest r l
      → rest ≡ drop k text → r ≡ none → Descent R n area from len text best size
  descend_stop best size k rest r l hk D h' e z =
      let h : ChildIs R n area best size (drop k text) r l = rw e at h' in
      record {
        bound = D.bound;
        room = let u = D.used in omega arith;
        longest = λ S a.
            let q = D.reached S a in (
              rw q.split (no-child R a.index.par (In S) a.index.forest (R best ++ drop k text) best q.known (record { rest = drop k text; split = refl })
                  (λ c s u b. h.complete z S (here best size k D S a) c (record { in-K = s; under = u; on = b }))),
              q.sized,
            );
      }

  pub descend_end : (best size k : ℕ) → k ≤ length text → Descending R n area from len text best size k → length text ≤ k → Descent R n area from len text best size
  descend_end best size k hk D l = descend_stop best size k (drop k text) none 0 hk D (search_empty R n area best size (drop k text) 0 (omega (arith, length-drop k text))) refl refl

-- the descent from no row: to the shortest row that begins the text, and on from there
module _ (R : ℕ → List ℕ) (n : ℕ) (area text : List ℕ) (r l : ℕ) (C : ChildIs R n area none 0 text r l) where
  pub root_none : r ≡ none → Descent R n area none 0 text none 0
  root_none e = descend_stop R n area none 0 text none 0 0 text r l (omega arith) (descend_start R n area none 0 text) C refl e

  pub root-some : (ne : r ≡ none → ⊥) (r' l' : ℕ) → Descent R n area r l (drop l text) r' l' → Descent R n area none 0 text r' l'
  root-some ne r' l' D =
      let s : Step n 0 (length text) r l = ⊎_elim (λ z. absurd (ne z)) (λ z. z) C.bound in
      record {
        bound = inr (⊎_elim (λ z. let b = s.below in let e = z.0 in let f = z.1 in let g = s.longer in (omega arith, omega arith)) (λ z. let g = z.1 in (z.0, omega arith)) D.bound);
        room = omega (arith, D.room, length-drop l text, s.fits);
        longest = λ S a.
            let c = C.sound ne S a in
            let t = tail R n area S a.index none text r c.0 in
            let k : length (R r) - length (R none) ≡ l = omega (arith, c.1, ap length a.index.forest.root) in
            rw (t.split ∙ ap (λ (j : ℕ). R r ++ drop j text) k) (D.longest S (record { index = a.index; known = inr c.0.in-K; size = c.1 }));
      }
