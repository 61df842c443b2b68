-- Two codes at live places made one: which places are live, which codes they have, and their keys. Assumes nothing.
use mathlib.Core.Path.{◌≡◌, refl, sym, ap, subst, ◌∙◌}
use mathlib.Core.Logic.{⊎_elim}
use mathlib.Core.List.{List, [], ◌∷◌, ◌++◌}
use mathlib.Core.Bool.{Bool, true, false}
use Prim.Native.Nat.{ℕ, zero, suc, ◌+◌, ◌-◌, ◌≤◌, ◌<◌}
use native.Mathlib.Decide.{ℕ_discrete}
use native.Mathlib.Omega.{arith}
use lib.ListN.{length, get_or, set}
use lib.Seq.{get_or-set_same, get_or-set_other}
use Rattle.theory.specs.Dictionary.{none}
use Rattle.theory.proofs.Lists.{lt_or_ge, true-false}
use Rattle.merge_encoder.specs.Live.{kept, live, NextLive, LastLive}
use Rattle.merge_encoder.specs.Steps.{NextKey, KeyIs}
use Rattle.merge_encoder.proofs.Living.{live-set, live-parts, live-none, live_same}

module _ (bits : ℕ → Bool) (work : List ℕ) (len : ℕ) where
  -- places that are not live are passed over
  pub passed : (i r : ℕ) → i ≤ r → r ≤ len → ((p : ℕ) → i ≤ p → p < r → bits p ≡ false) → live bits work (len - i) i ≡ live bits work (len - r) r
  passed i r h l f =
      let a : i + (r - i) ≡ r = omega arith in
      live-parts bits work (r - i) (len - r) (len - i) i (omega arith)
      ∙ ap (λ (s : List ℕ). s ++ live bits work (len - r) (i + (r - i))) (live-none bits work (r - i) i (λ p b c. f p b (omega arith)))
      ∙ ap (λ (p : ℕ). live bits work (len - r) p) a

  -- the codes before a live place, its code and the codes after it
  pub parted : (at i : ℕ) → i ≤ at → at < len → bits at ≡ true
      → live bits work (len - i) i ≡ live bits work (at - i) i ++ get_or work at 0 ∷ live bits work (len - suc at) (suc at)
  parted at i h l e =
      let a : i + (at - i) ≡ at = omega arith in
      let b : suc (len - suc at) ≡ len - at = omega arith in
      live-parts bits work (at - i) (len - at) (len - i) i (omega arith)
      ∙ ap (λ (p : ℕ). live bits work (at - i) i ++ live bits work (len - at) p) a
      ∙ ap (λ (k : ℕ). live bits work (at - i) i ++ live bits work k at) (sym b)
      ∙ ap (λ (s : List ℕ). live bits work (at - i) i ++ s) (live-set bits work (len - suc at) at e)

  module _ (at r : ℕ) (N : NextLive bits at len r) where
    -- the codes after a place, from the next live one on
    pub next-some : r < len → live bits work (len - suc at) (suc at) ≡ get_or work r 0 ∷ live bits work (len - suc r) (suc r)
    next-some l =
        let a : r - r ≡ 0 = omega arith in
        passed (suc at) r N.after N.most (λ p b c. N.clear p b c) ∙ parted r r (omega arith) l (N.here l) ∙ rw a

    pub next-none : r ≡ len → live bits work (len - suc at) (suc at) ≡ []
    next-none e =
        let a : len - r ≡ 0 = omega arith in
        passed (suc at) r N.after N.most (λ p b c. N.clear p b c) ∙ rw a

  -- codes where a place is live
  pub record Some (S : List ℕ) : Type 0 where
    pub first : ℕ
    pub others : List ℕ
    pub is : S ≡ first ∷ others

  live-some : (k i p : ℕ) → i ≤ p → p < i + k → bits p ≡ true → Some (live bits work k i)
  live-some zero i p h l e = absurd (omega arith)
  live-some (suc k) i p h l e = go (bits i) refl (λ z. live-some k (suc i) p z (omega arith) e)
    where
      go : (b : Bool) → bits i ≡ b → (suc i ≤ p → Some (live bits work k (suc i))) → Some (kept b (get_or work i 0) (live bits work k (suc i)))
      go true q f = record { first = get_or work i 0; others = live bits work k (suc i); is = refl }
      go false q f = f (⊎_elim (λ z. z) (λ z. let w : p ≡ i = omega arith in absurd (true-false (sym e ∙ ap bits w ∙ q))) (lt_or_ge i p))

-- the place next is no more live, and the code at the place at is row
module _ (bits bits' : ℕ → Bool) (work : List ℕ) (len at next row : ℕ) (room : at < length work)
    (on : bits at ≡ true) (N : NextLive bits at len next) (inside : next < len)
    (same : (p : ℕ) → (p ≡ next → ⊥) → bits' p ≡ bits p) (gone : bits' next ≡ false) where
  abbrev work' : List ℕ
  work' = set work at row

  unchanged : (p : ℕ) → (p ≡ at → ⊥) → get_or work' p 0 ≡ get_or work p 0
  unchanged p h = get_or-set_other work at p row 0 h

  on' : bits' at ≡ true
  on' = same at (λ z. omega (arith, N.after)) ∙ on

  -- what is live after the place at is what was live after next
  between : (i : ℕ) → at < i → i ≤ next → live bits' (set work at row) (len - i) i ≡ live bits work (len - suc next) (suc next)
  between i h l =
      passed bits' work' len i (suc next) (omega arith) (omega arith) (λ p b c. go p b c (ℕ_discrete p next))
      ∙ live_same bits bits' work work' (len - suc next) (suc next) (λ p b c. same p (λ z. omega arith)) (λ p b c. unchanged p (λ z. omega (arith, N.after)))
    where
      go : (p : ℕ) → i ≤ p → p < suc next → Dec (p ≡ next) → bits' p ≡ false
      go p b c (yes e) = rw e gone
      go p b c (no e) = same p e ∙ N.clear p (omega arith) (omega arith)

  before : (i : ℕ) → i ≤ at → live bits' (set work at row) (at - i) i ≡ live bits work (at - i) i
  before i h = live_same bits bits' work work' (at - i) i (λ p b c. same p (λ z. omega (arith, N.after))) (λ p b c. unchanged p (λ z. omega arith))

  -- the codes from a place up to at on
  pub joined : (i : ℕ) → i ≤ at → live bits' (set work at row) (len - i) i ≡ live bits work (at - i) i ++ row ∷ live bits work (len - suc next) (suc next)
  joined i h =
      parted bits' work' len at i h (omega (arith, N.after)) on'
      ∙ ap (λ (s : List ℕ). s ++ get_or work' at 0 ∷ live bits' work' (len - suc at) (suc at)) (before i h)
      ∙ ap (λ (x : ℕ). live bits work (at - i) i ++ x ∷ live bits' work' (len - suc at) (suc at)) (get_or-set_same work at row 0 room)
      ∙ ap (λ (s : List ℕ). live bits work (at - i) i ++ row ∷ s) (between (suc at) (omega arith) N.after)

  -- the live place next after at, and after the last one before it
  pub next-after : (after : ℕ) → NextLive bits next len after → NextLive bits' at len after
  next-after after A = record {
    after = omega (arith, N.after, A.after);
    most = A.most;
    clear = λ p a b. ⊎_elim
        (λ l. same p (λ z. omega arith) ∙ N.clear p a l)
        (λ l. ⊎_elim
        (λ m. same p (λ z. omega arith) ∙ A.clear p m b)
        (λ m. let e : p ≡ next = omega arith in rw e gone)
        (lt_or_ge next p))
        (lt_or_ge p next);
    here = λ l. same after (λ z. omega (arith, A.after)) ∙ A.here l;
  }

  pub next_last : (last : ℕ) → LastLive bits at last → last < at → NextLive bits' last len at
  next_last last L l = record {
    after = l;
    most = omega (arith, N.after);
    clear = λ p a b. same p (λ z. omega (arith, N.after)) ∙ L.clear p b (λ _. a);
    here = λ _. on';
  }

  module _ (Key : ℕ → ℕ → ℕ → Type 0) (few : len ≤ 4096) (key key' : ℕ → ℕ)
      (keys : (i : ℕ) → i < 4096 → KeyIs Key (bits i) (get_or work i 0) (live bits work (len - suc i) (suc i)) (key i))
      (last : ℕ) (L : LastLive bits at last)
      (here' : NextKey Key row (live bits' (set work at row) (len - suc at) (suc at)) (key' at))
      (gone' : key' next ≡ none)
      (last' : last < at → NextKey Key (get_or work last 0) (live bits' (set work at row) (len - suc last) (suc last)) (key' last))
      (others' : (i : ℕ) → (i ≡ at → ⊥) → (i ≡ next → ⊥) → (last < at → i ≡ last → ⊥) → key' i ≡ key i) where
    abbrev Right : ℕ → Type 0
    Right i = KeyIs Key (bits' i) (get_or work' i 0) (live bits' work' (len - suc i) (suc i)) (key' i)

    -- the key of a place that is not live
    dead : (i : ℕ) → i < 4096 → bits i ≡ false → (i ≡ at → ⊥) → (i ≡ next → ⊥) → (last < at → i ≡ last → ⊥) → Right i
    dead i h e a b c =
        rw (same i b, e, others' i a b c)
        (subst (λ (x : Bool). KeyIs Key x (get_or work i 0) (live bits work (len - suc i) (suc i)) (key i)) e (keys i h))

    behind : (i : ℕ) → i < 4096 → next < i → Right i
    behind i h l =
        rw (
          same i (λ z. omega arith),
          unchanged i (λ z. omega (arith, N.after)),
          live_same bits bits' work work' (len - suc i) (suc i) (λ p b c. same p (λ z. omega arith)) (λ p b c. unchanged p (λ z. omega (arith, N.after))),
          others' i (λ z. omega (arith, N.after)) (λ z. omega arith) (λ m z. omega (arith, N.after)),
        )
        (keys i h)

    -- the key of a live place before the last one
    first-same : (i : ℕ) → i < last → last < at → bits i ≡ true → Some bits work len (live bits work (at - suc i) (suc i)) → Right i
    first-same i h l e s =
        let a = parted bits work len at (suc i) (omega arith) (omega (arith, N.after)) on in
        let k = subst (λ (x : Bool). KeyIs Key x (get_or work i 0) (live bits work (len - suc i) (suc i)) (key i)) e (keys i (omega (arith, N.after, few))) in
        let k' = rw (a, s.is) at k in
        rw (
          same i (λ z. omega (arith, N.after)),
          e,
          unchanged i (λ z. omega arith),
          joined (suc i) (omega arith),
          s.is,
          others' i (λ z. omega arith) (λ z. omega (arith, N.after)) (λ m z. omega arith),
        )
        k'

    ahead : (i : ℕ) → i < at → (b : Bool) → bits i ≡ b → Right i
    ahead i h false e = dead' (ℕ_discrete i last)
      where
        dead' : Dec (i ≡ last) → Right i
        dead' (yes z) = absurd (true-false (sym (L.here (omega arith)) ∙ ap bits (sym z) ∙ e))
        dead' (no z) = dead i (omega (arith, N.after, few)) e (λ w. omega arith) (λ w. omega (arith, N.after)) (λ _ w. z w)
    ahead i h true e = ⊎_elim
        (λ l. ⊎_elim
        (λ m. first-same i m l e (live-some bits work len (at - suc i) (suc i) last m (omega arith) (L.here l)))
        (λ m. ⊎_elim
        (λ z. absurd (true-false (sym e ∙ L.clear i h (λ _. z))))
        (λ z. let w : i ≡ last = omega arith in
        rw (same i (λ v. omega (arith, N.after)), e, unchanged i (λ v. omega arith)) (subst (λ (j : ℕ). NextKey Key (get_or work j 0) (live bits' work' (len - suc j) (suc j)) (key' j)) (sym w) (last' l)))
        (lt_or_ge last i))
        (lt_or_ge i last))
        (λ l. absurd (true-false (sym e ∙ L.clear i h (λ z. absurd (omega arith)))))
        (lt_or_ge last at)

    -- each key is right after the turn
    pub keys_after : (i : ℕ) → i < 4096 → KeyIs Key (bits' i) (get_or (set work at row) i 0) (live bits' (set work at row) (len - suc i) (suc i)) (key' i)
    keys_after i h = ⊎_elim
        (λ l. ahead i l (bits i) refl)
        (λ l. ⊎_elim
        (λ m. ⊎_elim
        (λ z. dead i h (N.clear i m z) (λ w. omega arith) (λ w. omega arith) (λ q w. omega arith))
        (λ z. ⊎_elim
        (λ w. behind i h w)
        (λ w. let e : i ≡ next = omega arith in rw (e, gone) gone')
        (lt_or_ge next i))
        (lt_or_ge i next))
        (λ m. let e : i ≡ at = omega arith in rw (e, on', get_or-set_same work at row 0 room) here')
        (lt_or_ge at i))
        (lt_or_ge i at)
