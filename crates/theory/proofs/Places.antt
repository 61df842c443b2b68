-- The places of a text that are not dead: their number bounds the steps of backtracking, over any rows that are not empty.
use mathlib.Core.Path.{◌≡◌, refl, sym, ap, ◌∙◌}
use mathlib.Core.Logic.{⊎_elim}
use mathlib.Core.Bool.{Bool, true, false}
use mathlib.Core.List.{List, [], ◌∷◌}
use Prim.Native.Nat.{ℕ, zero, suc, ◌-◌, ◌*◌, ◌≤◌, ◌<◌}
use native.Mathlib.Decide.{le_ind}
use native.Mathlib.Nat.{eq-or-lt_of_le}
use native.Mathlib.Omega.{arith}
use lib.ListN.{length}
use Rattle.theory.specs.Dictionary.{Dictionary}
use Rattle.theory.specs.Backtracking.{mark, place}
use Rattle.theory.proofs.Lists.{bool_cases, eqb_ne, eqb_eq}

-- how many of the places from 1 to m are not dead
abbrev live : (ℕ → Bool) → ℕ → ℕ
live dead zero = 0
live dead (suc m) = elim (dead (suc m)) [ true ↦ live dead m | false ↦ suc (live dead m) ]

live-dead : (dead : ℕ → Bool) (m : ℕ) → dead (suc m) ≡ true → live dead (suc m) ≡ live dead m
live-dead dead m e = rw (e, live)

live-suc : (dead : ℕ → Bool) (m : ℕ) → dead (suc m) ≡ false → live dead (suc m) ≡ suc (live dead m)
live-suc dead m e = rw (e, live)

live_grows : (dead : ℕ → Bool) (m : ℕ) → live dead m ≤ live dead (suc m)
live_grows dead m = bool_cases (dead (suc m)) (λ e. omega (arith, live-dead dead m e)) (λ e. omega (arith, live-suc dead m e))

live_mono : (dead : ℕ → Bool) (i m : ℕ) → i ≤ m → live dead i ≤ live dead m
live_mono dead i m h = le_ind {n = i} (λ m. live dead i ≤ live dead m) (omega arith) (λ m hm ih. omega (arith, live_grows dead m)) m h

-- a place that is not dead counts
live-step : (dead : ℕ → Bool) (i m : ℕ) → i < m → dead m ≡ false → live dead i < live dead m
live-step dead i zero h e = absurd (omega arith)
live-step dead i (suc m) h e = omega (arith, live-suc dead m e, live_mono dead i m (omega arith))

live-le : (dead : ℕ → Bool) (m : ℕ) → live dead m ≤ m
live-le dead zero = omega arith
live-le dead (suc m) = let h = live-le dead m in bool_cases (dead (suc m)) (λ e. omega (arith, live-dead dead m e)) (λ e. omega (arith, live-suc dead m e))

mark-same : (dead : ℕ → Bool) (i : ℕ) → mark dead i i ≡ true
mark-same dead i = rw (eqb_eq i i refl)

-- marking a place changes no other
pub mark-other : (dead : ℕ → Bool) (i j : ℕ) → (j ≡ i → ⊥) → mark dead i j ≡ dead j
mark-other dead i j h = rw (eqb_ne j i h)

live_mark_below : (dead : ℕ → Bool) (i m : ℕ) → m < i → live (mark dead i) m ≡ live dead m
live_mark_below dead i zero h = refl
live_mark_below dead i (suc m) h = go (live_mark_below dead i m (omega arith))
  where
    o : mark dead i (suc m) ≡ dead (suc m)
    o = mark-other dead i (suc m) (λ e. omega arith)

    go : live (mark dead i) m ≡ live dead m → live (mark dead i) (suc m) ≡ live dead (suc m)
    go ih = bool_cases (dead (suc m))
        (λ e. live-dead (mark dead i) m (o ∙ e) ∙ ih ∙ sym (live-dead dead m e))
        (λ e. live-suc (mark dead i) m (o ∙ e) ∙ ap suc ih ∙ sym (live-suc dead m e))

-- marking a place leaves one place less
live-mark : (dead : ℕ → Bool) (i m : ℕ) → 0 < i → i ≤ m → dead i ≡ false → suc (live (mark dead i) m) ≡ live dead m
live-mark dead i zero h hm e = absurd (omega arith)
live-mark dead i (suc m) h hm e = ⊎_elim here (λ l. go (omega arith) (live-mark dead i m h (omega arith) e)) (eq-or-lt_of_le hm)
  where
    here : i ≡ suc m → suc (live (mark dead i) (suc m)) ≡ live dead (suc m)
    here p =
        let e' : dead (suc m) ≡ false = rw p at e in
        let d : mark dead i (suc m) ≡ true = ap (mark dead i) (sym p) ∙ mark-same dead i in
        omega (arith, live-suc dead m e', live-dead (mark dead i) m d, live_mark_below dead i m (omega arith))

    go : i ≤ m → suc (live (mark dead i) m) ≡ live dead m → suc (live (mark dead i) (suc m)) ≡ live dead (suc m)
    go l ih =
        let o : mark dead i (suc m) ≡ dead (suc m) = mark-other dead i (suc m) (λ e. omega arith) in
        bool_cases (dead (suc m))
        (λ f. omega (arith, live-dead dead m f, live-dead (mark dead i) m (o ∙ f)))
        (λ f. omega (arith, live-suc dead m f, live-suc (mark dead i) m (o ∙ f)))

module _ (D : Dictionary) where
  -- no code of a stack ends at a dead place
  abbrev pub AllLive : List ℕ → (ℕ → Bool) → Type 0
  AllLive [] dead = Unit {0}
  AllLive (c ∷ K) dead = (dead (place D (c ∷ K)) ≡ false) × AllLive K dead

  -- marking a place behind a stack leaves it so
  pub alive-mark : (i : ℕ) (dead : ℕ → Bool) (K : List ℕ) → place D K < i → AllLive K dead → AllLive K (mark dead i)
  alive-mark i dead [] h a = tt
  alive-mark i dead (c ∷ K) h a = (mark-other dead i (place D (c ∷ K)) (λ e. omega arith) ∙ a.0, alive-mark i dead K (omega arith) a.1)

  module _ (t : List ℕ) where
    -- twice the places that are not dead, less the codes of the stack
    unfoldable pub steps_left : List ℕ → (ℕ → Bool) → ℕ
    steps_left K dead = 2 * live dead (length t) - length K

    pub steps_left-le : (K : List ℕ) (dead : ℕ → Bool) → steps_left K dead ≤ 2 * length t
    unfolding steps_left
    steps_left-le K dead = omega (arith, live-le dead (length t))

  module _ (filled : (c : ℕ) → 0 < length (D.bytes c)) where
    -- a stack has no more codes than bytes
    pub stack-place : (K : List ℕ) → length K ≤ place D K
    stack-place [] = omega arith
    stack-place (c ∷ K) = omega (arith, stack-place K, filled c)

    stack-live : (K : List ℕ) (dead : ℕ → Bool) → AllLive K dead → length K ≤ live dead (place D K)
    stack-live [] dead a = omega arith
    stack-live (c ∷ K) dead a = omega (arith, stack-live K dead a.1, live-step dead (place D K) (place D (c ∷ K)) (omega (arith, filled c)) a.0)

    module _ (t : List ℕ) (c : ℕ) (K : List ℕ) (dead : ℕ → Bool) (a : AllLive (c ∷ K) dead) (h : place D (c ∷ K) ≤ length t) where
      room : length (c ∷ K) ≤ live dead (length t)
      room = omega (arith, stack-live (c ∷ K) dead a, live_mono dead (place D (c ∷ K)) (length t) h)

      -- a code is added
      pub added-falls : suc (steps_left t (c ∷ K) dead) ≡ steps_left t K dead
      unfolding steps_left
      added-falls = omega (arith, room)

      -- a code is taken back
      pub taken-falls : suc (steps_left t K (mark dead (place D (c ∷ K)))) ≡ steps_left t (c ∷ K) dead
      unfolding steps_left
      taken-falls = omega (arith, room, live-mark dead (place D (c ∷ K)) (length t) (omega (arith, filled c)) h a.0)
