-- The records of a phrase file follow each other: laws of the places from an offset on, by induction along the records. Assumes nothing.
use mathlib.Core.Path.{◌≡◌, ap}
use mathlib.Core.List.{List, ◌∷◌}
use mathlib.Core.Logic.{⊎_elim}
use Prim.Native.Nat.{ℕ, zero, suc, ◌+◌, ◌<◌, ◌≤◌}
use native.Mathlib.Omega.{arith}
use lib.ListN.{length, get_or}
use Rattle.phrase_file.specs.Form.{row_length, places_from, end_after}
use Rattle.phrase_file.proofs.Places.{Row, step, along}

module _ (file : List ℕ) where
  -- records stand at these places, none before an offset
  abbrev pub Placed : ℕ → List ℕ → Type 0
  Placed at ps = (i : ℕ) → i < length ps → (at ≤ get_or ps i 0) × (0 < row_length file (get_or ps i 0))

  -- each of these places comes after the records before it
  abbrev pub Rising : List ℕ → Type 0
  Rising ps = (i j : ℕ) → i < j → j < length ps → get_or ps i 0 + 3 + row_length file (get_or ps i 0) ≤ get_or ps j 0

  -- after each of these records comes the next, and `end` after the last
  abbrev pub Joined : List ℕ → ℕ → Type 0
  Joined ps end = (i : ℕ) → i < length ps → get_or ps (suc i) end ≡ get_or ps i 0 + 3 + row_length file (get_or ps i 0)

  pub placed-from : (at : ℕ) → Placed at (places_from file at)
  placed-from =
      along file (λ at. Placed at (places_from file at))
      (λ at n. rw n.places_are (λ i h. absurd (omega arith)))
      (λ at m r ih. rw r.places_are (more at m r ih))
    where
      more : (at m : ℕ) → Row file at m → Placed (at + 3 + m) (places_from file (at + 3 + m)) → Placed at (at ∷ places_from file (at + 3 + m))
      more at m r ih zero h = (omega arith, omega (arith, r.size, r.some))
      more at m r ih (suc i) h = let q = ih i (omega arith) in (omega (arith, q.0), q.1)

  pub rising-from : (at : ℕ) → Rising (places_from file at)
  rising-from =
      along file (λ at. Rising (places_from file at))
      (λ at n. rw n.places_are (λ i j l h. absurd (omega arith)))
      (λ at m r ih. rw r.places_are (more at m r ih))
    where
      more : (at m : ℕ) → Row file at m → Rising (places_from file (at + 3 + m)) → Rising (at ∷ places_from file (at + 3 + m))
      more at m r ih zero zero l h = absurd (omega arith)
      more at m r ih zero (suc j) l h = omega (arith, (placed-from (at + 3 + m) j (omega arith)).0, r.size)
      more at m r ih (suc i) zero l h = absurd (omega arith)
      more at m r ih (suc i) (suc j) l h = ih i j (omega arith) (omega arith)

  pub first-from : (at : ℕ) → get_or (places_from file at) 0 (end_after file at (places_from file at)) ≡ at
  unfolding end_after
  first-from at = ⊎_elim (λ n. rw n.places_are) (λ r. rw r.places_are) (step file at)

  pub joined-from : (at : ℕ) → Joined (places_from file at) (end_after file at (places_from file at))
  joined-from =
      along file (λ at. Joined (places_from file at) (end_after file at (places_from file at)))
      (λ at n i h. absurd (omega (arith, ap length n.places_are)))
      (λ at m r ih. rw (r.end_is, r.places_are) (more at m r ih))
    where
      more : (at m : ℕ) → Row file at m
          → Joined (places_from file (at + 3 + m)) (end_after file (at + 3 + m) (places_from file (at + 3 + m)))
          → Joined (at ∷ places_from file (at + 3 + m)) (end_after file (at + 3 + m) (places_from file (at + 3 + m)))
      more at m r ih zero h = omega (arith, first-from (at + 3 + m), r.size)
      more at m r ih (suc i) h = ih i (omega arith)

  -- the records end inside the file
  pub end-from : (at : ℕ) → at ≤ length file → end_after file at (places_from file at) ≤ length file
  end-from =
      along file (λ at. at ≤ length file → end_after file at (places_from file at) ≤ length file)
      (λ at n h. omega (arith, n.end_is))
      (λ at m r ih h. rw r.end_is (ih r.inside))
