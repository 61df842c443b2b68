-- The codes at the live places: of parts of the places, of places that are all live or not live, and of changed bits and codes. Assumes nothing.
use mathlib.Core.Path.{◌≡◌, refl, ap, ◌∙◌}
use mathlib.Core.List.{List, [], ◌∷◌, ◌++◌}
use mathlib.Core.Bool.{Bool, true, false}
use Prim.Native.Nat.{ℕ, zero, suc, ◌+◌, ◌≤◌, ◌<◌}
use native.Mathlib.Omega.{arith}
use lib.ListN.{length, get_or, take, drop}
use lib.Seq.{drop-cons}
use Rattle.merge_encoder.specs.Encoding.{Codes}
use Rattle.merge_encoder.specs.Live.{kept, live}

module _ (bits : ℕ → Bool) (work : List ℕ) where
  pub live-set : (k i : ℕ) → bits i ≡ true → live bits work (suc k) i ≡ get_or work i 0 ∷ live bits work k (suc i)
  live-set k i e = rw (e, kept)

  pub live-clear : (k i : ℕ) → bits i ≡ false → live bits work (suc k) i ≡ live bits work k (suc i)
  live-clear k i e = rw (e, kept)

  -- j places and then k
  pub live-parts : (j k m i : ℕ) → j + k ≡ m → live bits work m i ≡ live bits work j i ++ live bits work k (i + j)
  live-parts zero k m i e =
      let a : m ≡ k = omega arith in
      let b : i + 0 ≡ i = omega arith in
      rw (a, b)
  live-parts (suc j) k zero i e = absurd (omega arith)
  live-parts (suc j) k (suc m) i e = go (bits i) (live-parts j k m (suc i) (omega arith))
    where
      go : (b : Bool) → live bits work m (suc i) ≡ live bits work j (suc i) ++ live bits work k (suc i + j)
          → kept b (get_or work i 0) (live bits work m (suc i)) ≡ kept b (get_or work i 0) (live bits work j (suc i)) ++ live bits work k (i + suc j)
      go true h = let s : suc i + j ≡ i + suc j = omega arith in ap {B = List ℕ} (λ l. get_or work i 0 ∷ l) (h ∙ ap (λ (p : ℕ). live bits work j (suc i) ++ live bits work k p) s)
      go false h = let s : suc i + j ≡ i + suc j = omega arith in h ∙ ap (λ (p : ℕ). live bits work j (suc i) ++ live bits work k p) s

  pub live-none : (k i : ℕ) → ((p : ℕ) → i ≤ p → p < i + k → bits p ≡ false) → live bits work k i ≡ []
  live-none zero i f = refl
  live-none (suc k) i f = live-clear k i (f i (omega arith) (omega arith)) ∙ live-none k (suc i) (λ p a b. f p (omega arith) (omega arith))

  pub live_all : (k i : ℕ) → ((p : ℕ) → i ≤ p → p < i + k → bits p ≡ true) → i + k ≤ length work → live bits work k i ≡ take k (drop i work)
  live_all zero i f h = refl
  live_all (suc k) i f h =
      live-set k i (f i (omega arith) (omega arith))
      ∙ rw (drop-cons work i 0 (omega arith)) (ap {B = List ℕ} (λ l. get_or work i 0 ∷ l) (live_all k (suc i) (λ p a b. f p (omega arith) (omega arith)) (omega arith)))

  pub live-few : (k i : ℕ) → length (live bits work k i) ≤ k
  live-few zero i = omega arith
  live-few (suc k) i = go (bits i) (live-few k (suc i))
    where
      go : (b : Bool) → length (live bits work k (suc i)) ≤ k → length (kept b (get_or work i 0) (live bits work k (suc i))) ≤ suc k
      go true h = omega arith
      go false h = omega arith

  -- codes at all places are codes at the live ones
  pub live-codes : (n k i : ℕ) → ((p : ℕ) → p < i + k → get_or work p 0 < n) → Codes (length (live bits work k i)) (live bits work k i) n
  live-codes n zero i f = λ j h. absurd (omega arith)
  live-codes n (suc k) i f = go (bits i) (live-codes n k (suc i) (λ p h. f p (omega arith)))
    where
      go : (b : Bool) → Codes (length (live bits work k (suc i))) (live bits work k (suc i)) n → Codes (length (kept b (get_or work i 0) (live bits work k (suc i)))) (kept b (get_or work i 0) (live bits work k (suc i))) n
      go true g zero h = f i (omega arith)
      go true g (suc j) h = g j (omega arith)
      go false g j h = g j h

-- bits and codes that are as before
pub live_same : (bits bits' : ℕ → Bool) (work work' : List ℕ) (k i : ℕ)
    → ((p : ℕ) → i ≤ p → p < i + k → bits' p ≡ bits p) → ((p : ℕ) → i ≤ p → p < i + k → get_or work' p 0 ≡ get_or work p 0) → live bits' work' k i ≡ live bits work k i
live_same bits bits' work work' zero i f g = refl
live_same bits bits' work work' (suc k) i f g =
    rw (f i (omega arith) (omega arith), g i (omega arith) (omega arith), live_same bits bits' work work' k (suc i) (λ p a b. f p (omega arith) (omega arith)) (λ p a b. g p (omega arith) (omega arith)))
