-- One pass over codes, two of which are joined before. Assumes nothing.
use mathlib.Core.Path.{◌≡◌, refl, sym, ap, ◌∙◌}
use mathlib.Core.List.{List, [], ◌∷◌, ◌++◌}
use mathlib.Core.Bool.{Bool, true, false}
use Prim.Native.Nat.{ℕ, zero, suc}
use Rattle.theory.specs.Lists.{last_or}
use Rattle.theory.specs.Dictionary.{Dictionary}
use Rattle.theory.specs.Merge.{byte_codes}
use Rattle.theory.specs.Paper.{pass, listed, stage}
use Rattle.theory.proofs.Pass.{pass-hit, pass_miss}
use Rattle.merge_encoder.specs.Steps.{passed_below}

-- p meets nothing, on neither side
module _ (p : ℕ) (meets : ℕ → ℕ → Bool) (left : (y : ℕ) → meets p y ≡ false) (right : (x : ℕ) → meets x p ≡ false) where
  pass-first : (B : List ℕ) → pass p meets (p ∷ B) ≡ p ∷ pass p meets B
  pass-first [] = refl
  pass-first (b ∷ B) = pass_miss p meets p b B (left b)

  module _ (x y : ℕ) (hit : meets x y ≡ true) (B : List ℕ) where
    -- the last of a list's rest does not meet x, nor does p
    rest-last : (a b : ℕ) (A : List ℕ) → meets (last_or p (a ∷ b ∷ A)) x ≡ false → meets (last_or p A) x ≡ false
    rest-last a b [] h = left x
    rest-last a b (c ∷ A) h = h

    -- two codes that meet may be joined before the pass, where the code before does not meet the first of them
    pub pass-joined : (A : List ℕ) → meets (last_or p A) x ≡ false → pass p meets (A ++ p ∷ B) ≡ pass p meets (A ++ x ∷ y ∷ B)
    pass-joined [] h = pass-first B ∙ sym (pass-hit p meets x y B hit)
    pass-joined (a ∷ []) h = pass_miss p meets a p B (right a) ∙ ap {B = List ℕ} (λ l. a ∷ l) (pass-joined [] (left x)) ∙ sym (pass_miss p meets a x (y ∷ B) h)
    pass-joined (a ∷ b ∷ A) h = go (meets a b) refl (pass-joined A (rest-last a b A h)) (pass-joined (b ∷ A) h)
      where
        go : (c : Bool) → meets a b ≡ c → pass p meets (A ++ p ∷ B) ≡ pass p meets (A ++ x ∷ y ∷ B) → pass p meets (b ∷ (A ++ p ∷ B)) ≡ pass p meets (b ∷ (A ++ x ∷ y ∷ B))
            → pass p meets (a ∷ b ∷ (A ++ p ∷ B)) ≡ pass p meets (a ∷ b ∷ (A ++ x ∷ y ∷ B))
        go true e f g = pass-hit p meets a b (A ++ p ∷ B) e ∙ ap {B = List ℕ} (λ l. p ∷ l) f ∙ sym (pass-hit p meets a b (A ++ x ∷ y ∷ B) e)
        go false e f g = pass_miss p meets a b (A ++ p ∷ B) e ∙ ap {B = List ℕ} (λ l. a ∷ l) g ∙ sym (pass_miss p meets a b (A ++ x ∷ y ∷ B) e)

-- the stages of a text are the passes over the codes of its bytes
pub passed-stage : (D : Dictionary) (p : ℕ) (t : List ℕ) → passed_below D p (byte_codes D t) ≡ stage D p t
passed-stage D zero t = refl
passed-stage D (suc p) t = ap (pass p (listed D p)) (passed-stage D p t)
