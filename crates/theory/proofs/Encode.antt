-- What the encoders rest on, in terms of the merge procedure: its codes spell the text, a part of them is the codes of what it spells,
-- and one more code at the end or at the front.
use mathlib.Core.Path.{◌≡◌, sym, ap, ◌∙◌}
use mathlib.Core.Logic.{◌⊎◌, inl, inr}
use mathlib.Core.List.{List, [], ◌∷◌, ◌++◌}
use mathlib.Core.Bool.{true}
use Prim.Native.Nat.{ℕ, ◌<◌}
use Rattle.theory.specs.Lists.{first_or, last_or}
use Rattle.theory.specs.Dictionary.{Dictionary, spell, AllRows, KnownText}
use Rattle.theory.specs.Merge.{encode}
use Rattle.theory.specs.PairCheck.{passes, AllPass}
use Rattle.theory.proofs.Lists.{nil-cons}
use Rattle.theory.proofs.Stage as St
use Rattle.theory.proofs.PairCheck.{Lawful, passes↔pair, itself, stage-rows, stage-checked, checked-unique}
use Rattle.theory.proofs.Merge.{merge_is_stage}
use Rattle.theory.proofs.Neighbours.{Follows, Leads, append-code, prepend-code}

module _ (D : Dictionary) (A : Lawful D) where
  pub encode-spells : (t : List ℕ) → spell D (encode D t) ≡ t
  encode-spells t = ap (spell D) (merge_is_stage D A t) ∙ St.spell-stage D A.laws D.count t

  pub encode-rows : (t : List ℕ) → KnownText D t → AllRows D (encode D t)
  encode-rows t k = rw (merge_is_stage D A t) (stage-rows D A D.count t k)

  -- all neighbours of its codes pass, and no other code list of that kind spells the text
  pub encode-passes : (t : List ℕ) → KnownText D t → AllPass D (encode D t)
  encode-passes t k = rw (merge_is_stage D A t) (stage-checked D A t k)

  pub encode-only : (L : List ℕ) → AllPass D L → encode D (spell D L) ≡ L
  encode-only L p = merge_is_stage D A (spell D L) ∙ checked-unique D A L p

  pub encode-nil : encode D [] ≡ []
  encode-nil = merge_is_stage D A [] ∙ St.stage-nil D A.laws D.count

  -- a row encodes to itself
  pub encode-row : (c : ℕ) → c < D.count → encode D (D.bytes c) ≡ c ∷ []
  encode-row c h = merge_is_stage D A (D.bytes c) ∙ itself D A c D.count h (λ _. h)

  -- C1
  pub encode-parts : (t X Y : List ℕ) → encode D t ≡ X ++ Y → (encode D (spell D X) ≡ X) × (encode D (spell D Y) ≡ Y)
  encode-parts t X Y e =
      let p = St.project D A.laws D.count t X Y (sym (merge_is_stage D A t) ∙ e) in
      (merge_is_stage D A (spell D X) ∙ p.0, merge_is_stage D A (spell D Y) ∙ p.1)

  last_row : (x : ℕ) (X : List ℕ) → AllRows D (x ∷ X) → last_or x X < D.count
  last_row x [] a = a.0
  last_row x (y ∷ X) a = last_row y X a.1

  follows_of : (S : List ℕ) (c : ℕ) → AllRows D S → c < D.count → (S ≡ []) ⊎ (passes D D.count (last_or c S) c ≡ true) → Follows D D.count S c
  follows_of [] c a h f = tt
  follows_of (x ∷ X) c a h (inl e) = absurd (nil-cons (sym e))
  follows_of (x ∷ X) c a h (inr e) = (passes↔pair D A (last_or x X) c (last_row x X a) h).0 e

  leads_of : (c : ℕ) (S : List ℕ) → AllRows D S → c < D.count → (S ≡ []) ⊎ (passes D D.count c (first_or c S) ≡ true) → Leads D D.count c S
  leads_of c [] a h f = tt
  leads_of c (x ∷ X) a h (inl e) = absurd (nil-cons (sym e))
  leads_of c (x ∷ X) a h (inr e) = (passes↔pair D A c x h a.0).0 e

  none_of : (a : List ℕ) {P : Type 0} → (a ≡ []) ⊎ P → (encode D a ≡ []) ⊎ P
  none_of a (inl e) = inl (ap (encode D) e ∙ encode-nil)
  none_of a (inr p) = inr p

  -- C2
  pub encode-append : (a : List ℕ) (c : ℕ) → KnownText D a → c < D.count → (a ≡ []) ⊎ (passes D D.count (last_or c (encode D a)) c ≡ true)
      → encode D (a ++ D.bytes c) ≡ encode D a ++ c ∷ []
  encode-append a c k h f =
      merge_is_stage D A (a ++ D.bytes c)
      ∙ append-code D A.laws D.count a c (itself D A c D.count h (λ _. h))
      (rw (← merge_is_stage D A a) (follows_of (encode D a) c (encode-rows a k) h (none_of a f)))
      ∙ ap (λ (S : List ℕ). S ++ c ∷ []) (sym (merge_is_stage D A a))

  -- C2, mirrored
  pub encode-prepend : (c : ℕ) (a : List ℕ) → KnownText D a → c < D.count → (a ≡ []) ⊎ (passes D D.count c (first_or c (encode D a)) ≡ true)
      → encode D (D.bytes c ++ a) ≡ c ∷ encode D a
  encode-prepend c a k h f =
      merge_is_stage D A (D.bytes c ++ a)
      ∙ prepend-code D A.laws D.count c a (itself D A c D.count h (λ _. h))
      (rw (← merge_is_stage D A a) (leads_of c (encode D a) (encode-rows a k) h (none_of a f)))
      ∙ ap (λ (S : List ℕ). c ∷ S) (sym (merge_is_stage D A a))
