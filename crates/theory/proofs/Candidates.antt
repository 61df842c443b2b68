-- The rows that are tried at a place: the first that fits, and that behind each row stand its prefixes.
use mathlib.Core.Path.{◌≡◌, refl, sym, ap, ◌∙◌}
use mathlib.Core.Logic.{◌⊎◌, inl, inr, ⊎_elim}
use mathlib.Core.List.{List, [], ◌∷◌, ◌++◌}
use mathlib.Core.Option.{none, some}
use mathlib.Core.Bool.{Bool, true, false, not, ◌&&◌}
use Prim.Native.Nat.{ℕ, ◌-◌}
use native.Mathlib.Omega.{arith}
use lib.ListN.{length}
use Rattle.theory.specs.Lists.{In}
use Rattle.theory.specs.Dictionary.{Dictionary}
use Rattle.theory.specs.Parts.{rows_at, prefixes}
use Rattle.theory.specs.Backtracking.{place, follows, first_fit}
use Rattle.theory.proofs.PairCheck.{Lawful}
use Rattle.theory.proofs.RowsAt.{rows-chain}

pub in_append : (d : ℕ) (X Y : List ℕ) → In d (X ++ Y) → In d X ⊎ In d Y
in_append d [] Y m = inr m
in_append d (x ∷ X) Y (inl e) = inl (inl e)
in_append d (x ∷ X) Y (inr m) = ⊎_elim (λ n. inl (inr n)) inr (in_append d X Y m)

pub in_mid : (X : List ℕ) (c : ℕ) (Y : List ℕ) → In c (X ++ c ∷ Y)
in_mid [] c Y = inl refl
in_mid (x ∷ X) c Y = inr (in_mid X c Y)

module _ (D : Dictionary) where
  -- a row passes with the code before, and its end is not dead
  abbrev pub fits : List ℕ → (ℕ → Bool) → ℕ → Bool
  fits K dead c = follows D K c && not (dead (place D (c ∷ K)))

  pub fits-later : (K : List ℕ) (dead : ℕ → Bool) (c : ℕ) (cs : List ℕ) → fits K dead c ≡ false → first_fit D K dead (c ∷ cs) ≡ first_fit D K dead cs
  fits-later K dead c cs e = rw (e, first_fit)

  pub fits-first : (K : List ℕ) (dead : ℕ → Bool) (c : ℕ) (cs : List ℕ) → fits K dead c ≡ true → first_fit D K dead (c ∷ cs) ≡ some c
  fits-first K dead c cs e = rw (e, first_fit)

  -- the first row that fits, between those before it, which do not, and the others
  pub record First (K : List ℕ) (dead : ℕ → Bool) (cs : List ℕ) (c : ℕ) : Type 0 where
    pub before : List ℕ
    pub after : List ℕ
    pub split : cs ≡ before ++ c ∷ after
    pub fit : fits K dead c ≡ true
    pub skipped : (d : ℕ) → In d before → fits K dead d ≡ false

  pub first_some : (K : List ℕ) (dead : ℕ → Bool) (cs : List ℕ) (c : ℕ) → first_fit D K dead cs ≡ some c → First K dead cs c
  first_some K dead [] c e = absurd (let z : ◌≡◌ {A = ℕ} 0 1 = cc in omega arith)
  first_some K dead (x ∷ cs) c e = go (fits K dead x) refl (first_some K dead cs c)
    where
      go : (b : Bool) → fits K dead x ≡ b → (first_fit D K dead cs ≡ some c → First K dead cs c) → First K dead (x ∷ cs) c
      go true f ih =
          let e' : some x ≡ some c = sym (fits-first K dead x cs f) ∙ e in
          let p : x ≡ c = cc in
          record { before = []; after = cs; split = ap (λ (z : ℕ). z ∷ cs) p; fit = rw (← p) f; skipped = λ d m. absurd m }
      go false f ih =
          let q = ih (sym (fits-later K dead x cs f) ∙ e) in
          record {
            before = x ∷ q.before;
            after = q.after;
            split = ap (λ (l : List ℕ). x ∷ l) q.split;
            fit = q.fit;
            skipped = λ d m. ⊎_elim (λ p. rw p f) (q.skipped d) m;
          }

  pub first-none : (K : List ℕ) (dead : ℕ → Bool) (cs : List ℕ) → first_fit D K dead cs ≡ none → (d : ℕ) → In d cs → fits K dead d ≡ false
  first-none K dead [] e d m = absurd m
  first-none K dead (x ∷ cs) e d m = go (fits K dead x) refl (first-none K dead cs) m
    where
      go : (b : Bool) → fits K dead x ≡ b → (first_fit D K dead cs ≡ none → (d : ℕ) → In d cs → fits K dead d ≡ false) → In d (x ∷ cs) → fits K dead d ≡ false
      go true f ih m = absurd (let e' : some x ≡ none = sym (fits-first K dead x cs f) ∙ e in let z : ◌≡◌ {A = ℕ} 0 1 = cc in omega arith)
      go false f ih (inl p) = rw p f
      go false f ih (inr m) = ih (sym (fits-later K dead x cs f) ∙ e) d m

  -- a row and then its prefixes, or nothing
  abbrev pub Chain : List ℕ → Type 0
  Chain [] = Unit {0}
  Chain (c ∷ cs) = cs ≡ prefixes D c

  module _ (A : Lawful D) where
    -- the prefixes of a row are such a chain
    pub chain-tail : (c : ℕ) (cs : List ℕ) → Chain (c ∷ cs) → Chain cs
    chain-tail c [] e = tt
    chain-tail c (d ∷ cs) e = rows-chain D (length (D.bytes c) - 1) (D.bytes c) d cs (omega arith) (sym e)

    pub chain-after : (X : List ℕ) (c : ℕ) (cs : List ℕ) → Chain (X ++ c ∷ cs) → cs ≡ prefixes D c
    chain-after [] c cs e = e
    chain-after (x ∷ X) c cs e = chain-after X c cs (chain-tail x (X ++ c ∷ cs) e)

    -- so are all rows that start a text
    pub chain-rows : (t : List ℕ) → Chain (rows_at D t)
    chain-rows t = go (rows_at D t) refl
      where
        go : (cs : List ℕ) → rows_at D t ≡ cs → Chain cs
        go [] e = tt
        go (c ∷ cs) e = rows-chain D (length t) t c cs (omega arith) e
