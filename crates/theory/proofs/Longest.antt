-- The longest row at the front of a text: there is one where the first byte has a row, and behind it in the list of rows stand its prefixes.
use mathlib.Core.Path.{◌≡◌, refl, sym, ap, ◌∙◌}
use mathlib.Core.Logic.{inl, ⊎_elim}
use mathlib.Core.List.{List, [], ◌∷◌, ◌++◌}
use Prim.Native.Nat.{ℕ, zero, suc, ◌-◌, ◌≤◌, ◌<◌}
use native.Mathlib.Omega.{arith}
use lib.ListN.{length, length-append, drop}
use lib.Seq.{drop_at}
use Rattle.theory.specs.Dictionary.{Dictionary, KnownText, none}
use Rattle.theory.specs.Lists.{first_or, In}
use Rattle.theory.specs.Parts.{rows_up_to, rows_at, longest_at, prefixes}
use Rattle.theory.proofs.PairCheck.{Lawful}
use Rattle.theory.proofs.RowsAt.{different, filled, rows-known, rows-begin, rows_short, rows-every, rows-chain, rows-some}
use Rattle.theory.proofs.ShortestLists.{Falling}

module _ (D : Dictionary) where
  -- the number of a row's bytes
  abbrev pub row_length : ℕ → ℕ
  row_length c = length (D.bytes c)

  pub known-drop : (i : ℕ) (t : List ℕ) → KnownText D t → KnownText D (drop i t)
  known-drop zero t k = k
  known-drop (suc i) [] k = tt
  known-drop (suc i) (b ∷ t) k = known-drop i t k.1

  -- a row that begins t and is the longest such row
  pub record Longest (t : List ℕ) (c : ℕ) : Type 0 where
    pub known : c < D.count
    pub begins : t ≡ D.bytes c ++ drop (row_length c) t
    pub longest : (d : ℕ) (r : List ℕ) → d < D.count → t ≡ D.bytes d ++ r → row_length d ≤ row_length c

  -- what is behind a row that begins t
  pub rest-is : (t : List ℕ) (c : ℕ) (r : List ℕ) → t ≡ D.bytes c ++ r → r ≡ drop (row_length c) t
  rest-is t c r e = sym (ap (drop (row_length c)) e ∙ drop_at (D.bytes c) r (row_length c) refl)

  module _ (A : Lawful D) where
    -- a row in the list of the rows that begin t
    pub row-begins : (t : List ℕ) (c : ℕ) → In c (rows_at D t) → t ≡ D.bytes c ++ drop (row_length c) t
    row-begins t c m = let b = rows-begin D (length t) t c m in b.1 ∙ ap (λ (r : List ℕ). D.bytes c ++ r) (rest-is t c b.0 b.1)

    falling : (cs : List ℕ) (l : ℕ) (t : List ℕ) → l ≤ length t → rows_up_to D l t ≡ cs → Falling row_length cs
    falling [] l t h e = tt
    falling (c ∷ cs) l t h e =
        let q : cs ≡ prefixes D c = rows-chain D l t c cs h e in (
          (λ d m. let s = rows_short D (row_length c - 1) (D.bytes c) d (rw q at m) in omega (arith, filled D A c)),
          falling cs (row_length c - 1) (D.bytes c) (omega arith) (sym q),
        )

    -- each of the rows that begin t is longer than those behind it
    pub rows-falling : (t : List ℕ) → Falling row_length (rows_at D t)
    rows-falling t = falling (rows_at D t) (length t) t (omega arith) refl

    -- where the first byte has a row, the longest row is there
    pub rows-front : (t : List ℕ) → KnownText D t → 0 < length t → rows_at D t ≡ longest_at D t ∷ prefixes D (longest_at D t)
    unfolding longest_at
    rows-front [] k h = absurd (omega arith)
    rows-front (b ∷ t) k h = go (rows_at D (b ∷ t)) refl (rows-some D A b t k.0)
      where
        go : (cs : List ℕ) → rows_at D (b ∷ t) ≡ cs → In (D.code b) cs → rows_at D (b ∷ t) ≡ first_or none (rows_at D (b ∷ t)) ∷ prefixes D (first_or none (rows_at D (b ∷ t)))
        go [] e m = absurd m
        go (c ∷ cs) e m = rw e (ap (λ (l : List ℕ). c ∷ l) (rows-chain D (length (b ∷ t)) (b ∷ t) c cs (omega arith) e))

    first-longest : (c : ℕ) (cs : List ℕ) (d : ℕ) → Falling row_length (c ∷ cs) → In d (c ∷ cs) → row_length d ≤ row_length c
    first-longest c cs d w m = ⊎_elim (λ e. omega (arith, ap row_length e)) (λ n. let l = w.0 d n in omega arith) m

    pub longest-at : (t : List ℕ) → KnownText D t → 0 < length t → Longest t (longest_at D t)
    longest-at t k h =
        let e = rows-front t k h in
        let m : In (longest_at D t) (rows_at D t) = rw e (inl refl) in
        record {
          known = rows-known D (length t) t (longest_at D t) m;
          begins = row-begins t (longest_at D t) m;
          longest = λ d r n q. first-longest (longest_at D t) (prefixes D (longest_at D t)) d (rw e at (rows-falling t))
              (rw e at (rows-every D (different D A) (length t) t d r n q (omega (arith, ap length q, length-append (D.bytes d) r))));
        }
