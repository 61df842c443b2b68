-- The rows that begin a text are tried, shortest first, and the best so far is kept: the one with the fewest codes, of equals the longest. Assumes nothing.
use mathlib.Core.Path.{◌≡◌, ap}
use mathlib.Core.List.{List}
use Prim.Native.Nat.{ℕ, ◌≤◌, ◌<◌}
use native.Mathlib.Decide.{dec_lt}
use native.Mathlib.Omega.{arith}
use lib.ListN.{length}
use Rattle.theory.specs.Dictionary.{none}
use Rattle.placed_rows.specs.Texts.{Begins}
use Rattle.search_area.specs.Answers.{Reached, Longer}
use Rattle.shortest_encoder.proofs.Rising.{reached-more}

-- rows R, n of them, at the front of t; a row of l bytes makes g l codes
module _ (R : ℕ → List ℕ) (n : ℕ) (t : List ℕ) (g : ℕ → ℕ) where
  -- row p, of len bytes, is reached; of the rows up to it, best is the best one, with count codes
  pub record Best (count best p len : ℕ) : Type 0 where
    pub reached : Reached R n t p len
    pub begins : Begins (R best) t
    pub is : count ≡ g (length (R best))
    pub size : length (R best) ≤ len
    pub fewest : (d : ℕ) → d < n → Begins (R d) t → length (R d) ≤ len → count ≤ g (length (R d))
    pub longest : (d : ℕ) → d < n → Begins (R d) t → length (R d) ≤ len → g (length (R d)) ≤ count → length (R d) ≤ length (R best)

  -- the first row is the shortest of all
  pub best_first : ((d : ℕ) → d < n → 0 < length (R d)) → (r l : ℕ) → Longer R n t 0 r l → r < n → (r ≡ none → ⊥) → Best (g l) r r l
  best_first filled r l L h ne = record {
    reached = reached-more R n t 0 r l L h ne;
    begins = (L.is ne).0;
    is = ap g (L.is ne).1;
    size = omega (arith, (L.is ne).1);
    fewest = λ d k b s. let z = L.shortest ne d k b (filled d k) in let e : length (R d) ≡ l = omega arith in omega (arith, ap g e);
    longest = λ d k b s f. omega (arith, (L.is ne).1);
  }

  -- a longer row after row p
  module _ (count best p len : ℕ) (B : Best count best p len) (r l : ℕ) (L : Longer R n t len r l) (h : r < n) (ne : r ≡ none → ⊥) where
    -- a row up to this one was tried before, or is as long
    module _ (d : ℕ) (k : d < n) (b : Begins (R d) t) (s : length (R d) ≤ l) where
      as_long : len < length (R d) → g (length (R d)) ≡ g l
      as_long q = let z = L.shortest ne d k b q in let e : length (R d) ≡ l = omega arith in ap g e

      pub lowered : g l ≤ count → g l ≤ g (length (R d))
      lowered q = go (dec_lt len (length (R d)))
        where
          go : Dec (len < length (R d)) → g l ≤ g (length (R d))
          go (yes y) = omega (arith, as_long y)
          go (no y) = omega (arith, B.fewest d k b (omega arith))

      pub fewest-kept : count < g l → count ≤ g (length (R d))
      fewest-kept q = go (dec_lt len (length (R d)))
        where
          go : Dec (len < length (R d)) → count ≤ g (length (R d))
          go (yes y) = omega (arith, as_long y)
          go (no y) = B.fewest d k b (omega arith)

      pub longest-kept : count < g l → g (length (R d)) ≤ count → length (R d) ≤ length (R best)
      longest-kept q f = go (dec_lt len (length (R d)))
        where
          go : Dec (len < length (R d)) → length (R d) ≤ length (R best)
          go (yes y) = absurd (omega (arith, as_long y))
          go (no y) = B.longest d k b (omega arith) f

    -- the longer row has as few codes
    pub best_replaced : g l ≤ count → Best (g l) r r l
    best_replaced q = record {
      reached = reached-more R n t len r l L h ne;
      begins = (L.is ne).0;
      is = ap g (L.is ne).1;
      size = omega (arith, (L.is ne).1);
      fewest = λ d k b s. lowered d k b s q;
      longest = λ d k b s f. omega (arith, (L.is ne).1);
    }

    -- or it has more
    pub best_kept : len < l → count < g l → Best count best r l
    best_kept up q = record {
      reached = reached-more R n t len r l L h ne;
      begins = B.begins;
      is = B.is;
      size = omega (arith, B.size);
      fewest = λ d k b s. fewest-kept d k b s q;
      longest = λ d k b s f. longest-kept d k b s q f;
    }
