-- From the descent in the rows' part to the lookups' answers. Assumes nothing.
use mathlib.Core.Path.{◌≡◌, refl, sym, ap, ◌∙◌}
use mathlib.Core.List.{List, ◌++◌}
use mathlib.Core.Logic.{inl, inr, ⊎_elim}
use mathlib.Core.Bool.{Bool}
use Prim.Native.Nat.{ℕ, ◌+◌, ◌<◌}
use native.Mathlib.Omega.{arith}
use lib.ListN.{length, length-append}
use borrow.Author.Tests.{lt-ltb, ltb-true}
use Rattle.theory.specs.Dictionary.{none}
use Rattle.placed_rows.specs.Rows.{row}
use Rattle.placed_rows.specs.Texts.{Begins}
use Rattle.placed_rows.specs.Longest.{Below, Known, Longest}
use Rattle.placed_rows.proofs.Beginning.{begins-length, same_length, whole}
use Rattle.forest.specs.Words.{In, Indexed}
use Rattle.forest.specs.Lookups.{At, Descent}
use Rattle.forest.proofs.NoChild.{filled}
use Rattle.forest.proofs.Marking.{front_indexed}
use Rattle.search_area.specs.Area.{all_rows, Whole, Finds}
use Rattle.search_area.specs.Answers.{NextMatch, RowIs, Found}

-- the rows are listed in the area itself, whose other numbers do not count
pub front-index : (file places : List ℕ) (n : ℕ) (area : List ℕ) → Finds file places n area → Indexed (row file places n) n area (all_rows n)
unfolding Finds
front-index file places n area F = front_indexed (row file places n) n area (all_rows n) F.0

-- each byte has a row, and no row is longer than 64 bytes
pub finds-whole : (file places : List ℕ) (n : ℕ) (area : List ℕ) → Finds file places n area → Whole (row file places n) n
unfolding Finds
finds-whole file places n area F = F.1

-- the rows of the index are the rows below n
pub below_in : (n d : ℕ) → d < n → In (all_rows n) d
below_in n d h = lt-ltb d n h

in_below : (n d : ℕ) → In (all_rows n) d → d < n
in_below n d s = ltb-true d n s

known-below : (n d : ℕ) → Known (In (all_rows n)) d → Known (Below n) d
known-below n d (inl e) = inl e
known-below n d (inr s) = inr (in_below n d s)

-- none is where a descent starts
abbrev at_none : (R : ℕ → List ℕ) (n : ℕ) (area : List ℕ) (S : ℕ → Bool) → Indexed R n area S → At R n area S none 0
at_none R n area S I = record { index = I; known = inl refl; size = sym (ap length I.forest.root) }

longest-below : (R : ℕ → List ℕ) (n : ℕ) (t : List ℕ) (r : ℕ) → Longest R (In (all_rows n)) t r → Longest R (Below n) t r
longest-below R n t r L = record {
  known = known-below n r L.known;
  begins = L.begins;
  longest = λ d h. L.longest d (below_in n d h);
}

-- what a descent in the rows' part has found
module _ (R : ℕ → List ℕ) (n : ℕ) (area : List ℕ) (from len : ℕ) (t full : List ℕ) (r l : ℕ) (D : Descent R n area from len t r l) (e : R from ++ t ≡ full)
    (a : At R n area (all_rows n) from len) where
  pub longest-full : Longest R (Below n) full r × (l ≡ length (R r))
  longest-full = let q = D.longest (all_rows n) a in (rw e at (longest-below R n (R from ++ t) r q.0), q.1)

  full-length : length full ≡ len + length t
  full-length = sym (ap length e) ∙ length-append (R from) t ∙ ap (λ (k : ℕ). k + length t) (sym a.size)

  pub found-hit : l ≡ len + length t → RowIs R n full r
  found-hit h =
      let L = longest-full in
      let f = full-length in
      record {
        is = λ ne. (⊎_elim (λ z. absurd (ne z)) (λ z. z) L.0.known, same_length (R r) full L.0.begins (omega (arith, L.1)));
        all = λ z d k q. omega (arith, filled R a.index.par (In (all_rows n)) a.index.forest d (below_in n d k), ap length q, L.1, ap (λ (i : ℕ). length (R i)) z, ap length a.index.forest.root);
      }

  pub found_miss : (l ≡ len + length t → ⊥) → RowIs R n full none
  found_miss h =
      let L = longest-full in
      let f = full-length in
      record {
        is = λ ne. absurd (ne refl);
        all = λ _ d k q.
            let b : Begins (R d) full = rw q (whole full) in
            h (omega (arith, L.1, L.0.longest d k b, begins-length (R r) full L.0.begins, ap length q));
      }

module _ (file places : List ℕ) (n : ℕ) (area : List ℕ) where
  abbrev R : ℕ → List ℕ
  R = row file places n

  abbrev D : ℕ → ℕ → List ℕ → ℕ → ℕ → Type 0
  D from len t r l = Descent R n area from len t r l

  pub next_match : (t : List ℕ) (r l : ℕ) → D none 0 t r l → NextMatch file places n area t r l
  next_match t r l d = record {
    bound = d.bound;
    room = let z = d.room in omega arith;
    longest = λ F. let I = front-index file places n area F in
        longest-full R n area none 0 t t r l d (rw I.forest.root) (at_none R n area (all_rows n) I);
  }

  pub find-hit : (t : List ℕ) (r l : ℕ) → D none 0 t r l → l ≡ length t → Found file places n area t r
  find-hit t r l d h = record {
    bound = ⊎_elim (λ z. inl z.0) (λ z. inr z.0) d.bound;
    found = λ F. let I = front-index file places n area F in
        found-hit R n area none 0 t t r l d (rw I.forest.root) (at_none R n area (all_rows n) I) (omega arith);
  }

  pub find_miss : (t : List ℕ) (r l : ℕ) → D none 0 t r l → (l ≡ length t → ⊥) → Found file places n area t none
  find_miss t r l d h = record {
    bound = inl refl;
    found = λ F. let I = front-index file places n area F in
        found_miss R n area none 0 t t r l d (rw I.forest.root) (at_none R n area (all_rows n) I) (λ z. h (omega arith));
  }

  module _ (x y len : ℕ) (t : List ℕ) (r l : ℕ) (d : D x len t r l) (X : x < n) (e : t ≡ R y) (k : len ≡ length (R x)) where
    at_x : (I : Indexed R n area (all_rows n)) → At R n area (all_rows n) x len
    at_x I = record { index = I; known = inr (below_in n x X); size = k }

    pub join-hit : l ≡ len + length t → Found file places n area (R x ++ R y) r
    join-hit h = record {
      bound = inr (⊎_elim (λ z. let q = z.0 in omega arith) (λ z. z.0) d.bound);
      found = λ F. found-hit R n area x len t (R x ++ R y) r l d (ap (λ (z : List ℕ). R x ++ z) e) (at_x (front-index file places n area F)) h;
    }

    pub join_miss : (l ≡ len + length t → ⊥) → Found file places n area (R x ++ R y) none
    join_miss h = record {
      bound = inl refl;
      found = λ F. found_miss R n area x len t (R x ++ R y) r l d (ap (λ (z : List ℕ). R x ++ z) e) (at_x (front-index file places n area F)) h;
    }
