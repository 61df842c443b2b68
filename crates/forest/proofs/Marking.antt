-- The area stays in order where its heads, its links and the marks of its rows stay: after a mark more, and behind its own numbers. Assumes nothing.
use mathlib.Core.Path.{◌≡◌, refl, sym, ap, ◌∙◌}
use mathlib.Core.List.{List, ◌∷◌}
use mathlib.Core.Bool.{Bool, true, false}
use Prim.Native.Nat.{ℕ, zero, suc, ◌+◌, ◌/◌, ◌%◌, ◌≤◌, ◌<◌}
use native.Mathlib.Omega.{arith}
use lib.ListN.{length, get_or, take, length-set}
use lib.Seq.{get_or-set_other, get_or-take}
use lib.Dec.{ltb}
use borrow.Author.Tests.{ltb-true}
use Rattle.marks.specs.Marks.{marked, Marks}
use Rattle.marks.proofs.Laws.{marked-same}
use Rattle.forest.specs.Words.{walk, In, count, byte_of, home, Indexed, child_key, marks_from}
use Rattle.forest.proofs.Packing.{bucket_small, key-small}

module _ (area : List ℕ) (k : ℕ) (area' : List ℕ) (m : Marks area marks_from k area') where
  pub length_marked : length area' ≡ length area
  length_marked = ap length m.is ∙ length-set area (marks_from + k / 1024) m.number

module _ (n : ℕ) (area area' : List ℕ) (few : n ≤ 4096) (heads : (h : ℕ) → h < 4352 → get_or area' h 0 ≡ get_or area h 0)
    (links : (i : ℕ) → i < 4096 → get_or area' (8448 + i) 0 ≡ get_or area (8448 + i) 0) where
  same-walk : (j x : ℕ) → walk n area' j x ≡ walk n area j x
  unfolding walk
  same-walk zero x = refl
  same-walk (suc j) x = go (ltb (x % 8192) n) refl (same-walk j (get_or area (8448 + x % 8192) 0))
    where
      go : (b : Bool) → ltb (x % 8192) n ≡ b → walk n area' j (get_or area (8448 + x % 8192) 0) ≡ walk n area j (get_or area (8448 + x % 8192) 0) → walk n area' (suc j) x ≡ walk n area (suc j) x
      go true e ih = rw (e, walk, links (x % 8192) (omega (arith, ltb-true (x % 8192) n e))) (ap {B = List ℕ} (λ t. x ∷ t) ih)
      go false e ih = rw (e, walk)

  same_bucket : (j h : ℕ) → h < 4352 → walk n area' j (get_or area' h 0) ≡ walk n area j (get_or area h 0)
  same_bucket j h l = ap (walk n area' j) (heads h l) ∙ same-walk j (get_or area h 0)

  same_indexed : (R : ℕ → List ℕ) (S : ℕ → Bool) (I : Indexed R n area S)
      → ((d : ℕ) → In S d → marked area' marks_from (child_key (I.par d) (byte_of R I.par d)) ≡ true) → Indexed R n area' S
  same_indexed R S I marks = record {
    par = I.par;
    forest = I.forest;
    few = I.few;
    below = I.below;
    bytes = I.bytes;
    listed = λ d s. rw (same_bucket (count S n) (home R I.par d) (bucket_small (I.par d) (byte_of R I.par d) (I.bytes d s))) (I.listed d s);
    marks = marks;
    single = λ d s h. heads (home R I.par d) (bucket_small (I.par d) (byte_of R I.par d) (I.bytes d s)) ∙ I.single d s h;
    only = λ h w l e. I.only h w l (rw (same_bucket n h l) at e);
  }

-- a key more is marked
module _ (R : ℕ → List ℕ) (n : ℕ) (area : List ℕ) (S : ℕ → Bool) (k : ℕ) (area' : List ℕ) (K : k < 4194304) (m : Marks area marks_from k area') (I : Indexed R n area S) where
  -- a number outside the marks stays
  same : (i : ℕ) → (i ≡ marks_from + k / 1024 → ⊥) → get_or area' i 0 ≡ get_or area i 0
  same i e = ap (λ (t : List ℕ). get_or t i 0) m.is ∙ get_or-set_other area (marks_from + k / 1024) i m.number 0 e

  pub marked_indexed : Indexed R n area' S
  marked_indexed = same_indexed n area area' I.few (λ h l. same h (λ e. omega arith)) (λ i l. same (8448 + i) (λ e. omega arith)) R S I
      (λ d s. m.old (child_key (I.par d) (byte_of R I.par d)) (I.marks d s))

-- the area is the front of a longer list
module _ (R : ℕ → List ℕ) (n : ℕ) (area : List ℕ) (S : ℕ → Bool) (I : Indexed R n (take 12544 area) S) where
  same-front : (i : ℕ) → i < 12544 → get_or area i 0 ≡ get_or (take 12544 area) i 0
  same-front i h = sym (get_or-take 12544 area i 0 h)

  pub front_indexed : Indexed R n area S
  front_indexed = same_indexed n (take 12544 area) area I.few (λ h l. same-front h (omega arith)) (λ i l. same-front (8448 + i) (omega arith)) R S I
      (λ d s. let q = I.par d in let b = byte_of R I.par d in
      marked-same (take 12544 area) marks_from area (child_key q b) (same-front (marks_from + child_key q b / 1024) (let z = key-small q b in omega arith)) ∙ I.marks d s)
