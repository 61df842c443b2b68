-- The rows that stand in the scratch while first_sought looks at them in order. Assumes nothing.
use mathlib.Core.Path.{◌≡◌, refl, sym, ap, ◌∙◌}
use mathlib.Core.List.{List}
use mathlib.Core.Bool.{Bool, true, false, ◌&&◌, ◌||◌}
use Prim.Native.Nat.{ℕ, suc, ◌+◌, ◌%◌, ◌≤◌, ◌<◌}
use native.Mathlib.Numerals.{add-one}
use native.Mathlib.Decide.{dec_lt, ℕ_discrete}
use native.Mathlib.Omega.{arith}
use lib.ListN.{length, get_or, drop}
use lib.Dec.{eqb}
use borrow.Author.Tests.{eqb-true}
use Rattle.theory.specs.Lists.{equal}
use Rattle.theory.proofs.Lists.{bool_cases, equal_eq}
use Rattle.fnv.specs.Fnv.{row_hash}
use Rattle.clashes.specs.Clashes.{seen, first_with, Found}
use Rattle.clashes.specs.Buckets.{emptied, head, stored, listed, pushed, is_sought, sought}
use Rattle.clashes.proofs.Chains.{pushed-length, pushed-beyond, head-new, head-old, stored-new, stored-old, push-own, push-other, listed_same, emptied-length, emptied-beyond, emptied-head}
use Rattle.clashes.proofs.Laws.{and-true, and-false, first-at, first-none, equal_shares}

-- the first i rows stand in the scratch, and none of them passes the test with an earlier one: no head is a later row, each row's hash is stored, and a bucket's list answers whether one of the rows passes a test that only rows of that bucket pass
pub record Indexed (hash : ℕ → ℕ) (test : ℕ → ℕ → Bool) (i : ℕ) (entry area : List ℕ) : Type 0 where
  pub kept : length area ≡ length entry
  pub beyond : drop 16384 area ≡ drop 16384 entry
  pub heads : (b j : ℕ) → b < 4096 → i ≤ j → j < 4096 → get_or area b 0 ≡ j → ⊥
  pub stores : (j : ℕ) → j < i → stored area j ≡ hash j
  pub finds : (t : ℕ → Bool) (h : ℕ) → ((j : ℕ) → j < i → t j ≡ true → hash j % 4096 ≡ h % 4096) → listed area t i (head area h) ≡ seen t i
  pub free : (j : ℕ) → j < i → seen (test j) j ≡ false

-- row i is put into the scratch
indexed_more : (hash : ℕ → ℕ) (test : ℕ → ℕ → Bool) (i : ℕ) (entry area : List ℕ) → i < 4096 → 16384 ≤ length entry → seen (test i) i ≡ false → Indexed hash test i entry area → Indexed hash test (suc i) entry (pushed area i (hash i))
unfolding seen
indexed_more hash test i entry area l a f I = record {
  kept = pushed-length area i (hash i) l A ∙ I.kept;
  beyond = pushed-beyond area i (hash i) l A ∙ I.beyond;
  heads = λ b j m n o. heads b j m n o (ℕ_discrete b (hash i % 4096));
  stores = λ j m. stores j m (dec_lt j i);
  finds = λ t h g. finds t h g (ℕ_discrete (h % 4096) (hash i % 4096));
  free = λ j m. free j m (dec_lt j i);
}
  where
    A : 16384 ≤ length area
    A = let z = I.kept in omega arith

    heads : (b j : ℕ) → b < 4096 → suc i ≤ j → j < 4096 → Dec (b ≡ hash i % 4096) → get_or (pushed area i (hash i)) b 0 ≡ j → ⊥
    heads b j m n o (yes e) q = let z = head-new area i (hash i) l A in let y = ap (λ (k : ℕ). get_or (pushed area i (hash i)) k 0) e in omega arith
    heads b j m n o (no e) q = I.heads b j m (omega arith) o (sym (head-old area i (hash i) l A b m e) ∙ q)

    stores : (j : ℕ) → j < suc i → Dec (j < i) → stored (pushed area i (hash i)) j ≡ hash j
    stores j m (yes k) = stored-old area i (hash i) l A j k ∙ I.stores j k
    stores j m (no k) = let z : j ≡ i = omega arith in rw z (stored-new area i (hash i) l A)

    finds : (t : ℕ → Bool) (h : ℕ) → ((j : ℕ) → j < suc i → t j ≡ true → hash j % 4096 ≡ h % 4096) → Dec (h % 4096 ≡ hash i % 4096) → listed (pushed area i (hash i)) t (suc i) (head (pushed area i (hash i)) h) ≡ seen t (suc i)
    finds t h g (yes e) = push-own area i (hash i) l A t h e ∙ ap (λ (b : Bool). t i || b) (I.finds t h (λ j m. g j (omega arith)))
    finds t h g (no e) =
        let z : t i ≡ false = bool_cases (t i) (λ q. absurd (e (sym (g i (omega arith) q)))) (λ q. q) in
        push-other area i (hash i) l A t h e (I.heads (h % 4096) i (omega arith) (omega arith) l)
        ∙ I.finds t h (λ j m. g j (omega arith)) ∙ rw z

    free : (j : ℕ) → j < suc i → Dec (j < i) → seen (test j) j ≡ false
    free j m (yes k) = I.free j k
    free j m (no k) = let z : j ≡ i = omega arith in rw z f

-- no row stands in the scratch at first
pub indexed_start : (hash : ℕ → ℕ) (test : ℕ → ℕ → Bool) (entry area : List ℕ) → area ≡ emptied entry 4096 → Indexed hash test 0 area area
unfolding seen listed
indexed_start hash test entry area e = record {
  kept = refl;
  beyond = refl;
  heads = λ b j m n o q. let z = emptied-head entry 4096 b m in let y = ap (λ (l : List ℕ). get_or l b 0) e in omega arith;
  stores = λ j m. absurd (omega arith);
  finds = λ t h g. refl;
  free = λ j m. absurd (omega arith);
}

-- the hash of each row
abbrev pub hash_of : (ℕ → List ℕ) → ℕ → ℕ → ℕ
hash_of bytes factor i = row_hash (bytes i) factor

-- the rows that were looked at, of rows with these bytes, by what is looked for
abbrev pub Looked : (ℕ → List ℕ) → ℕ → Bool → ℕ → List ℕ → List ℕ → Type 0
Looked bytes factor exact = Indexed (hash_of bytes factor) (sought bytes factor exact)

module _ (bytes : ℕ → List ℕ) (factor : ℕ) (exact : Bool) where
  -- a row that passes with an earlier one has its hash
  near : (exact : Bool) (i j : ℕ) → sought bytes factor exact i j ≡ true → hash_of bytes factor j ≡ hash_of bytes factor i
  near true i j e = ap (λ (t : List ℕ). row_hash t factor) (equal_eq (bytes j) (bytes i) e)
  near false i j e = eqb-true (hash_of bytes factor j) (hash_of bytes factor i) e

  -- one turn of the loop, at row i with the hash h and the bytes b: the answer of the bucket's list is whether the row passes with an earlier one
  module _ (i h : ℕ) (b entry area : List ℕ) (found : Bool) (I : Looked bytes factor exact i entry area)
      (e : b ≡ bytes i) (d : h ≡ row_hash b factor) (f : found ≡ listed area (is_sought area bytes h b exact) i (head area h)) where
    hashed : h ≡ hash_of bytes factor i
    hashed = d ∙ ap (λ (t : List ℕ). row_hash t factor) e

    -- the test of a stored row is that of the row
    asked : (exact : Bool) (j : ℕ) → j < i → is_sought area bytes h b exact j ≡ sought bytes factor exact i j
    unfolding is_sought
    asked true j m = rw (I.stores j m, hashed, e) (go (equal (bytes j) (bytes i)) refl)
      where
        go : (q : Bool) → equal (bytes j) (bytes i) ≡ q → eqb (hash_of bytes factor j) (hash_of bytes factor i) && equal (bytes j) (bytes i) ≡ equal (bytes j) (bytes i)
        go true q = rw (equal_shares bytes factor i j (equal_eq (bytes j) (bytes i) q))
        go false q = rw q (and-false (eqb (hash_of bytes factor j) (hash_of bytes factor i)))
    asked false j m = rw (I.stores j m, hashed) (and-true (eqb (hash_of bytes factor j) (hash_of bytes factor i)))

    answers : found ≡ seen (sought bytes factor exact i) i
    answers =
        f ∙ listed_same area area (sought bytes factor exact i) (is_sought area bytes h b exact) i (head area h) (λ c l. refl) (asked exact)
        ∙ I.finds (sought bytes factor exact i) h (λ j m t. ap (λ (x : ℕ). x % 4096) (near exact i j t ∙ sym hashed))

    pub stops : (n : ℕ) → i < n → found ≡ true → i ≡ first_with (sought bytes factor exact) n
    stops n l t = sym (first-at (sought bytes factor exact) n i l (sym answers ∙ t) I.free)

    pub goes_on : (area' : List ℕ) → i < 4096 → 16384 ≤ length entry → found ≡ false → area' ≡ pushed area i h → Looked bytes factor exact (i + 1) entry area'
    goes_on area' l a t p = rw (add-one, p, hashed) (indexed_more (hash_of bytes factor) (sought bytes factor exact) i entry area l a (sym answers ∙ t) I)

-- the scratch as the caller of first_sought sees it
module _ (hash : ℕ → ℕ) (test : ℕ → ℕ → Bool) (i : ℕ) (entry start area : List ℕ) (A : 16384 ≤ length entry) (e : start ≡ emptied entry 4096) (I : Indexed hash test i start area) where
  pub whole-kept : length area ≡ length entry
  whole-kept = I.kept ∙ ap length e ∙ emptied-length entry 4096 (omega arith)

  pub found_at : (n r : ℕ) → r ≡ first_with test n → Found test n entry area r
  found_at n r q = record {
    answer = q;
    kept = whole-kept;
    beyond = I.beyond ∙ ap (drop 16384) e ∙ emptied-beyond entry 4096 12288;
  }

  -- the loop ends with no such row
  pub found_none : (n : ℕ) → n ≤ i → Found test n entry area n
  found_none n l = found_at n n (sym (first-none test n (λ j m. I.free j (omega arith))))
