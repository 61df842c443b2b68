-- Laws of the table of hashes in the scratch. A list of a bucket goes down by rows, so that a list over rows below k
-- does not see what is stored for row k. Assumes nothing.
use mathlib.Core.Path.{◌≡◌, refl, sym, ap, ◌∙◌}
use mathlib.Core.List.{List}
use mathlib.Core.Bool.{Bool, true, false, ◌||◌}
use Prim.Native.Nat.{ℕ, zero, suc, ◌+◌, ◌%◌, ◌≤◌, ◌<◌}
use native.Mathlib.Decide.{dec_lt}
use native.Mathlib.Omega.{arith}
use lib.ListN.{length, get_or, set, drop, replicate, length-set, length-append, length-replicate, length-drop, get_or-replicate, get_or-append}
use lib.Seq.{get_or-set_same, get_or-set_other, drop-set-lt, drop-drop, drop-append-add}
use lib.Dec.{eqb}
use borrow.Author.Tests.{eq-eqb, ne_eqb}
use Rattle.theory.specs.Dictionary.{none}
use Rattle.clashes.specs.Buckets.{emptied, head, link, stored, listed, pushed}

-- the list from x, where x is no row below k and where it is one
pub listed_out : (area : List ℕ) (test : ℕ → Bool) (k x : ℕ) → k ≤ x → listed area test k x ≡ false
unfolding listed
listed_out area test zero x l = refl
listed_out area test (suc k) x l = rw (ne_eqb x k (λ e. omega arith), listed) (listed_out area test k x (omega arith))

listed_in_lem : (area : List ℕ) (test : ℕ → Bool) (k x : ℕ) → x < k → listed area test k x ≡ test x || listed area test x (link area x)
unfolding listed
listed_in_lem area test zero x l = absurd (omega arith)
listed_in_lem area test (suc k) x l = go (dec_lt x k) (listed_in_lem area test k x)
  where
    go : Dec (x < k) → (x < k → listed area test k x ≡ test x || listed area test x (link area x)) → listed area test (suc k) x ≡ test x || listed area test x (link area x)
    go (yes m) ih = rw (ne_eqb x k (λ e. omega arith), listed) (ih m)
    go (no m) ih = let z : x ≡ k = omega arith in rw (z, eq-eqb k k refl, listed)

-- the same, by the test of row x
pub listed_here : (area : List ℕ) (test : ℕ → Bool) (k x : ℕ) → x < k → test x ≡ true → listed area test k x ≡ true
listed_here area test k x l e = listed_in_lem area test k x l ∙ rw e

pub listed-on : (area : List ℕ) (test : ℕ → Bool) (k x : ℕ) → x < k → test x ≡ false → listed area test k x ≡ listed area test x (link area x)
listed-on area test k x l e = listed_in_lem area test k x l ∙ rw e

-- two scratches with the same links of the rows below k, and tests that agree on these rows, have the same lists
pub listed_same : (area area' : List ℕ) (test test' : ℕ → Bool) (k x : ℕ) → ((c : ℕ) → c < k → link area' c ≡ link area c) → ((c : ℕ) → c < k → test' c ≡ test c) → listed area' test' k x ≡ listed area test k x
unfolding listed
listed_same area area' test test' zero x f g = refl
listed_same area area' test test' (suc k) x f g = go (eqb x k) refl (λ y. listed_same area area' test test' k y (λ c l. f c (omega arith)) (λ c l. g c (omega arith)))
  where
    go : (b : Bool) → eqb x k ≡ b → ((y : ℕ) → listed area' test' k y ≡ listed area test k y) → listed area' test' (suc k) x ≡ listed area test (suc k) x
    go true e ih = rw (e, listed, f k (omega arith), g k (omega arith)) (ap (λ (b : Bool). test k || b) (ih (link area k)))
    go false e ih = rw (e, listed) (ih x)

module _ (area : List ℕ) (c h : ℕ) (C : c < 4096) (A : 16384 ≤ length area) where
  abbrev one : List ℕ
  one = set area (8192 + c) h

  abbrev two : List ℕ
  two = set one (4096 + c) (head area h)

  pub pushed-length : length (pushed area c h) ≡ length area
  unfolding pushed
  pushed-length = simp length-set

  pub pushed-beyond : drop 16384 (pushed area c h) ≡ drop 16384 area
  unfolding pushed
  pushed-beyond =
      drop-set-lt 16384 two (h % 4096) c (omega arith)
      ∙ drop-set-lt 16384 one (4096 + c) (head area h) (omega arith)
      ∙ drop-set-lt 16384 area (8192 + c) h (omega arith)

  -- its bucket begins with the row
  pub head-new : get_or (pushed area c h) (h % 4096) 0 ≡ c
  unfolding pushed
  head-new = get_or-set_same two (h % 4096) c 0 (omega (arith, length-set one (4096 + c) (head area h), length-set area (8192 + c) h))

  -- the other buckets begin as before
  pub head-old : (b : ℕ) → b < 4096 → (b ≡ h % 4096 → ⊥) → get_or (pushed area c h) b 0 ≡ get_or area b 0
  unfolding pushed
  head-old b l e =
      get_or-set_other two (h % 4096) b c 0 e
      ∙ get_or-set_other one (4096 + c) b (head area h) 0 (λ z. omega arith)
      ∙ get_or-set_other area (8192 + c) b h 0 (λ z. omega arith)

  link-new : link (pushed area c h) c ≡ head area h
  unfolding pushed
  link-new =
      get_or-set_other two (h % 4096) (4096 + c) c 0 (λ z. omega arith)
      ∙ get_or-set_same one (4096 + c) (head area h) 0 (omega (arith, length-set area (8192 + c) h))

  link-old : (x : ℕ) → x < c → link (pushed area c h) x ≡ link area x
  unfolding pushed
  link-old x l =
      get_or-set_other two (h % 4096) (4096 + x) c 0 (λ z. omega arith)
      ∙ get_or-set_other one (4096 + c) (4096 + x) (head area h) 0 (λ z. omega arith)
      ∙ get_or-set_other area (8192 + c) (4096 + x) h 0 (λ z. omega arith)

  pub stored-new : stored (pushed area c h) c ≡ h
  unfolding pushed
  stored-new =
      get_or-set_other two (h % 4096) (8192 + c) c 0 (λ z. omega arith)
      ∙ get_or-set_other one (4096 + c) (8192 + c) (head area h) 0 (λ z. omega arith)
      ∙ get_or-set_same area (8192 + c) h 0 (omega arith)

  pub stored-old : (x : ℕ) → x < c → stored (pushed area c h) x ≡ stored area x
  unfolding pushed
  stored-old x l =
      get_or-set_other two (h % 4096) (8192 + x) c 0 (λ z. omega arith)
      ∙ get_or-set_other one (4096 + c) (8192 + x) (head area h) 0 (λ z. omega arith)
      ∙ get_or-set_other area (8192 + c) (8192 + x) h 0 (λ z. omega arith)

  -- the row's own bucket gains the row, the others stay
  module _ (test : ℕ → Bool) where
    keep : (x : ℕ) → listed (pushed area c h) test c x ≡ listed area test c x
    keep x = listed_same area (pushed area c h) test test c x link-old (λ y l. refl)

    pub push-own : (g : ℕ) → g % 4096 ≡ h % 4096 → listed (pushed area c h) test (suc c) (head (pushed area c h) g) ≡ test c || listed area test c (head area g)
    push-own g e =
        let z : head (pushed area c h) g ≡ c = ap (λ (b : ℕ). get_or (pushed area c h) b 0) e ∙ head-new in
        let y : link (pushed area c h) c ≡ head area g = link-new ∙ ap (λ (b : ℕ). get_or area b 0) (sym e) in
        rw (z, listed_in_lem (pushed area c h) test (suc c) c (omega arith), y) (ap (λ (b : Bool). test c || b) (keep (head area g)))

    pub push-other : (g : ℕ) → (g % 4096 ≡ h % 4096 → ⊥) → (head area g ≡ c → ⊥) → listed (pushed area c h) test (suc c) (head (pushed area c h) g) ≡ listed area test c (head area g)
    unfolding listed
    push-other g e f =
        let z : head (pushed area c h) g ≡ head area g = head-old (g % 4096) (omega arith) e in
        ap (listed (pushed area c h) test (suc c)) z ∙ (rw (ne_eqb (head area g) c f, listed) (keep (head area g)))

module _ (area : List ℕ) where
  pub emptied-length : (i : ℕ) → i ≤ length area → length (emptied area i) ≡ length area
  unfolding emptied
  emptied-length i l = simp (length-append, length-replicate, length-drop) (omega arith)

  pub emptied-beyond : (i k : ℕ) → drop (i + k) (emptied area i) ≡ drop (i + k) area
  unfolding emptied
  emptied-beyond i k =
      ap (λ (m : ℕ). drop (m + k) (emptied area i)) (sym (length-replicate i none))
      ∙ drop-append-add (replicate i none) (drop i area) k ∙ drop-drop k i area

  pub emptied-head : (i b : ℕ) → b < i → get_or (emptied area i) b 0 ≡ none
  unfolding emptied
  emptied-head i b l = get_or-append (replicate i none) (drop i area) 0 b (omega (arith, length-replicate i none)) ∙ get_or-replicate i b none 0 l
