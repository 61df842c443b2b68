-- Insertion keeps the area in order. Assumes nothing.
use mathlib.Core.Path.{◌≡◌, refl, sym, ap, ◌∙◌}
use mathlib.Core.List.{List, [], ◌∷◌}
use mathlib.Core.Logic.{◌⊎◌, inl, inr, ⊎_elim}
use mathlib.Core.Bool.{Bool, true, false}
use Prim.Native.Nat.{ℕ, zero, suc, ◌+◌, ◌-◌, ◌%◌, ◌≤◌, ◌<◌}
use native.Mathlib.Decide.{ℕ_discrete, dec_lt}
use native.Mathlib.Omega.{arith}
use lib.ListN.{length, get_or}
use lib.Dec.{eqb}
use borrow.Author.Tests.{eq-eqb, ne_eqb}
use Rattle.theory.specs.Dictionary.{none}
use Rattle.placed_rows.specs.Texts.{Begins}
use Rattle.placed_rows.proofs.Beginning.{true-false, begins-length, same_length}
use Rattle.placed_rows.specs.Longest.{Known, Longest, Prefix}
use Rattle.forest.specs.Words.{Forest, word, tag_at, row_of, bucket_of, walk, Mem, In, count, byte_of, home, word_of, Entry, Indexed, child_key, marks_from}
use Rattle.forest.specs.Lookups.{Descent}
use Rattle.forest.specs.Growth.{place_of, pushed, with_row, Fresh, Inserted}
use Rattle.marks.specs.Marks.{marked, Marks}
use Rattle.forest.proofs.Packing.{word_row, bucket_small, bucket_root, bucket_row, key-small}
use Rattle.forest.proofs.Marking.{length_marked, marked_indexed}
use Rattle.forest.proofs.NoChild.{filled}
use Rattle.forest.proofs.Walking.{walk-zero, walk_more, met, meet-first, meet-next, count-le}
use Rattle.forest.proofs.Joining.{with_in, with_old, with_new, count-more}
use Rattle.forest.proofs.Pushing.{Place, place_in, place_out, length-put, put-at, put_other, marks-keep}
use Rattle.forest.proofs.Passing.{still-met, no_more, from-w}

one_byte : (t : List ℕ) → length t ≡ 1 → t ≡ get_or t 0 0 ∷ []
one_byte [] e = absurd (omega arith)
one_byte (x ∷ []) e = refl
one_byte (x ∷ y ∷ t) e = absurd (omega arith)

-- prefixes, with that of c
abbrev par_with : (ℕ → ℕ) → ℕ → ℕ → ℕ → ℕ
par_with par c p d = elim (eqb d c) [ true ↦ p | false ↦ par d ]

par-new : (par : ℕ → ℕ) (c p : ℕ) → par_with par c p c ≡ p
par-new par c p = rw (eq-eqb c c refl, par_with)

par-old : (par : ℕ → ℕ) (c p d : ℕ) → (d ≡ c → ⊥) → par_with par c p d ≡ par d
par-old par c p d h = rw (ne_eqb d c h, par_with)

module _ (R : ℕ → List ℕ) (n : ℕ) (area : List ℕ) (S : ℕ → Bool) (I : Indexed R n area S) (c p : ℕ) (A : 12544 ≤ length area)
    (F : Fresh R n S c) (L : Longest R (In S) (R c) p) where
  abbrev par' : ℕ → ℕ
  par' = par_with I.par c p

  not-old : (d : ℕ) → In S d → d ≡ c → ⊥
  not-old d s e = true-false (sym s ∙ ap S e ∙ F.new)

  kept-par : (d : ℕ) → In S d → par' d ≡ I.par d
  kept-par d s = par-old I.par c p d (not-old d s)

  pub shorter : length (R p) < length (R c)
  shorter = go L.known (dec_lt (length (R p)) (length (R c)))
    where
      go : Known (In S) p → Dec (length (R p) < length (R c)) → length (R p) < length (R c)
      go k (yes l) = l
      go (inl e) (no l) = let f = F.filled in omega (arith, ap (λ (i : ℕ). length (R i)) e, ap length I.forest.root)
      go (inr s) (no l) =
          let z = begins-length (R p) (R c) L.begins in
          absurd (F.distinct p s (same_length (R p) (R c) L.begins (omega arith)))

  weaken : (q : ℕ) → Known (In S) q → Known (In (with_row S c)) q
  weaken q (inl e) = inl e
  weaken q (inr s) = inr (with_old S c q s)

  prefix-new : Prefix R (In (with_row S c)) c p
  prefix-new = record {
    known = weaken p L.known;
    begins = L.begins;
    shorter = shorter;
    longest = λ d s o b. ⊎_elim (λ e. absurd (o e)) (λ z. L.longest d z b) (with_in S c d s);
  }

  prefix-old : (d : ℕ) → In S d → Prefix R (In (with_row S c)) d (I.par d)
  prefix-old d s =
      let q = I.forest.prefix d s in
      record {
        known = weaken (I.par d) q.known;
        begins = q.begins;
        shorter = q.shorter;
        longest = λ e t o b. ⊎_elim (λ z. absurd (unlike e z b)) (λ z. q.longest e z o b) (with_in S c e t);
      }
    where
      unlike : (e : ℕ) → e ≡ c → Begins (R e) (R d) → ⊥
      unlike e z b =
          let x : Begins (R c) (R d) = rw z at b in
          let l = begins-length (R c) (R d) x in
          let r = F.rising d s in
          F.distinct d s (sym (same_length (R c) (R d) x (omega arith)))

  forest-new : Forest R par' (In (with_row S c))
  forest-new = record {
    root = I.forest.root;
    distinct = λ d e s t q. two d e q (with_in S c d s) (with_in S c e t);
    prefix = λ d s. ⊎_elim (new d) (λ t. rw (kept-par d t) (prefix-old d t)) (with_in S c d s);
  }
    where
      two : (d e : ℕ) → R d ≡ R e → (d ≡ c) ⊎ In S d → (e ≡ c) ⊎ In S e → d ≡ e
      two d e q (inl x) (inl y) = x ∙ sym y
      two d e q (inl x) (inr y) = absurd (F.distinct e y (sym q ∙ ap R x))
      two d e q (inr x) (inl y) = absurd (F.distinct d x (q ∙ ap R y))
      two d e q (inr x) (inr y) = I.forest.distinct d e x y q

      new : (d : ℕ) → d ≡ c → Prefix R (In (with_row S c)) d (par' d)
      new d e = rw (e, par-new I.par c p) prefix-new

-- row c goes under p: the byte beyond p, with which p is marked, tells its bucket
module _ (R : ℕ → List ℕ) (n : ℕ) (area : List ℕ) (S : ℕ → Bool) (I : Indexed R n area S) (c p : ℕ) (A : 12544 ≤ length area)
    (F : Fresh R n S c) (L : Longest R (In S) (R c) p) (Q : get_or (R c) (length (R p)) 0 < 256) (M : marked area marks_from (child_key p (get_or (R c) (length (R p)) 0)) ≡ true) where
  abbrev parents : ℕ → ℕ
  parents = par_with I.par c p

  -- the bucket and the word
  abbrev B : ℕ
  B = bucket_of p (get_or (R c) (length (R p)) 0)

  abbrev W : ℕ
  W = word c (tag_at (R c) (length (R p))) (length (R c) - length (R p))

  -- the place in the bucket, the word that stands first, and the area with one word more
  abbrev at : ℕ
  at = place_of area n B

  abbrev first : ℕ
  first = get_or area B 0

  abbrev area' : List ℕ
  area' = pushed area n B c W

  C : c < 4096
  C = let z = F.below in let f = I.few in omega arith

  H : B < 4352
  H = bucket_small p (get_or (R c) (length (R p)) 0) Q

  W-row : W % 8192 ≡ c
  W-row = let z = C in word_row c _ (length (R c) - length (R p)) (omega arith)

  -- what a bucket has: words of rows of S, of which c is none
  abbrev Old : ℕ → ℕ → Type 0
  Old g v = Entry R I.par S g v

  old : (g k v : ℕ) → g < 4352 → k ≤ n → Mem v (walk n area k (get_or area g 0)) → Old g v
  old g k v l h m = I.only g v l (walk_more n area k n (get_or area g 0) v h m)

  old_row : (g v : ℕ) (E : Old g v) → v % 8192 ≡ E.row
  old_row g v E =
      let b = I.below E.row E.in-S in
      let f = I.few in
      ap (λ (z : ℕ). row_of z) E.is ∙ word_row E.row _ _ (omega arith)

  not-c : (g v : ℕ) → Old g v → v % 8192 ≡ c → ⊥
  not-c g v E e = not-old R n area S I c p A F L E.row E.in-S (sym (old_row g v E) ∙ e)

  one_bucket : (g h u v : ℕ) → Old g u → Old h v → u % 8192 ≡ v % 8192 → g ≡ h
  one_bucket g h u v D E e = sym D.home ∙ ap (home R I.par) (sym (old_row g u D) ∙ e ∙ old_row h v E) ∙ E.home

  old-first : first % 8192 < n → Old B first
  old-first l = old B 1 first H (let z = F.below in omega arith) (meet-first n area 0 first l)

  place : Place area at c
  place = go (dec_lt (first % 8192) n)
    where
      go : Dec (first % 8192 < n) → Place area at c
      go (yes l) =
          let e = place_in area n B l in
          let f = I.few in
          record { below = omega arith; no_mark = λ z. omega arith; apart = λ z. not-c B first (old-first l) (omega arith); row = C; room = A }
      go (no l) =
          let e = place_out area n B (omega arith) in
          let b = H in
          record { below = omega arith; no_mark = λ z. omega arith; apart = λ z. omega arith; row = C; room = A }

  -- heads and links of the area with one word more
  head-other : (g : ℕ) → g < 4352 → (g ≡ at → ⊥) → get_or area' g 0 ≡ get_or area g 0
  head-other g l e = put_other area at c W place g e (λ z. omega arith)

  head_in : first % 8192 < n → get_or area' B 0 ≡ first
  head_in l = head-other B H (λ z. omega (arith, H, place_in area n B l))

  link_in : first % 8192 < n → get_or area' (8448 + first % 8192) 0 ≡ W
  link_in l = ap (λ (i : ℕ). get_or area' i 0) (sym (place_in area n B l)) ∙ put-at area at c W place

  head_out_lem : n ≤ first % 8192 → get_or area' B 0 ≡ W
  head_out_lem l = ap (λ (i : ℕ). get_or area' i 0) (sym (place_out area n B l)) ∙ put-at area at c W place

  -- a row of one byte stays first in its bucket
  first-kept : (d : ℕ) → In S d → length (R d) ≡ 1 → get_or area' (home R I.par d) 0 ≡ word_of R I.par d
  first-kept d s h = head-other g (bucket_small (I.par d) (byte_of R I.par d) (I.bytes d s)) (λ e. apart e (dec_lt (first % 8192) n)) ∙ stands
    where
      g : ℕ
      g = home R I.par d

      stands : get_or area g 0 ≡ word_of R I.par d
      stands = I.single d s h

      apart : g ≡ at → Dec (first % 8192 < n) → ⊥
      apart e (yes l) = let z = place_in area n B l in let b = bucket_small (I.par d) (byte_of R I.par d) (I.bytes d s) in omega arith
      apart e (no l) =
          let z = place_out area n B (omega arith) in
          let b = I.below d s in
          let f = I.few in
          let v : first ≡ word_of R I.par d = ap (λ (i : ℕ). get_or area i 0) (sym (e ∙ z)) ∙ stands in
          let r : first % 8192 ≡ d = ap (λ (i : ℕ). row_of i) v ∙ word_row d _ _ (omega arith) in
          omega arith

  -- a new row of one byte finds its bucket empty: a row there would be that byte too
  module _ (one : length (R c) ≡ 1) where
    at-root : p ≡ none
    at-root = ⊎_elim (λ e. e) (λ s. absurd (omega (arith, filled R I.par (In S) I.forest p s, shorter R n area S I c p A F L))) L.known

    root-empty : (q : ℕ) → q ≡ none → length (R q) ≡ 0
    root-empty q e = ap (λ (i : ℕ). length (R i)) e ∙ ap length I.forest.root

    same_row : (E : Old B first) → R E.row ≡ R c
    same_row E = go (ℕ_discrete (I.par E.row) none)
      where
        d : ℕ
        d = E.row

        k : length (R p) ≡ 0
        k = root-empty p at-root

        own : B ≡ 4096 + get_or (R c) 0 0
        own = bucket_root p (get_or (R c) (length (R p)) 0) at-root ∙ ap (λ (i : ℕ). 4096 + get_or (R c) i 0) k

        go : Dec (I.par d ≡ none) → R d ≡ R c
        go (no e) = absurd (omega (arith, own, E.home, bucket_row (I.par d) (byte_of R I.par d) e))
        go (yes e) =
            let z = root-empty (I.par d) e in
            let f = filled R I.par (In S) I.forest d E.in-S in
            let g = F.rising d E.in-S in
            let b : 4096 + byte_of R I.par d ≡ 4096 + get_or (R c) 0 0 = sym (bucket_root (I.par d) (byte_of R I.par d) e) ∙ E.home ∙ own in
            let y : get_or (R d) 0 0 ≡ get_or (R c) 0 0 = sym (ap (λ (i : ℕ). get_or (R d) i 0) z) ∙ omega arith in
            one_byte (R d) (omega arith) ∙ ap (λ (x : ℕ). x ∷ []) y ∙ sym (one_byte (R c) one)

    first-new : get_or area' B 0 ≡ W
    first-new = go (dec_lt (first % 8192) n)
      where
        go : Dec (first % 8192 < n) → get_or area' B 0 ≡ W
        go (yes l) = let E = old-first l in absurd (F.distinct E.row E.in-S (same_row E))
        go (no l) = head_out_lem (omega arith)

  room : count S n < n
  room = let z = count-more S c n F.below F.new in let w = count-le (with_row S c) n in omega arith

  listed_at : (v g : ℕ) → g < 4352 → Mem v (walk n area (count S n) (get_or area g 0)) → Mem v (walk n area' (suc (count S n)) (get_or area' g 0))
  listed_at v g l m =
      still-met n area at c W place F.below W-row (count S n) g v (λ z. omega arith)
      (λ u p. not-c g u (old g (count S n) u l (let r = room in omega arith) p)) m

  some : (d : ℕ) → In S d → 0 < count S n
  some d s = go (dec_lt 0 (count S n))
    where
      go : Dec (0 < count S n) → 0 < count S n
      go (yes l) = l
      go (no l) = absurd (rw (walk-zero n area (count S n) (get_or area (home R I.par d) 0) (omega arith)) at (I.listed d s))

  listed-new : Mem W (walk n area' (suc (count S n)) (get_or area' B 0))
  listed-new = go (dec_lt (first % 8192) n)
    where
      in_n : W % 8192 < n
      in_n = let z = F.below in let r = W-row in omega arith

      go : Dec (first % 8192 < n) → Mem W (walk n area' (suc (count S n)) (get_or area' B 0))
      go (yes l) =
          let s = some (old-first l).row (old-first l).in-S in
          rw (head_in l)
          (meet-next n area' (count S n) first W l
          (rw (link_in l) (walk_more n area' 1 (count S n) W W (omega arith) (meet-first n area' 0 W in_n))))
      go (no l) = rw (head_out_lem (omega arith)) (meet-first n area' (count S n) W in_n)

  kept : (d : ℕ) → In S d → parents d ≡ I.par d
  kept = kept-par R n area S I c p A F L

  entry_old : (g v : ℕ) → Entry R I.par S g v → Entry R parents (with_row S c) g v
  entry_old g v E = record {
    row = E.row;
    in-S = with_old S c E.row E.in-S;
    is = rw (kept E.row E.in-S) E.is;
    home = rw (kept E.row E.in-S) E.home;
  }

  entry_new : (g v : ℕ) → g ≡ B → v ≡ W → Entry R parents (with_row S c) g v
  entry_new g v e f = record {
    row = c;
    in-S = with_new S c;
    is = rw (par-new I.par c p) f;
    home = rw (par-new I.par c p) (sym e);
  }

  -- another bucket has what it had
  only-other : (g v : ℕ) → g < 4352 → (g ≡ B → ⊥) → Mem v (walk n area' n (get_or area' g 0)) → Old g v
  only-other g v l e m = go (dec_lt (first % 8192) n)
    where
      had : (u : ℕ) → Mem u (walk n area n (get_or area g 0)) → Old g u
      had u q = old g n u l (omega arith) q

      kept-walk : (g ≡ at → ⊥) → ((u : ℕ) → Mem u (walk n area n (get_or area g 0)) → 8448 + u % 8192 ≡ at → ⊥) → Old g v
      kept-walk f h = had v (no_more n area at c W place F.below W-row n (get_or area g 0) v (λ u q. not-c g u (had u q)) h (rw (head-other g l f) at m))

      go : Dec (first % 8192 < n) → Old g v
      go (yes i) = let z = place_in area n B i in kept-walk (λ q. omega arith) (λ u q r. e (one_bucket g B u first (had u q) (old-first i) (omega arith)))
      go (no i) = let z = place_out area n B (omega arith) in let b = H in kept-walk (λ q. e (omega arith)) (λ u q r. omega arith)

  -- the bucket has what it had, and W
  only-own : (k v : ℕ) → k ≤ n → Mem v (walk n area' k (get_or area' B 0)) → (v ≡ W) ⊎ Old B v
  unfolding walk
  only-own zero v h m = absurd m
  only-own (suc k) v h m = go (dec_lt (first % 8192) n)
    where
      behind-W : (j : ℕ) → ((u : ℕ) → Mem u (walk n area j (get_or area at 0)) → Old B u) → Mem v (walk n area' j W) → (v ≡ W) ⊎ Old B v
      behind-W j = from-w n area at c W place F.below W-row (Old B) (not-c B) j v

      go : Dec (first % 8192 < n) → (v ≡ W) ⊎ Old B v
      go (yes l) =
          ⊎_elim
          (λ e. inr (rw e (old-first l)))
          (λ q. behind-W k (λ u r. old B (suc k) u H h (meet-next n area k first u l (rw (place_in area n B l) at r))) (rw (link_in l) at q))
          (met n area' k first v (rw (head_in l) at m)).1
      go (no l) = behind-W (suc k) (λ u r. old B (suc k) u H h (rw (place_out area n B (omega arith)) at r)) (rw (head_out_lem (omega arith)) at m)

  only_at : (g v : ℕ) → g < 4352 → Mem v (walk n area' n (get_or area' g 0)) → Entry R parents (with_row S c) g v
  only_at g v l m = go (ℕ_discrete g B)
    where
      go : Dec (g ≡ B) → Entry R parents (with_row S c) g v
      go (yes e) = ⊎_elim (λ f. entry_new g v e f) (λ E. entry_old g v (rw e E)) (only-own n v (omega arith) (rw e at m))
      go (no e) = entry_old g v (only-other g v l e m)

  inserted : Indexed R n area' (with_row S c)
  inserted = record {
    par = parents;
    forest = forest-new R n area S I c p A F L;
    few = I.few;
    below = λ d s. ⊎_elim (λ e. let z = F.below in omega arith) (λ t. I.below d t) (with_in S c d s);
    bytes = λ d s. ⊎_elim (small d) (λ t. rw (kept d t) (I.bytes d t)) (with_in S c d s);
    listed = λ d s. rw (count-more S c n F.below F.new) (⊎_elim (new d) (still d) (with_in S c d s));
    marks = λ d s. marks-keep area at c W place (child_key (parents d) (byte_of R parents d)) (key-small (parents d) (byte_of R parents d)) ∙ ⊎_elim (key d) (λ t. rw (kept d t) (I.marks d t)) (with_in S c d s);
    single = λ d s. ⊎_elim (lone d) (λ t h. rw (kept d t) (first-kept d t h)) (with_in S c d s);
    only = only_at;
  }
    where
      lone : (d : ℕ) → d ≡ c → length (R d) ≡ 1 → get_or area' (home R parents d) 0 ≡ word_of R parents d
      lone d e h = rw (e, par-new I.par c p) (first-new (rw e at h))

      small : (d : ℕ) → d ≡ c → byte_of R parents d < 256
      small d e = rw (e, par-new I.par c p) Q

      key : (d : ℕ) → d ≡ c → marked area marks_from (child_key (parents d) (byte_of R parents d)) ≡ true
      key d e = rw (e, par-new I.par c p) M

      new : (d : ℕ) → d ≡ c → Mem (word_of R parents d) (walk n area' (suc (count S n)) (get_or area' (home R parents d) 0))
      new d e = rw (e, par-new I.par c p) listed-new

      still : (d : ℕ) → In S d → Mem (word_of R parents d) (walk n area' (suc (count S n)) (get_or area' (home R parents d) 0))
      still d s = rw (kept d s) (listed_at (word_of R I.par d) (home R I.par d) (bucket_small (I.par d) (byte_of R I.par d) (I.bytes d s)) (I.listed d s))

-- the descent from the root along t, the bytes of row c
module _ (R : ℕ → List ℕ) (n : ℕ) (area : List ℕ) (c : ℕ) (t : List ℕ) (p k : ℕ) (A : 12544 ≤ length area) (e : t ≡ R c) (D : Descent R n area none 0 t p k) where
  from-root : (S : ℕ → Bool) → Indexed R n area S → Longest R (In S) (R c) p × (k ≡ length (R p))
  from-root S I = rw (I.forest.root, e) at (D.longest S (record { index = I; known = inl refl; size = sym (ap length I.forest.root) }))

  -- it uses all bytes: row c is no fresh row
  pub insert_none : length t ≤ k → Inserted R n area c area
  insert_none h = record {
    kept = refl;
    index = λ S I F.
        let q = from-root S I in
        absurd (omega (arith, shorter R n area S I c p A F q.0, q.1, ap length e));
  }

  -- the stores that the code makes, with what it has at hand
  pub insert_done : (area₁ : List ℕ) (key b h w g l : ℕ) → Marks area marks_from key area₁ → key ≡ child_key p b → b ≡ get_or t k 0 → b < 256 → h ≡ bucket_of p b → w ≡ word c g l → g ≡ tag_at t k → l ≡ length t - k
      → Inserted R n area c (pushed area₁ n h c w)
  insert_done area₁ key b h w g l m ki bi bs hi wi gi li = record {
    kept = length-put area₁ (place_of area₁ n h) c w ∙ length_marked area key area₁ m;
    index = λ S I F.
        let q = from-root S I in
        let y : b ≡ get_or (R c) (length (R p)) 0 = bi ∙ (λ i. get_or (e i) (q.1 i) 0) in
        rw (hi ∙ ap (bucket_of p) y, wi ∙ (λ i. word c ((gi ∙ (λ j. tag_at (e j) (q.1 j))) i) ((li ∙ (λ j. length (e j) - q.1 j)) i)))
        (inserted R n area₁ S (marked_indexed R n area S key area₁ (omega (arith, ki, key-small p b)) m I) c p (omega (arith, length_marked area key area₁ m)) F q.0 (omega arith)
        (ap (λ (i : ℕ). marked area₁ marks_from i) (ap (λ (i : ℕ). child_key p i) (sym y) ∙ sym ki) ∙ m.new));
  }
