-- The walk along a bucket finds the child. Assumes nothing.
use mathlib.Core.Path.{◌≡◌, refl, sym, ap, ◌∙◌}
use mathlib.Core.List.{List, [], ◌++◌, append_assoc}
use mathlib.Core.Logic.{◌⊎◌, inl, inr, ⊎_elim}
use mathlib.Core.Bool.{Bool, true, false}
use Prim.Native.Nat.{ℕ, ◌+◌, ◌-◌, ◌≤◌, ◌<◌}
use native.Mathlib.Omega.{arith}
use lib.ListN.{length, length-append, length-drop, get_or, drop, get_or-append}
use lib.Seq.{get_or-drop, drop-append_seam}
use Rattle.theory.specs.Dictionary.{none}
use Rattle.placed_rows.specs.Texts.{Begins, begins}
use Rattle.marks.specs.Marks.{marked}
use Rattle.placed_rows.proofs.Beginning.{true-false, begins-split, begins-append, begins-length, beyond, cancel}
use Rattle.placed_rows.specs.Longest.{Known}
use Rattle.forest.specs.Words.{row_of, more_of, bucket_of, child_key, marks_from, walk, Mem, In, count, byte_of, home, word_of, Indexed}
use Rattle.forest.specs.Lookups.{OneLonger, WordOf, Fits, Child, At, ChildIs}
use Rattle.forest.proofs.Fitting.{fits_one}
use Rattle.forest.proofs.Packing.{word_row, word_more, bucket_small, bucket_prefix}
use Rattle.forest.proofs.Walking.{walk-left, walk_more, count-le}

drop-to : (u t v : List ℕ) (k : ℕ) → t ≡ u ++ v → k ≡ length u → drop k t ≡ v
drop-to u t v k e h = rw (h, e) (drop-append_seam u v)

begins-to : (a t u v : List ℕ) → a ≡ u → t ≡ u ++ v → begins a t ≡ true
begins-to a t u v e f = rw (e, f) (begins-append u v)

-- what a child has beyond its prefix
pub record Tail (R : ℕ → List ℕ) (p : ℕ) (rest : List ℕ) (d : ℕ) : Type 0 where
  pub longer : length (R p) < length (R d)
  pub on : begins (drop (length (R p)) (R d)) rest ≡ true
  pub byte : get_or (R d) (length (R p)) 0 ≡ get_or rest 0 0
  pub split : R p ++ rest ≡ R d ++ drop (length (R d) - length (R p)) rest

module _ (R : ℕ → List ℕ) (n : ℕ) (area : List ℕ) (S : ℕ → Bool) (I : Indexed R n area S) (p : ℕ) (rest : List ℕ) where
  module _ (d : ℕ) (g : Child R I.par (In S) p rest d) where
    start : Begins (R p) (R d)
    start = rw g.under at (I.forest.prefix d g.in-K).begins

    rest-is : rest ≡ start.rest ++ g.on.rest
    rest-is = cancel (R p) rest (start.rest ++ g.on.rest)
        (g.on.split ∙ ap (λ (l : List ℕ). l ++ g.on.rest) start.split ∙ append_assoc (R p) start.rest g.on.rest)

    longer : length (R p) < length (R d)
    longer = rw g.under at (I.forest.prefix d g.in-K).shorter

    more : length (R d) ≡ length (R p) + length start.rest
    more = ap length start.split ∙ length-append (R p) start.rest

    first : get_or (R d) (length (R p)) 0 ≡ get_or rest 0 0
    first =
        let m = more in
        let l = longer in
        let a : length (R p) + 0 ≡ length (R p) = omega arith in
        let f : get_or (drop (length (R p)) (R d)) 0 0 ≡ get_or (R d) (length (R p)) 0 = get_or-drop (length (R p)) (R d) 0 0 ∙ ap (λ (i : ℕ). get_or (R d) i 0) a in
        sym f ∙ ap (λ (l : List ℕ). get_or l 0 0) (beyond (R p) (R d) start)
        ∙ sym (ap (λ (l : List ℕ). get_or l 0 0) rest-is ∙ get_or-append start.rest g.on.rest 0 0 (omega arith))

    split : R p ++ rest ≡ R d ++ drop (length (R d) - length (R p)) rest
    split =
        let m = more in
        let k : length (R d) - length (R p) ≡ length start.rest = omega arith in
        let z : drop (length (R d) - length (R p)) rest ≡ g.on.rest = drop-to start.rest rest g.on.rest (length (R d) - length (R p)) rest-is k in
        ap (λ (l : List ℕ). R p ++ l) rest-is ∙ sym (append_assoc (R p) start.rest g.on.rest) ∙ (λ i. sym start.split i ++ sym z i)

    pub tail : Tail R p rest d
    tail = record {
      longer = longer;
      on = begins-to (drop (length (R p)) (R d)) rest start.rest g.on.rest (beyond (R p) (R d) start) rest-is;
      byte = first;
      split = split;
    }

  -- conversely
  pub is-child : (d : ℕ) → In S d → I.par d ≡ p → begins (drop (length (R p)) (R d)) rest ≡ true → Child R I.par (In S) p rest d
  is-child d s e o =
      let x : Begins (R p) (R d) = rw e at (I.forest.prefix d s).begins in
      let y = begins-split x.rest rest (rw (beyond (R p) (R d) x) at o) in
      record {
        in-K = s;
        under = e;
        on = record {
          rest = y.rest;
          split = ap (λ (l : List ℕ). R p ++ l) y.split ∙ sym (append_assoc (R p) x.rest y.rest) ∙ ap (λ (l : List ℕ). l ++ y.rest) (sym x.split);
        };
      }

  small : (q : ℕ) → Known (In S) q → (q ≡ none) ⊎ (q < 4096)
  small q (inl e) = inl e
  small q (inr s) = inr (let z = I.below q s in let f = I.few in omega arith)

  -- the prefix that the bucket and the byte tell
  pub told : Known (In S) p → (d : ℕ) → In S d → home R I.par d ≡ bucket_of p (get_or rest 0 0) → byte_of R I.par d ≡ get_or rest 0 0 → I.par d ≡ p
  told k d s h e =
      bucket_prefix (I.par d) p (get_or rest 0 0) (small (I.par d) (I.forest.prefix d s).known) (small p k)
      (ap (λ (b : ℕ). bucket_of (I.par d) b) (sym e) ∙ h)

-- the walk has come to the word x with k steps left: the words that are left stand in the bucket, and a child is among them
pub record Search (R : ℕ → List ℕ) (n : ℕ) (area : List ℕ) (p len : ℕ) (rest : List ℕ) (x k : ℕ) : Type 0 where
  pub kept : (w : ℕ) → Mem w (walk n area k x) → Mem w (walk n area n (get_or area (bucket_of p (get_or rest 0 0)) 0))
  pub left : (S : ℕ → Bool) (a : At R n area S p len) (d : ℕ) → Child R a.index.par (In S) p rest d → Mem (word_of R a.index.par d) (walk n area k x)

module _ (R : ℕ → List ℕ) (n : ℕ) (area : List ℕ) (p len : ℕ) (rest : List ℕ) where
  next-byte : (S : ℕ → Bool) (I : Indexed R n area S) (d : ℕ) → Child R I.par (In S) p rest d → byte_of R I.par d ≡ get_or rest 0 0
  next-byte S I d g = ap (λ (i : ℕ). get_or (R d) (length (R i)) 0) g.under ∙ (tail R n area S I p rest d g).byte

  pub search_start : (h : ℕ) → h ≡ bucket_of p (get_or rest 0 0) → Search R n area p len rest (get_or area h 0) n
  search_start h e = rw e (record { kept = λ w m. m; left = begin })
    where
      begin : (S : ℕ → Bool) (a : At R n area S p len) (d : ℕ) → Child R a.index.par (In S) p rest d → Mem (word_of R a.index.par d) (walk n area n (get_or area (bucket_of p (get_or rest 0 0)) 0))
      begin S a d g =
          let I = a.index in
          let b = next-byte S I d g in
          let h : home R I.par d ≡ bucket_of p (get_or rest 0 0) = λ i. bucket_of (g.under i) (b i) in
          walk_more n area (count S n) n (get_or area (bucket_of p (get_or rest 0 0)) 0) (word_of R I.par d) (count-le S n) (rw h at (I.listed d g.in-K))

  -- a word of the bucket, as the test takes it
  tested : (S : ℕ → Bool) (a : At R n area S p len) (x d : ℕ) → In S d → x ≡ word_of R a.index.par d
      → (byte_of R a.index.par d ≡ get_or rest 0 0 → a.index.par d ≡ p) → WordOf R n p len rest x d (a.index.par d)
  tested S a x d s e t = record {
    below = a.index.below d s;
    shorter = (a.index.forest.prefix d s).shorter;
    byte = a.index.bytes d s;
    is = e;
    told = λ c. (t c, ap (λ (q : ℕ). length (R q)) (t c) ∙ sym a.size);
  }

  pub search_step : (x i k : ℕ) → i ≡ row_of x → 0 < k → i < n → Fits R n p len rest x false → Search R n area p len rest x k
      → Search R n area p len rest (get_or area (8448 + i) 0) (k - 1)
  search_step x i k ix h l miss s = rw ix (record {
    kept = λ w m. s.kept w (rw (walk-left n area k x h (omega arith)) (inr m));
    left = λ S a d g. ⊎_elim (λ z. absurd (no S a d g z)) (λ z. z) (rw (walk-left n area k x h (omega arith)) at (s.left S a d g));
  })
    where
      no : (S : ℕ → Bool) (a : At R n area S p len) (d : ℕ) → Child R a.index.par (In S) p rest d → word_of R a.index.par d ≡ x → ⊥
      no S a d g z =
          let t = tail R n area S a.index p rest d g in
          miss.no d (a.index.par d) (tested S a x d g.in-K (sym z) (λ _. g.under)) refl
          (record { under = g.under; from = ap (λ (q : ℕ). length (R q)) g.under ∙ sym a.size; on = rw a.size t.on })

  pub search_hit : (x i k l : ℕ) → i ≡ row_of x → 0 < k → i < n → n ≤ 4096 → l ≡ len + more_of x → get_or rest 0 0 < 256 → Fits R n p len rest x true
      → Search R n area p len rest x k → ChildIs R n area p len rest (row_of x) l
  search_hit x i k l ix h b N lx byte hit s = record {
    bound = inr (record {
      below = omega arith;
      longer = omega arith;
      fits = let z = hit.room refl in omega arith;
    });
    sound = λ _ S a. found S a;
    complete = λ z. absurd (omega arith);
  }
    where
      found : (S : ℕ → Bool) (a : At R n area S p len) → Child R a.index.par (In S) p rest (row_of x) × (l ≡ length (R (row_of x)))
      found S a =
          let I = a.index in
          let m = I.only (bucket_of p (get_or rest 0 0)) x (bucket_small p (get_or rest 0 0) byte) (s.kept x (rw (walk-left n area k x h (omega arith)) (inl refl))) in
          let d = m.row in
          let W = tested S a x d m.in-S m.is (told R n area S I p rest a.known d m.in-S m.home) in
          let y = hit.yes d (I.par d) W refl in
          let z = W.below in
          let f = W.shorter in
          let rd : row_of x ≡ d = ap (λ (v : ℕ). row_of v) m.is ∙ word_row d _ _ (omega arith) in
          let md : more_of x ≡ length (R d) - length (R (I.par d)) = ap (λ (v : ℕ). more_of v) m.is ∙ word_more d _ (length (R d) - length (R (I.par d))) (omega arith) (omega arith) in
          let ld : l ≡ length (R d) = omega (arith, y.from) in
          rw rd (is-child R n area S I p rest d m.in-S y.under (sym (ap (λ (v : ℕ). begins (drop v (R d)) rest) a.size) ∙ y.on), ld)

  -- the first word of the bucket, where its row is one byte longer
  pub search_one : (x h l : ℕ) → h ≡ bucket_of p (get_or rest 0 0) → x ≡ get_or area h 0 → OneLonger x (get_or rest 0 0) → row_of x < n → n ≤ 4096 → get_or rest 0 0 < 256 → 0 < length rest → l ≡ len + 1
      → ChildIs R n area p len rest (row_of x) l
  search_one x h l hi xi o b N byte room lx =
      search_hit x (row_of x) n l refl (omega arith) b N (omega (arith, o.one)) byte (fits_one R n p len rest x N (omega (arith, o.byte)) o.one room) (rw (sym xi) at (search_start h hi))

  nothing : (l : ℕ) → ((S : ℕ → Bool) (a : At R n area S p len) (d : ℕ) → Child R a.index.par (In S) p rest d → ⊥) → ChildIs R n area p len rest none l
  nothing l h = record { bound = inl refl; sound = λ z. absurd (z refl); complete = λ _. h }

  pub search_over : (x k l : ℕ) → walk n area k x ≡ [] → Search R n area p len rest x k → ChildIs R n area p len rest none l
  search_over x k l e s = nothing l (λ S a d g. rw e at (s.left S a d g))

  -- where prefix and next byte are not marked there is no child
  pub search_unmarked : (l : ℕ) → marked area marks_from (child_key p (get_or rest 0 0)) ≡ false → ChildIs R n area p len rest none l
  search_unmarked l e = nothing l (λ S a d g.
      let I = a.index in
      let b = next-byte S I d g in
      true-false (sym (I.marks d g.in-K) ∙ (λ i. marked area marks_from (child_key (g.under i) (b i))) ∙ e))

  pub search_empty : (l : ℕ) → length rest ≡ 0 → ChildIs R n area p len rest none l
  search_empty l e = nothing l (λ S a d g.
      let t = tail R n area S a.index p rest d g in
      let v = t.longer in
      let z = begins-length (drop (length (R p)) (R d)) rest (begins-split (drop (length (R p)) (R d)) rest t.on) in
      omega (arith, length-drop (length (R p)) (R d)))
