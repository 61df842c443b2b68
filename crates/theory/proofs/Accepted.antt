-- Accepted rows make a lawful dictionary: their parts are those that build finds.
use mathlib.Core.Path.{◌≡◌, refl, sym, ap, ap₂, ◌∙◌}
use mathlib.Core.Logic.{inl, inr, ⊎_elim}
use mathlib.Core.List.{List, [], ◌∷◌, ◌++◌}
use mathlib.Core.Bool.{Bool, true, false}
use mathlib.Core.Option.{Option, none, some}
use Prim.Native.Nat.{ℕ, zero, suc, ◌+◌, ◌-◌, ◌≤◌, ◌<◌}
use native.Mathlib.Nat.{eq-or-lt_of_le}
use native.Mathlib.Omega.{arith}
use lib.ListN.{length, length-append, get_or, drop, get_or-append, get_or-eq_default}
use lib.Seq.{get_or-append-add, drop_at}
use lib.Dec.{ltb}
use borrow.Author.Tests.{ltb-true, lt-ltb, le-ltb}
use Rattle.theory.specs.Lists.{equal, In}
use Rattle.theory.specs.Dictionary.{Octets, KnownText}
use Rattle.theory.specs.Merge.{byte_codes}
use Rattle.theory.specs.PairCheck.{listed_below, walk, passes}
use Rattle.theory.specs.Parts.{Parts, part_or, find, code_of, bytes_of, with_parts, rest_of, are_parts_of, first_parts, parts_of, parts_below, prefixes, dictionary, Accepted}
use Rattle.theory.proofs.Lists.{true-false, nil-cons, lt_or_ge, and_both, equal_eq, equal_refl}
use Rattle.theory.proofs.Merge.{row_below-is}
use Rattle.theory.proofs.Stage.{Laws}
use Rattle.theory.proofs.PairCheck.{Lawful}
use Rattle.theory.proofs.Neighbours.{Agree, check_local}
use Rattle.theory.proofs.RowsAt.{rows_in}

find-is : (rs : List (List ℕ)) (b d : List ℕ) → find rs b < length rs → get_or rs (find rs b) d ≡ b
find-is [] b d h = absurd (omega arith)
find-is (r ∷ rs) b d h = go (equal r b) refl (find-is rs b d)
  where
    go : (c : Bool) → equal r b ≡ c → (find rs b < length rs → get_or rs (find rs b) d ≡ b) → get_or (r ∷ rs) (find (r ∷ rs) b) d ≡ b
    go true e ih = rw (e, find) (equal_eq r b e)
    go false e ih = rw (e, find) (ih (let h' : suc (find rs b) < suc (length rs) = rw (e, find) at h in omega arith))

find-le : (rs : List (List ℕ)) (b d : List ℕ) (i : ℕ) → i < length rs → get_or rs i d ≡ b → find rs b ≤ i
find-le [] b d i h e = absurd (omega arith)
find-le (r ∷ rs) b d zero h e = rw (ap (λ (l : List ℕ). equal l b) e ∙ equal_refl b, find) (omega arith)
find-le (r ∷ rs) b d (suc i) h e = go (equal r b) refl (find-le rs b d i (omega arith) e)
  where
    go : (c : Bool) → equal r b ≡ c → find rs b ≤ i → find (r ∷ rs) b ≤ suc i
    go true f ih = rw (f, find) (omega arith)
    go false f ih = rw (f, find) (omega arith)

module _ (rows : List (List ℕ)) where
  beyond : (u : ℕ) → length rows ≤ u → bytes_of rows u ≡ (u - length rows) ∷ []
  beyond u h = get_or-eq_default rows ((u - length rows) ∷ []) h

  code-found : (b : ℕ) → find rows (b ∷ []) < length rows → code_of rows b ≡ find rows (b ∷ [])
  code-found b h = rw (lt-ltb (find rows (b ∷ [])) (length rows) h, code_of)

  code_lost : (b : ℕ) → length rows ≤ find rows (b ∷ []) → code_of rows b ≡ length rows + b
  code_lost b h = rw (le-ltb (find rows (b ∷ [])) (length rows) h, code_of)

  byte : (b : ℕ) → bytes_of rows (code_of rows b) ≡ b ∷ []
  byte b = ⊎_elim
      (λ h. ap (bytes_of rows) (code-found b h) ∙ find-is rows (b ∷ []) ((find rows (b ∷ []) - length rows) ∷ []) h)
      (λ h. ap (bytes_of rows) (code_lost b h) ∙ beyond (length rows + b) (omega arith) ∙ ap (λ (z : ℕ). z ∷ []) (omega arith))
      (lt_or_ge (find rows (b ∷ [])) (length rows))

  pub parts-length : (q : ℕ) → length (parts_below rows q) ≡ q
  unfolding parts_below
  parts-length zero = refl
  parts-length (suc q) = let e = parts-length q in omega (arith, length-append (parts_below rows q) (parts_of rows (parts_below rows q) q ∷ []))

  -- a row's parts are found once, over the rows before it
  pub parts_at : (q w : ℕ) → w < q → get_or (parts_below rows q) w none ≡ parts_of rows (parts_below rows w) w
  unfolding parts_below
  parts_at zero w h = absurd (omega arith)
  parts_at (suc q) w h = ⊎_elim
      (λ e. let e' : w ≡ q = omega arith in let k : w ≡ length (parts_below rows q) + 0 = omega (arith, parts-length q) in
      ap (λ (i : ℕ). get_or (parts_below rows q ++ parts_of rows (parts_below rows q) q ∷ []) i none) k
      ∙ get_or-append-add (parts_below rows q) (parts_of rows (parts_below rows q) q ∷ []) 0 none
      ∙ ap (λ (i : ℕ). parts_of rows (parts_below rows i) i) (sym e'))
      (λ l. get_or-append (parts_below rows q) (parts_of rows (parts_below rows q) q ∷ []) none w (omega (arith, parts-length q)) ∙ parts_at q w (omega arith))
      (eq-or-lt_of_le h)

  -- what the parts of a longer row are
  pub record Found (w : ℕ) (p : Parts) : Type 0 where
    pub left_below : p.left < w
    pub right_below : p.right < w
    pub joined : bytes_of rows p.left ++ bytes_of rows p.right ≡ bytes_of rows w
    pub pass : passes (with_parts rows (parts_below rows w)) w p.left p.right ≡ true

  some_same : {p q : Parts} → some p ≡ some q → p ≡ q
  some_same e = cc

  none-some : {p : Parts} → none ≡ some p → ⊥
  none-some e = let z : ◌≡◌ {A = ℕ} 0 1 = cc in omega arith

  first_found : (known : List (Option Parts)) (w : ℕ) (cs : List ℕ) (p : Parts) → first_parts rows known w cs ≡ some p
      → In p.left cs × (are_parts_of rows known w p.left ≡ true) × (p.right ≡ rest_of rows known w p.left)
  first_found known w [] p e = absurd (none-some e)
  first_found known w (c ∷ cs) p e = go (are_parts_of rows known w c) refl (first_found known w cs p)
    where
      go : (b : Bool) → are_parts_of rows known w c ≡ b
          → (first_parts rows known w cs ≡ some p → In p.left cs × (are_parts_of rows known w p.left ≡ true) × (p.right ≡ rest_of rows known w p.left))
          → In p.left (c ∷ cs) × (are_parts_of rows known w p.left ≡ true) × (p.right ≡ rest_of rows known w p.left)
      go true f ih =
          let q : record { left = c; right = rest_of rows known w c } ≡ p = some_same (rw (f, first_parts) at e) in
          let l : c ≡ p.left = ap (λ (x : Parts). x.left) q in
          (inl (sym l), (rw l at f), sym (ap (λ (x : Parts). x.right) q) ∙ ap (rest_of rows known w) l)
      go false f ih = let r = ih (rw (f, first_parts) at e) in (inr r.0, r.1, r.2)

  found : (w : ℕ) (p : Parts) → w < length rows → 1 < length (bytes_of rows w) → parts_of rows (parts_below rows w) w ≡ some p → Found w p
  found w p hw hl e =
      let known = parts_below rows w in
      let D = with_parts rows (parts_below rows w) in
      let e' : first_parts rows (parts_below rows w) w (prefixes (with_parts rows (parts_below rows w)) w) ≡ some p = rw (lt-ltb 1 (length (bytes_of rows w)) hl, parts_of) at e in
      let f = first_found (parts_below rows w) w (prefixes (with_parts rows (parts_below rows w)) w) p e' in
      let a = and_both (ltb p.left w) _ f.1 in
      let b = and_both (ltb (rest_of rows (parts_below rows w) w p.left) w) _ a.1 in
      let r : rest_of rows (parts_below rows w) w p.left < w = ltb-true _ _ b.0 in
      let i = rows_in (with_parts rows (parts_below rows w)) (length (bytes_of rows w) - 1) (bytes_of rows w) p.left f.0 in
      record {
        left_below = ltb-true _ _ a.0;
        right_below = rw f.2 r;
        joined = ap (λ (x : ℕ). bytes_of rows p.left ++ bytes_of rows x) f.2
            ∙ ap (λ (x : List ℕ). bytes_of rows p.left ++ x)
            (row_below-is (with_parts rows (parts_below rows w)) (length rows) (drop (length (bytes_of rows p.left)) (bytes_of rows w)) (omega arith)
            ∙ ap (drop (length (bytes_of rows p.left))) i.begins ∙ drop_at (bytes_of rows p.left) i.rest (length (bytes_of rows p.left)) refl)
            ∙ sym i.begins;
        pass = rw f.2 b.1;
      }

  option_cases : (o : Option Parts) → (o ≡ none → ⊥) → (p : Parts) × (o ≡ some p)
  option_cases none n = absurd (n refl)
  option_cases (some p) n = (p, refl)

  module _ (A : Accepted rows) where
    -- the parts of row w, and what they are if it is long
    has_parts_lem : (w : ℕ) → w < length rows → (p : Parts) × (parts_of rows (parts_below rows w) w ≡ some p)
    has_parts_lem w h = option_cases (parts_of rows (parts_below rows w) w) (λ e. A.parts w h (parts_at (length rows) w h ∙ e))

    left_is : (q w : ℕ) (h : w < length rows) → w < q → (with_parts rows (parts_below rows q)).left w ≡ (has_parts_lem w h).0.left
    left_is q w h l = ap (part_or (λ p. p.left) w) (parts_at q w l ∙ (has_parts_lem w h).1)

    right_is : (q w : ℕ) (h : w < length rows) → w < q → (with_parts rows (parts_below rows q)).right w ≡ (has_parts_lem w h).0.right
    right_is q w h l = ap (part_or (λ p. p.right) w) (parts_at q w l ∙ (has_parts_lem w h).1)

    long_lt : (u : ℕ) → ltb 1 (length (bytes_of rows u)) ≡ true → 1 < length (bytes_of rows u)
    long_lt u e = ltb-true 1 (length (bytes_of rows u)) e

    row-long : (u : ℕ) → ltb 1 (length (bytes_of rows u)) ≡ true → u < length rows
    row-long u e = ⊎_elim (λ h. h) (λ h. absurd (omega (arith, long_lt u e, ap length (beyond u h)))) (lt_or_ge u (length rows))

    -- the parts of a long row
    facts : (w : ℕ) (e : ltb 1 (length (bytes_of rows w)) ≡ true) → Found w (has_parts_lem w (row-long w e)).0
    facts w e = found w (has_parts_lem w (row-long w e)).0 (row-long w e) (long_lt w e) (has_parts_lem w (row-long w e)).1

    -- over the rows before w, the parts are those of the whole dictionary
    same-below : (w : ℕ) → w ≤ length rows → Agree (with_parts rows (parts_below rows w)) (with_parts rows (parts_below rows (length rows))) w
    same-below w hw = record {
      long = λ u h. refl;
      left = λ u h. left_is w u (omega arith) h ∙ sym (left_is (length rows) u (omega arith) (omega arith));
      right = λ u h. right_is w u (omega arith) h ∙ sym (right_is (length rows) u (omega arith) (omega arith));
    }

    single : (u : ℕ) → u < length rows → ltb 1 (length (bytes_of rows u)) ≡ false → byte_codes (with_parts rows (parts_below rows (length rows))) (bytes_of rows u) ≡ u ∷ []
    single u h e = go (bytes_of rows u) refl
      where
        go : (l : List ℕ) → bytes_of rows u ≡ l → byte_codes (with_parts rows (parts_below rows (length rows))) l ≡ u ∷ []
        go [] f = absurd (omega (arith, A.filled u h, ap length f))
        go (b ∷ []) f =
            let k = find-le rows (b ∷ []) ((u - length rows) ∷ []) u h f in
            let c : code_of rows b ≡ find rows (b ∷ []) = code-found b (omega arith) in
            ap (λ (z : ℕ). z ∷ []) (A.distinct (code_of rows b) u (omega arith) h (byte b ∙ sym f))
        go (b ∷ c ∷ l) f = absurd (true-false (sym (lt-ltb 1 (length (bytes_of rows u)) (omega (arith, ap length f))) ∙ e))

    laws : Laws (with_parts rows (parts_below rows (length rows)))
    laws = record {
      byte = byte;
      filled = λ u z. ⊎_elim
          (λ h. omega (arith, A.filled u h, ap length z))
          (λ h. nil-cons (sym z ∙ beyond u h))
          (lt_or_ge u (length rows));
      single = single;
      known = row-long;
      left_below = λ w e. let b = (facts w e).left_below in rw (left_is (length rows) w (row-long w e) (row-long w e)) b;
      right_below = λ w e. let b = (facts w e).right_below in rw (right_is (length rows) w (row-long w e) (row-long w e)) b;
      parts = λ w e.
          ap₂ (λ (x y : ℕ). bytes_of rows x ++ bytes_of rows y) (left_is (length rows) w (row-long w e) (row-long w e)) (right_is (length rows) w (row-long w e) (row-long w e))
          ∙ (facts w e).joined;
    }

    -- the check over the rows before a row is the same over all rows up to that limit (theorem 3)
    pub check-before : (w k u v m : ℕ) → w ≤ length rows → u < w → v < w → m ≤ w
        → walk (with_parts rows (parts_below rows w)) (listed_below (with_parts rows (parts_below rows w))) k u v m ≡ walk (dictionary rows) (listed_below (dictionary rows)) k u v m
    unfolding dictionary
    check-before w k u v m hw hu hv hm =
        check_local (with_parts rows (parts_below rows w)) (with_parts rows (parts_below rows (length rows))) w (same-below w hw)
        (λ x h e. let b = (facts x e).left_below in rw (left_is w x (row-long x e) h) b)
        (λ x h e. let b = (facts x e).right_below in rw (right_is w x (row-long x e) h) b)
        k u v m hu hv hm

    -- accepted rows make a lawful dictionary
    pub lawful : Lawful (dictionary rows)
    unfolding dictionary
    lawful = record {
      laws = laws;
      pairs = λ w e.
          let f = facts w e in
          rw (left_is (length rows) w (row-long w e) (row-long w e), right_is (length rows) w (row-long w e) (row-long w e))
          (sym (check-before w (suc ((has_parts_lem w (row-long w e)).0.left + (has_parts_lem w (row-long w e)).0.right)) (has_parts_lem w (row-long w e)).0.left (has_parts_lem w (row-long w e)).0.right w
          (let z = row-long w e in omega arith) f.left_below f.right_below (omega arith)) ∙ f.pass);
    }

    -- a text of octets has a row for each byte
    pub known-text : (t : List ℕ) → Octets t → KnownText (dictionary rows) t
    unfolding dictionary
    known-text [] o = tt
    known-text (b ∷ t) o = (rw (code-found b (A.bytes b o.0)) (A.bytes b o.0), known-text t o.1)
