-- The tree of a text's prefixes, and splicing: where the codes of a piece and those of a prefix end in the same code, they go on alike.
-- Rests on: codes whose neighbours all stay apart are the merge procedure's codes of what they spell.
use mathlib.Core.Path.{◌≡◌, refl, sym, ap, ap₂, ◌∙◌}
use mathlib.Core.Logic.{⊎_elim, ◌↔◌}
use mathlib.Core.List.{List, [], ◌∷◌, ◌++◌, append-nil, append_assoc, append_cancel_left, append_cancel_right}
use mathlib.Core.Bool.{true}
use Prim.Native.Nat.{ℕ, ◌+◌, ◌-◌, ◌≤◌, ◌<◌}
use native.Mathlib.Omega.{arith}
use lib.ListN.{length, take, drop, length-append}
use lib.Seq.{length-take-le, take_at, take-take, take-add, drop-drop}
use Rattle.theory.specs.Lists.{last_or}
use Rattle.theory.specs.Dictionary.{Dictionary, none, spell}
use Rattle.theory.specs.Merge.{encode}
use Rattle.theory.specs.Table.{last_code}
use Rattle.theory.specs.Tree.{above, number, end, parent_of, tree_number, tree_end, depth, interval_count}
use Rattle.theory.proofs.Lists.{snoc_last, nil-cons, last_or_append, lt_or_ge, snoc_view}
use Rattle.theory.proofs.Stage.{AllApart, spell-append, neighbours, unique}
use Rattle.theory.proofs.PairCheck.{Lawful}
use Rattle.theory.proofs.Merge.{merge_is_stage}
use Rattle.theory.proofs.Neighbours.{spell_snoc}
use Rattle.theory.proofs.Encode.{encode-spells, encode-nil, encode-parts}
use Rattle.theory.proofs.Tree.{above-own, above-le, above_parent, path_ind, tree_ind, above↔inside}

snoc_before : (X Y : List ℕ) (c d : ℕ) → X ++ c ∷ [] ≡ Y ++ d ∷ [] → X ≡ Y
snoc_before X Y c d e = append_cancel_right X Y (c ∷ []) (e ∙ ap (λ (z : ℕ). Y ++ z ∷ []) (sym (snoc_last X Y c d e)))

rest-nil : (X Q : List ℕ) → [] ≡ X ++ Q → Q ≡ []
rest-nil [] Q e = sym e
rest-nil (x ∷ X) Q e = absurd (nil-cons e)

some-length : (l : List ℕ) → (l ≡ [] → ⊥) → 0 < length l
some-length [] n = absurd (n refl)
some-length (x ∷ l) n = omega arith

module _ (D : Dictionary) where
  -- of a list's neighbours each is one of its first part or of its second, if these share a code
  glue : (q : ℕ) (X : List ℕ) (c : ℕ) (Q : List ℕ) → AllApart D q (X ++ c ∷ []) → AllApart D q (c ∷ Q) → AllApart D q (X ++ c ∷ Q)
  glue q [] c Q a b = b
  glue q (x ∷ []) c Q a b = (a.0, b)
  glue q (x ∷ y ∷ X) c Q a b = (a.0, glue q (y ∷ X) c Q a.1 b)

  module _ (A : Lawful D) where
    all_apart : (S : List ℕ) → encode D (spell D S) ≡ S → AllApart D D.count S
    all_apart S e = neighbours D A.laws D.count S (sym (merge_is_stage D A (spell D S)) ∙ e)

    -- C3
    pub splice : (a b d X P : List ℕ) (c : ℕ) (Q : List ℕ) → encode D a ≡ X ++ c ∷ [] → encode D (b ++ d) ≡ P ++ c ∷ Q → spell D Q ≡ d → encode D (a ++ d) ≡ X ++ c ∷ Q
    splice a b d X P c Q e f g = ap (encode D) text ∙ merge_is_stage D A (spell D (X ++ c ∷ Q)) ∙ unique D A.laws D.count (X ++ c ∷ Q) (glue D.count X c Q first second)
      where
        first : AllApart D D.count (X ++ c ∷ [])
        first = all_apart (X ++ c ∷ []) (encode-parts D A a (X ++ c ∷ []) [] (e ∙ sym (append-nil (X ++ c ∷ [])))).0

        second : AllApart D D.count (c ∷ Q)
        second = all_apart (c ∷ Q) (encode-parts D A (b ++ d) P (c ∷ Q) f).1

        text : a ++ d ≡ spell D (X ++ c ∷ Q)
        text =
            ap₂ (λ (x y : List ℕ). x ++ y) (sym (encode-spells D A a) ∙ ap (spell D) e ∙ spell_snoc D X c) (sym g)
            ∙ append_assoc (spell D X) (D.bytes c) (spell D Q) ∙ sym (spell-append D X (c ∷ Q))

    pub last_code-is : (a X : List ℕ) (c : ℕ) → encode D a ≡ X ++ c ∷ [] → last_code D a ≡ c
    unfolding last_code
    last_code-is a X c e = ap (last_or none) e ∙ last_or_append none none X (c ∷ []) (λ z. nil-cons (sym z))

    -- a text that is not empty has a last code
    last_some : (a : List ℕ) → 0 < length a → (X : List ℕ) × (encode D a ≡ X ++ last_code D a ∷ [])
    last_some a h = ⊎_elim
        (λ e. absurd (omega (arith, ap (length {A = ℕ}) (sym (encode-spells D A a) ∙ ap (spell D) e))))
        (λ r. (r.0, r.2 ∙ ap (λ (c : ℕ). r.0 ++ c ∷ []) (sym (last_code-is a r.0 r.1 r.2))))
        (snoc_view (encode D a))

    module _ (t : List ℕ) where
      -- a prefix's parent is shorter, and its codes are the prefix's without the last
      abbrev Parent : ℕ → ℕ → Type 0
      Parent q i = (q < i) × (encode D (take i t) ≡ encode D (take q t) ++ last_code D (take i t) ∷ [])

      pub parent_of_is : (i : ℕ) → parent_of D t i ≡ i - length (D.bytes (last_code D (take i t)))
      unfolding parent_of
      parent_of_is i = refl

      parent_of_lem : (i : ℕ) → 0 < i → i ≤ length t → Parent (parent_of D t i) i
      parent_of_lem i z h = go (last_some (take i t) (omega (arith, length-take-le i t h)))
        where
          c : ℕ
          c = last_code D (take i t)

          go : (X : List ℕ) × (encode D (take i t) ≡ X ++ c ∷ []) → Parent (parent_of D t i) i
          go r =
              let X = r.0 in
              let text : take i t ≡ spell D X ++ D.bytes c = sym (encode-spells D A (take i t)) ∙ ap (spell D) r.1 ∙ spell_snoc D X c in
              let n : length (spell D X) + length (D.bytes c) ≡ i = sym (length-append (spell D X) (D.bytes c)) ∙ ap (length {A = ℕ}) (sym text) ∙ length-take-le i t h in
              let s = some-length (D.bytes c) (A.laws.filled c) in
              let p : take (i - length (D.bytes c)) t ≡ spell D X =
              sym (take-take (i - length (D.bytes c)) i t (omega arith)) ∙ ap (take (i - length (D.bytes c))) text ∙ take_at (spell D X) (D.bytes c) (i - length (D.bytes c)) (omega arith) in
              rw (parent_of_is i) (omega arith, r.1 ∙ ap (λ (l : List ℕ). l ++ c ∷ []) (sym (ap (encode D) p ∙ (encode-parts D A (take i t) X (c ∷ []) r.1).0)))

      pub parent-lower : (i : ℕ) → 0 < i → i ≤ length t → parent_of D t i < i
      parent-lower i z h = (parent_of_lem i z h).0

      pub parent-codes : (i : ℕ) → 0 < i → i ≤ length t → encode D (take i t) ≡ encode D (take (parent_of D t i) t) ++ last_code D (take i t) ∷ []
      parent-codes i z h = (parent_of_lem i z h).1

      pub depth_root : depth D t 0 ≡ 0
      unfolding depth
      depth_root = ap (length {A = ℕ}) (encode-nil D A)

      pub depth_child : (i : ℕ) → 0 < i → i ≤ length t → depth D t i ≡ depth D t (parent_of D t i) + 1
      unfolding depth
      depth_child i z h = ap (length {A = ℕ}) (parent-codes i z h) ∙ length-append (encode D (take (parent_of D t i) t)) (last_code D (take i t) ∷ [])

      -- a code has one byte or more
      pub depth_le : (i : ℕ) → i ≤ length t → depth D t i ≤ i
      depth_le i h = tree_ind (parent_of D t) (length t) parent-lower (λ i. depth D t i ≤ i)
          (omega (arith, depth_root))
          (λ i z l ih. omega (arith, depth_child i z l, parent-lower i z l))
          i h

      grow : (p i : ℕ) → 0 < i → i ≤ length t → (Q : List ℕ) × (encode D (take (parent_of D t i) t) ≡ encode D (take p t) ++ Q) → (Q : List ℕ) × (encode D (take i t) ≡ encode D (take p t) ++ Q)
      grow p i z h r = (
        r.0 ++ last_code D (take i t) ∷ [],
        parent-codes i z h ∙ ap (λ (l : List ℕ). l ++ last_code D (take i t) ∷ []) r.1 ∙ append_assoc (encode D (take p t)) r.0 (last_code D (take i t) ∷ []),
      )

      same_length : (p e : ℕ) → p ≤ length t → e ≤ length t → encode D (take e t) ≡ encode D (take p t) → p ≡ e
      same_length p e hp he s =
          sym (length-take-le p t hp) ∙ ap (length {A = ℕ}) (sym (encode-spells D A (take p t)) ∙ ap (spell D) (sym s) ∙ encode-spells D A (take e t)) ∙ length-take-le e t he

      -- p is e or above it exactly if the codes of e begin with those of p
      pub above↔begins : (p e : ℕ) → p ≤ length t → e ≤ length t → (above (parent_of D t) p e ≡ true) ↔ ((Q : List ℕ) × (encode D (take e t) ≡ encode D (take p t) ++ Q))
      above↔begins p e hp he = (
        path_ind (parent_of D t) (length t) parent-lower p (λ e. (Q : List ℕ) × (encode D (take e t) ≡ encode D (take p t) ++ Q))
            ([], sym (append-nil (encode D (take p t)))) (grow p) e he,
        λ r. shrink e he r.0 r.1,
      )
        where
          own : (e : ℕ) → e ≤ length t → (Q : List ℕ) → Q ≡ [] → encode D (take e t) ≡ encode D (take p t) ++ Q → above (parent_of D t) p e ≡ true
          own e h Q n s = rw (same_length p e hp h (s ∙ ap (λ (l : List ℕ). encode D (take p t) ++ l) n ∙ append-nil (encode D (take p t)))) (above-own (parent_of D t) e)

          shrink : (e : ℕ) → e ≤ length t → (Q : List ℕ) → encode D (take e t) ≡ encode D (take p t) ++ Q → above (parent_of D t) p e ≡ true
          shrink = tree_ind (parent_of D t) (length t) parent-lower (λ e. (Q : List ℕ) → encode D (take e t) ≡ encode D (take p t) ++ Q → above (parent_of D t) p e ≡ true)
              (λ Q s. own 0 (omega arith) Q (rest-nil (encode D (take p t)) Q (sym (encode-nil D A) ∙ s)) s)
              (λ i z l ih Q s. ⊎_elim
              (λ n. own i l Q n s)
              (λ r. above_parent (parent_of D t) (length t) parent-lower p i z l (ih r.0 (snoc_before (encode D (take (parent_of D t i) t)) (encode D (take p t) ++ r.0) (last_code D (take i t)) r.1
              (sym (parent-codes i z l) ∙ s ∙ ap (λ (l : List ℕ). encode D (take p t) ++ l) r.2 ∙ sym (append_assoc (encode D (take p t)) r.0 (r.1 ∷ []))))))
              (snoc_view Q))

      pub tree_number-is : (i : ℕ) → tree_number D t i ≡ number (parent_of D t) (length t) i
      unfolding tree_number
      tree_number-is i = refl

      pub tree_end-is : (i : ℕ) → tree_end D t i ≡ end (parent_of D t) (length t) i
      unfolding tree_end
      tree_end-is i = refl

      -- the tree number and the tree end of a prefix tell which prefixes are below it
      pub above↔numbers : (p e : ℕ) → p ≤ length t → e ≤ length t → (above (parent_of D t) p e ≡ true) ↔ ((tree_number D t p ≤ tree_number D t e) × (tree_number D t e < tree_end D t p))
      above↔numbers p e hp he = rw (tree_number-is p, tree_number-is e, tree_end-is p) (above↔inside (parent_of D t) (length t) parent-lower p e hp he)

      -- a piece of the text up to p, and on to e
      piece-more : (s p e : ℕ) → s ≤ p → p ≤ e → take (e - s) (drop s t) ≡ take (p - s) (drop s t) ++ take (e - p) (drop p t)
      piece-more s p e hs hp =
          let n : e - s ≡ p - s + (e - p) = omega arith in
          let m : s + (p - s) ≡ p = omega arith in
          ap (λ (k : ℕ). take k (drop s t)) n ∙ take-add (p - s) (e - p) (drop s t)
          ∙ ap (λ (l : List ℕ). take (p - s) (drop s t) ++ take (e - p) l) (drop-drop (p - s) s t ∙ ap (λ (k : ℕ). drop k t) m)

      -- C3 on a piece from s: if its codes up to p end in the code in which those of the first p bytes end, both go on alike
      pub splice-piece : (s p e : ℕ) (X : List ℕ) (c : ℕ) (Q : List ℕ) → s ≤ p → p ≤ e → e ≤ length t
          → encode D (take (p - s) (drop s t)) ≡ X ++ c ∷ [] → last_code D (take p t) ≡ c → encode D (take e t) ≡ encode D (take p t) ++ Q
          → encode D (take (e - s) (drop s t)) ≡ encode D (take (p - s) (drop s t)) ++ Q
      splice-piece s p e X c Q hs hp he f g h =
          ap (encode D) (piece-more s p e hs hp) ∙ splice (take (p - s) (drop s t)) (take p t) d X last.0 c Q f whole rest
          ∙ sym (append_assoc X (c ∷ []) Q) ∙ ap (λ (l : List ℕ). l ++ Q) (sym f)
        where
          d : List ℕ
          d = take (e - p) (drop p t)

          text : take e t ≡ take p t ++ d
          text = let n : e ≡ p + (e - p) = omega arith in ap (λ (k : ℕ). take k t) n ∙ take-add p (e - p) t

          rest : spell D Q ≡ d
          rest = append_cancel_left (take p t) (spell D Q) d
              (ap (λ (l : List ℕ). l ++ spell D Q) (sym (encode-spells D A (take p t))) ∙ sym (spell-append D (encode D (take p t)) Q) ∙ ap (spell D) (sym h) ∙ encode-spells D A (take e t) ∙ text)

          some : 0 < p
          some = ⊎_elim
              (λ z. z)
              (λ z. let n : p - s ≡ 0 = omega arith in
              absurd (nil-cons (sym (rest-nil X (c ∷ []) (sym (encode-nil D A) ∙ ap (λ (k : ℕ). encode D (take k (drop s t))) (sym n) ∙ f)))))
              (lt_or_ge 0 p)

          last : (P : List ℕ) × (encode D (take p t) ≡ P ++ last_code D (take p t) ∷ [])
          last = last_some (take p t) (omega (arith, some, length-take-le p t (omega arith)))

          whole : encode D (take p t ++ d) ≡ last.0 ++ c ∷ Q
          whole =
              ap (encode D) (sym text) ∙ h ∙ ap (λ (l : List ℕ). l ++ Q) (last.1 ∙ ap (λ (z : ℕ). last.0 ++ z ∷ []) g)
              ∙ append_assoc last.0 (c ∷ []) Q

      -- the count of an interval from s to e, if its codes and those of the first p bytes end in the same code at p, and p is e or above it
      pub interval_count_lem : (s p e : ℕ) (X : List ℕ) (c : ℕ) → s ≤ p → e ≤ length t
          → encode D (take (p - s) (drop s t)) ≡ X ++ c ∷ [] → last_code D (take p t) ≡ c → above (parent_of D t) p e ≡ true
          → (depth D t p ≤ depth D t e) × (interval_count D t s e ≡ interval_count D t s p + (depth D t e - depth D t p))
      unfolding depth interval_count
      interval_count_lem s p e X c hs he f g a =
          let hp = above-le (parent_of D t) (length t) parent-lower p e he a in
          let r = (above↔begins p e (omega arith) he).0 a in
          let i = ap (length {A = ℕ}) (splice-piece s p e X c r.0 hs hp he f g r.1) ∙ length-append (encode D (take (p - s) (drop s t))) r.0 in
          let d = ap (length {A = ℕ}) r.1 ∙ length-append (encode D (take p t)) r.0 in
          (omega arith, omega arith)
