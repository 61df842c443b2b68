-- The end code of a text with one more byte, by first joins: from the byte's own row on, as long as a row joins what is reached and the end
-- code of the bytes before it.
use mathlib.Core.Path.{◌≡◌, refl, sym, ap, ◌∙◌}
use mathlib.Core.Logic.{⊎_elim}
use mathlib.Core.List.{List, [], ◌∷◌, ◌++◌, append-nil}
use mathlib.Core.Bool.{Bool, true, false}
use Prim.Native.Nat.{ℕ, suc, ◌≤◌, ◌<◌}
use native.Mathlib.Decide.{le_ind}
use native.Mathlib.Omega.{arith}
use Rattle.theory.specs.Lists.{first_or, last_or}
use Rattle.theory.specs.Dictionary.{Dictionary, none, spell}
use Rattle.theory.specs.Merge.{encode, byte_codes}
use Rattle.theory.specs.Paper.{pass, listed, stage}
use Rattle.theory.specs.Typing.{Side, append, prepend, end_code}
use Rattle.theory.specs.FirstJoin.{joins_at, other_part, FirstJoin}
use Rattle.theory.proofs.Lists.{true-false, last_or_append, lt_or_ge}
use Rattle.theory.proofs.Pass.{seam, meet, pass-hit, join_last}
use Rattle.theory.proofs.Stage as St
use Rattle.theory.proofs.PairCheck.{Lawful, itself}
use Rattle.theory.proofs.Neighbours.{spell_snoc}
use Rattle.theory.proofs.Merge.{merge_is_stage}
use Rattle.theory.proofs.Encode.{encode-row}
use Rattle.theory.proofs.Sides.{with_code, with_view, end_code_with, empty-text}

-- bytes beside others, on the side where they are typed
abbrev pub beside : Side → List ℕ → List ℕ → List ℕ
beside append a b = a ++ b
beside prepend a b = b ++ a

module _ (D : Dictionary) (A : Lawful D) where
  -- row s has come to stand beside the bytes a of a text, after the passes of the rows below some row
  pub record Reached (side : Side) (text : List ℕ) (s : ℕ) (a : List ℕ) : Type 0 where
    pub row : s < D.count
    pub below : ℕ
    pub others : List ℕ
    pub cut : stage D below text ≡ with_code side others s
    pub spelled : spell D others ≡ a

  spell_one : (s : ℕ) → spell D (s ∷ []) ≡ D.bytes s
  spell_one s = append-nil (D.bytes s)

  spell_with : (side : Side) (X : List ℕ) (s : ℕ) → spell D (with_code side X s) ≡ beside side (spell D X) (D.bytes s)
  spell_with append X s = spell_snoc D X s
  spell_with prepend X s = refl

  -- the text is those bytes, and the bytes of the row
  text-is : (side : Side) (text : List ℕ) (s : ℕ) (a : List ℕ) → Reached side text s a → text ≡ beside side a (D.bytes s)
  text-is side text s a R =
      sym (St.spell-stage D A.laws R.below text) ∙ ap (spell D) R.cut ∙ spell_with side R.others s ∙ ap (λ (l : List ℕ). beside side l (D.bytes s)) R.spelled

  -- the row is whole from some pass on
  abbrev Whole : ℕ → ℕ → Type 0
  Whole s w = stage D w (D.bytes s) ≡ s ∷ []

  whole-later : (s p w : ℕ) → p ≤ w → Whole s p → Whole s w
  whole-later s p w h e = le_ind {n = p} (λ j. Whole s j) e (λ m hm ih. rw ih) w h

  whole_above : (s w : ℕ) → s < D.count → s < w → Whole s w
  whole_above s w k h = itself D A s w k (λ _. h)

  -- whether the pass of row w joins across the seam
  abbrev crosses : Side → List ℕ → ℕ → ℕ → Bool
  crosses append a s w = seam w (listed D w) (stage D (suc w) a) (stage D w (D.bytes s))
  crosses prepend a s w = seam w (listed D w) (stage D (suc w) (D.bytes s)) (stage D w a)

  -- no pass before the cut does
  uncrossed : (side : Side) (text : List ℕ) (s : ℕ) (a : List ℕ) (R : Reached side text s a) (w : ℕ) → w < R.below → crosses side a s w ≡ false
  uncrossed append text s a R w h = simp (R.spelled, append-nil) at (St.crossless D A.laws R.below text R.others (s ∷ []) R.cut w h)
  uncrossed prepend text s a R w h = simp (R.spelled, append-nil) at (St.crossless D A.laws R.below text (s ∷ []) R.others R.cut w h)

  reached-whole : (side : Side) (text : List ℕ) (s : ℕ) (a : List ℕ) (R : Reached side text s a) → Whole s R.below
  reached-whole append text s a R = rw append-nil at (St.project D A.laws R.below text R.others (s ∷ []) R.cut).1
  reached-whole prepend text s a R = rw append-nil at (St.project D A.laws R.below text (s ∷ []) R.others R.cut).0

  -- across the seam of a whole row and bytes whose end code is u stands u's own end
  crosses-is : (side : Side) (a Y : List ℕ) (u s w : ℕ) → encode D a ≡ with_code side Y u → Whole s w → w < D.count → crosses side a s w ≡ joins_at D side u s w
  crosses-is append a Y u s w e o h =
      let d : stage D (suc w) a ≡ stage D (suc w) (spell D Y) ++ stage D (suc w) (D.bytes u) =
      simp append-nil at (St.down D A.laws D.count (suc w) a Y (u ∷ []) h (sym (merge_is_stage D A a) ∙ e)) in
      ap (seam w (listed D w) (stage D (suc w) a)) o
      ∙ ap (λ (x : ℕ). listed D w x s) (ap (last_or w) d ∙ last_or_append w w (stage D (suc w) (spell D Y)) (stage D (suc w) (D.bytes u)) (St.stage-filled D A.laws (suc w) u))
  crosses-is prepend a Y u s w e o h =
      let d : stage D w a ≡ stage D w (D.bytes u) ++ stage D w (spell D Y) =
      simp append-nil at (St.down D A.laws D.count w a (u ∷ []) Y (omega arith) (sym (merge_is_stage D A a) ∙ e)) in
      ap (λ (X : List ℕ). seam w (listed D w) X (stage D w a)) (whole-later s w (suc w) (omega arith) o)
      ∙ ap (meet w (listed D w) s) d
      ∙ St.meet-append D A.laws w s (stage D w (D.bytes u)) (stage D w (spell D Y)) (St.stage-filled D A.laws w u)
      ∙ meet-first (stage D w (D.bytes u)) (St.stage-filled D A.laws w u)
    where
      meet-first : (B : List ℕ) → (B ≡ [] → ⊥) → meet w (listed D w) s B ≡ listed D w s (first_or w B)
      meet-first [] f = absurd (f refl)
      meet-first (y ∷ B) f = refl

  -- stages across a seam that no pass before crosses
  stage-beside : (side : Side) (a : List ℕ) (s q : ℕ) → ((w : ℕ) → w < q → crosses side a s w ≡ false) → stage D q (beside side a (D.bytes s)) ≡ beside side (stage D q a) (stage D q (D.bytes s))
  stage-beside append a s q c = St.stage-append D A.laws q a (D.bytes s) c
  stage-beside prepend a s q c = St.stage-append D A.laws q (D.bytes s) a c

  beside-one : (side : Side) (X : List ℕ) (s : ℕ) → beside side X (s ∷ []) ≡ with_code side X s
  beside-one append X s = refl
  beside-one prepend X s = refl

  -- each byte alone
  pub reached-byte : (side : Side) (a : List ℕ) (b : ℕ) → D.code b < D.count → Reached side (beside side a (b ∷ [])) (D.code b) a
  reached-byte append a b h = record { row = h; below = 0; others = byte_codes D a; cut = St.stage-append D A.laws 0 a (b ∷ []) (λ p l. absurd (omega arith)); spelled = St.spell_unit D A.laws a }
  reached-byte prepend a b h = record { row = h; below = 0; others = byte_codes D a; cut = refl; spelled = St.spell_unit D A.laws a }

  -- a row that reaches the other end of the text
  pub reached-all : (side : Side) (text : List ℕ) (s : ℕ) → Reached side text s [] → end_code side (encode D text) ≡ s
  reached-all side text s R = ap (λ (t : List ℕ). end_code side (encode D t)) (text-is side text s [] R ∙ alone side) ∙ ap (end_code side) (encode-row D A s R.row) ∙ one side
    where
      alone : (side : Side) → beside side [] (D.bytes s) ≡ D.bytes s
      alone append = refl
      alone prepend = append-nil (D.bytes s)

      one : (side : Side) → end_code side (s ∷ []) ≡ s
      one append = refl
      one prepend = refl

  -- the end code of some bytes
  pub record EndOf (side : Side) (a : List ℕ) (u : ℕ) : Type 0 where
    pub others : List ℕ
    pub codes : encode D a ≡ with_code side others u

  pub end_of : (side : Side) (a : List ℕ) → (a ≡ [] → ⊥) → EndOf side a (end_code side (encode D a))
  end_of side a f = ⊎_elim
      (λ e. absurd (f (empty-text D A a e)))
      (λ v. record { others = v.0; codes = v.2 ∙ ap (with_code side v.0) (sym (ap (end_code side) v.2 ∙ end_code_with side v.0 v.1)) })
      (with_view side (encode D a))

  -- what a row that joins the two has of them
  typed-part : (side : Side) (u s r : ℕ) → joins_at D side u s r ≡ true → (r < D.count) × (s < r)
  typed-part append u s r e =
      let l = St.listed-is D r (last_or r (stage D (suc r) (D.bytes u))) s e in
      (A.laws.known r l.long, (let h = A.laws.right_below r l.long in omega (arith, l.right)))
  typed-part prepend u s r e =
      let l = St.listed-is D r s (first_or r (stage D r (D.bytes u))) e in
      (A.laws.known r l.long, (let h = A.laws.left_below r l.long in omega (arith, l.left)))

  -- a row that joins across the seam, and no pass before its own does
  pub record Joined (side : Side) (text : List ℕ) (a : List ℕ) (r : ℕ) : Type 0 where
    pub row : r < D.count
    pub rest : List ℕ
    pub split : a ≡ beside side rest (D.bytes (other_part D side r))
    pub reached : Reached side text r rest

  join_across : (side : Side) (text : List ℕ) (s : ℕ) (a : List ℕ) (r : ℕ) → r < D.count → text ≡ beside side a (D.bytes s) → Whole s r
      → ((w : ℕ) → w < r → crosses side a s w ≡ false) → crosses side a s r ≡ true → Joined side text a r
  join_across append text s a r k t o clear cross =
      let J = join_last r (listed D r) (St.apart D A.laws r) (stage D r a) s (ap (seam r (listed D r) (stage D (suc r) a)) (sym o) ∙ cross) in
      let l = St.listed-is D r J.last s J.meet_last in
      let before : stage D r text ≡ stage D r a ++ s ∷ [] = ap (stage D r) t ∙ stage-beside append a s r clear ∙ ap (λ (X : List ℕ). stage D r a ++ X) o in
      record {
        row = k;
        rest = spell D J.front;
        split = sym (St.spell-stage D A.laws (suc r) a) ∙ ap (spell D) J.before ∙ spell_snoc D J.front J.last ∙ ap (λ (x : ℕ). spell D J.front ++ D.bytes x) l.left;
        reached = record { row = k; below = suc r; others = J.front; cut = ap (pass r (listed D r)) before ∙ J.after; spelled = refl };
      }
  join_across prepend text s a r k t o clear cross = go (stage D r a) refl (ap (λ (X : List ℕ). seam r (listed D r) X (stage D r a)) (sym (whole-later s r (suc r) (omega arith) o)) ∙ cross)
    where
      go : (B : List ℕ) → stage D r a ≡ B → meet r (listed D r) s (stage D r a) ≡ true → Joined prepend text a r
      go [] e c = absurd (true-false (sym c ∙ ap (meet r (listed D r) s) e))
      go (y ∷ B) e c =
          let m : listed D r s y ≡ true = sym (ap (meet r (listed D r) s) e) ∙ c in
          let l = St.listed-is D r s y m in
          let before : stage D r text ≡ s ∷ y ∷ B = ap (stage D r) t ∙ stage-beside prepend a s r clear ∙ ap (λ (X : List ℕ). X ++ stage D r a) o ∙ ap (λ (X : List ℕ). s ∷ X) e in
          record {
            row = k;
            rest = spell D B;
            split = sym (St.spell-stage D A.laws r a) ∙ ap (spell D) e ∙ ap (λ (x : ℕ). D.bytes x ++ spell D B) l.right;
            reached = record { row = k; below = suc r; others = pass r (listed D r) B; cut = ap (pass r (listed D r)) before ∙ pass-hit r (listed D r) s y B m; spelled = St.spell-pass D A.laws r B };
          }

  module _ (side : Side) (text : List ℕ) (s : ℕ) (a : List ℕ) (R : Reached side text s a) (u : ℕ) (E : EndOf side a u) (r : ℕ) (F : FirstJoin D side u s r) where
    -- no row joins the two: the row is the end code
    pub reached-end : r ≡ none → end_code side (encode D text) ≡ s
    reached-end z =
        ap (λ (t : List ℕ). end_code side (encode D t)) (text-is side text s a R)
        ∙ ap (end_code side) (merge_is_stage D A (beside side a (D.bytes s)) ∙ stage-beside side a s D.count clear ∙ ap (beside side (stage D D.count a)) (whole_above s D.count R.row R.row) ∙ beside-one side (stage D D.count a) s)
        ∙ end_code_with side (stage D D.count a) s
      where
        clear : (w : ℕ) → w < D.count → crosses side a s w ≡ false
        clear w h = ⊎_elim
            (λ l. uncrossed side text s a R w l)
            (λ l. crosses-is side a E.others u s w E.codes (whole-later s R.below w l (reached-whole side text s a R)) h ∙ F.nothing z w h)
            (lt_or_ge w R.below)

    -- a row joins them: it comes to stand beside what is left
    pub reached-join : (r ≡ none → ⊥) → Joined side text a r
    reached-join some =
        let t = typed-part side u s r (F.joined some) in
        let o = whole_above s r R.row t.1 in
        join_across side text s a r t.0 (text-is side text s a R) o (clear t.0) (crosses-is side a E.others u s r E.codes o t.0 ∙ F.joined some)
      where
        clear : r < D.count → (w : ℕ) → w < r → crosses side a s w ≡ false
        clear k w h = ⊎_elim
            (λ l. uncrossed side text s a R w l)
            (λ l. crosses-is side a E.others u s w E.codes (whole-later s R.below w l (reached-whole side text s a R)) (omega arith) ∙ F.lowest some w h)
            (lt_or_ge w R.below)
