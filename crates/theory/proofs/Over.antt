-- What is known of the final count before the text is done. Codes stay where the last of them passes with every row that
-- begins what is left; and every code list has a cut among as many places in a row as the longest row has bytes.
use mathlib.Core.Path.{◌≡◌, refl, sym, ap, ◌∙◌}
use mathlib.Core.Logic.{⊎_elim}
use mathlib.Core.List.{List, [], ◌∷◌, ◌++◌}
use mathlib.Core.Bool.{true}
use Prim.Native.Nat.{ℕ, ◌+◌, ◌-◌, ◌≤◌, ◌<◌}
use native.Mathlib.Omega.{arith}
use lib.ListN.{length, length-append, length-drop, take, drop}
use lib.Seq.{take_at}
use Rattle.theory.specs.Dictionary.{Dictionary, spell, AllRows, KnownText}
use Rattle.theory.specs.Merge.{encode}
use Rattle.theory.specs.PairCheck.{passes, AllPass}
use Rattle.theory.specs.Backtracking.{State, codes, place}
use Rattle.theory.proofs.Lists.{lt_or_ge}
use Rattle.theory.proofs.Stage as St
use Rattle.theory.proofs.PairCheck.{Lawful}
use Rattle.theory.proofs.Encode.{encode-spells, encode-rows, encode-passes, encode-only, encode-parts}
use Rattle.theory.proofs.Backtracking.{Going, codes_length, known-parts}

module _ (D : Dictionary) where
  -- two lists whose neighbours pass, joined where the last code of the one passes with the first of the other
  pass-join : (X : List ℕ) (u v : ℕ) (Y : List ℕ) → AllPass D (X ++ u ∷ []) → AllPass D (v ∷ Y)
      → passes D D.count u v ≡ true → AllPass D ((X ++ u ∷ []) ++ v ∷ Y)
  pass-join [] u v Y a b p = (a, p, b)
  pass-join (x ∷ []) u v Y a b p = (a.0, a.1, pass-join [] u v Y a.2 b p)
  pass-join (x ∷ y ∷ X) u v Y a b p = (a.0, a.1, pass-join (y ∷ X) u v Y a.2 b p)

  -- the code of a list that stands over place e
  record Crossing (M : List ℕ) (e : ℕ) : Type 0 where
    before : List ℕ
    code : ℕ
    after : List ℕ
    split : M ≡ before ++ code ∷ after
    row : code < D.count
    from : length (spell D before) ≤ e
    to : e < length (spell D before) + length (D.bytes code)

  crossing : (M : List ℕ) (e : ℕ) → AllRows D M → e < length (spell D M) → Crossing M e
  crossing [] e a h = absurd (omega arith)
  crossing (c ∷ M) e a h = ⊎_elim
      (λ l. record { before = []; code = c; after = M; split = refl; row = a.0; from = omega arith; to = omega arith })
      (λ l. later l (crossing M (e - length (D.bytes c)) a.1 (omega (arith, length-append (D.bytes c) (spell D M)))))
      (lt_or_ge e (length (D.bytes c)))
    where
      later : length (D.bytes c) ≤ e → Crossing M (e - length (D.bytes c)) → Crossing (c ∷ M) e
      later l r = record {
        before = c ∷ r.before;
        code = r.code;
        after = r.after;
        split = ap {B = List ℕ} (λ m. c ∷ m) r.split;
        row = r.row;
        from = omega (arith, r.from, length-append (D.bytes c) (spell D r.before));
        to = omega (arith, r.to, length-append (D.bytes c) (spell D r.before));
      }

module _ (D : Dictionary) (A : Lawful D) (t : List ℕ) (k : KnownText D t) where
  -- text is left, and the last code passes with every row that begins it: the codes so far stay, and there are more
  pub codes_stay : (s : State) → Going D t s → place D s.stack < length t
      → ((u : ℕ) (K : List ℕ) (v : ℕ) (r : List ℕ) → s.stack ≡ u ∷ K → v < D.count
      → drop (place D s.stack) t ≡ D.bytes v ++ r → passes D D.count u v ≡ true)
      → length s.stack < length (encode D t)
  codes_stay s g left ok = go (encode D rest) refl
    where
      rest : List ℕ
      rest = drop (place D s.stack) t

      parts : KnownText D (spell D (codes s.stack)) × KnownText D rest
      parts = known-parts D (spell D (codes s.stack)) rest (rw g.text at k)

      spelled : (Y : List ℕ) → encode D rest ≡ Y → rest ≡ spell D Y
      spelled Y e = sym (encode-spells D A rest) ∙ ap (spell D) e

      here : AllPass D (codes s.stack)
      here = rw g.own at (encode-passes D A (spell D (codes s.stack)) parts.0)

      joined : (K : List ℕ) → s.stack ≡ K → AllPass D (codes K) → (v : ℕ) (Y : List ℕ) → encode D rest ≡ v ∷ Y
          → AllPass D (codes K ++ v ∷ Y)
      joined [] f a v Y e = rw e at (encode-passes D A rest parts.1)
      joined (u ∷ K) f a v Y e =
          let b : AllPass D (v ∷ Y) = rw e at (encode-passes D A rest parts.1) in
          let h : AllRows D (v ∷ Y) = rw e at (encode-rows D A rest parts.1) in
          pass-join D (codes K) u v Y a b (ok u K v (spell D Y) f h.0 (spelled (v ∷ Y) e))

      go : (Y : List ℕ) → encode D rest ≡ Y → length s.stack < length (encode D t)
      go [] e = absurd (omega (arith, ap length (spelled [] e), length-drop (place D s.stack) t))
      go (v ∷ Y) e =
          let a : AllPass D (codes s.stack ++ v ∷ Y) = joined s.stack refl here v Y e in
          let w : spell D (codes s.stack ++ v ∷ Y) ≡ t =
          St.spell-append D (codes s.stack) (v ∷ Y)
          ∙ ap (λ (l : List ℕ). spell D (codes s.stack) ++ l) (sym (spelled (v ∷ Y) e)) ∙ sym g.text in
          let q : encode D t ≡ codes s.stack ++ v ∷ Y = ap (encode D) (sym w) ∙ encode-only D A (codes s.stack ++ v ∷ Y) a in
          omega (arith, ap length q, length-append (codes s.stack) (v ∷ Y), codes_length s.stack)

  -- no row has more than w bytes, and the text up to each of the w places that end at e has `limit` codes or more, with
  -- text left behind them: one of these places is a cut of the text's own codes
  pub all_of_last : (w e limit : ℕ) → ((c : ℕ) → c < D.count → length (D.bytes c) ≤ w) → e < length t
      → ((q : ℕ) → q ≤ e → e < q + w → limit ≤ length (encode D (take q t)))
      → limit < length (encode D t)
  all_of_last w e limit short left many =
      let x = crossing D (encode D t) e (encode-rows D A t k) (omega (arith, ap length (encode-spells D A t))) in
      let whole : t ≡ spell D x.before ++ spell D (x.code ∷ x.after) =
      sym (encode-spells D A t) ∙ ap (spell D) x.split ∙ St.spell-append D x.before (x.code ∷ x.after) in
      let front : take (length (spell D x.before)) t ≡ spell D x.before =
      ap (take (length (spell D x.before))) whole
      ∙ take_at (spell D x.before) (spell D (x.code ∷ x.after)) (length (spell D x.before)) refl in
      let own : encode D (take (length (spell D x.before)) t) ≡ x.before =
      ap (encode D) front ∙ (encode-parts D A t x.before (x.code ∷ x.after) x.split).0 in
      let m = many (length (spell D x.before)) x.from (omega (arith, x.to, short x.code x.row)) in
      omega (arith, m, ap length own, ap length x.split, length-append x.before (x.code ∷ x.after))
