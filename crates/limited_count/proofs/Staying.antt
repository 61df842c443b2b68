-- The codes so far stay where their seam with what is left is not marked. Assumes nothing.
use mathlib.Core.Path.{◌≡◌, refl, sym, ap, ap₂, ◌∙◌}
use mathlib.Core.List.{List, ◌∷◌, ◌++◌}
use mathlib.Core.Bool.{Bool, true, false, not, ◌||◌}
use Prim.Native.Nat.{ℕ, ◌+◌, ◌-◌, ◌≤◌, ◌<◌}
use native.Mathlib.Omega.{arith}
use lib.ListN.{length, length-append, get_or, drop, get_or-append}
use lib.Seq.{get_or-append-add}
use lib.Dec.{eqb, ltb}
use borrow.Author.Tests.{ltb-true, lt-ltb, le-ltb, eq-eqb, ne_eqb, not-true}
use Rattle.marks.specs.Marks.{marked}
use Rattle.theory.specs.Dictionary.{Dictionary, spell}
use Rattle.theory.specs.Merge.{encode}
use Rattle.theory.specs.PairCheck.{passes}
use Rattle.theory.specs.Backtracking.{State, codes, place}
use Rattle.theory.proofs.Lists.{and_both}
use Rattle.theory.proofs.RowsAt.{filled}
use Rattle.theory.proofs.Neighbours.{spell_snoc}
use Rattle.theory.proofs.Backtracking.{Going, place_is}
use Rattle.theory.proofs.Over.{codes_stay}
use Rattle.tables.specs.Tables.{Tables}
use Rattle.pair_check.specs.Pair.{seam_key, first_byte, last_byte, PairReady}
use Rattle.pair_check.proofs.Seams.{pass-unmarked}
use Rattle.built_tables.specs.Built.{Built, dictionary_of}
use Rattle.built_tables.proofs.Rows.{octets, lawful-is, known, count_is, bytes_are, pass-is}
use Rattle.built_tables.proofs.InForm.{ready}
use Rattle.backtrack_encoder.specs.declared.BacktrackEncoder.{BacktrackEncoder}
use Rattle.backtrack_encoder.specs.Encoder.{EncoderReady, Shows}
use Rattle.backtrack_encoder.proofs.Stack.{stack-length}
use Rattle.limited_count.specs.Stops.{stays_at}

-- the cases of the test
module _ (area text : List ℕ) (pos : ℕ) where
  abbrev seam_marked : Bool
  seam_marked = marked area 14848 (seam_key (get_or text (pos - 1) 0) (get_or text pos 0))

  pub stays-end : length text ≤ pos → false ≡ stays_at area text pos
  unfolding stays_at
  stays-end h = sym (rw (le-ltb pos (length text) h, stays_at))

  pub stays-front : pos < length text → pos ≡ 0 → true ≡ stays_at area text pos
  unfolding stays_at
  stays-front h z = sym (rw (lt-ltb pos (length text) h, eq-eqb pos 0 z, stays_at))

  pub stays-seam : (b : Bool) → pos < length text → (pos ≡ 0 → ⊥) → b ≡ seam_marked → not b ≡ stays_at area text pos
  unfolding stays_at
  stays-seam b h z e = rw e (sym (rw (lt-ltb pos (length text) h, ne_eqb pos 0 z, stays_at)))

  stays-left : stays_at area text pos ≡ true → pos < length text
  unfolding stays_at
  stays-left e = ltb-true pos (length text) (and_both (ltb pos (length text)) (eqb pos 0 || not seam_marked) e).0

  stays-unmarked : stays_at area text pos ≡ true → 0 < pos → seam_marked ≡ false
  unfolding stays_at
  stays-unmarked e h =
      let o = (and_both (ltb pos (length text)) (eqb pos 0 || not seam_marked) e).1 in
      let z : eqb pos 0 ≡ false = ne_eqb pos 0 (λ y. omega arith) in
      not-true seam_marked (rw z at o)

module _ (T : Tables) (n : ℕ) (B : Built T n) (text : List ℕ) where
  open T use {file, area}

  abbrev D : Dictionary
  D = dictionary_of file

  -- the last byte before the place is that of the last code, and the first one behind it that of a row that begins it
  module _ (a : List ℕ) (u v : ℕ) (r : List ℕ) (hu : u < n) (hv : v < n) (e : text ≡ (a ++ D.bytes u) ++ (D.bytes v ++ r)) where
    some : (c : ℕ) → 0 < length (D.bytes c)
    some c = filled D (lawful-is T n B) c

    last_is : get_or text (length (a ++ D.bytes u) - 1) 0 ≡ last_byte file u
    unfolding last_byte
    last_is =
        let k : length (a ++ D.bytes u) - 1 ≡ length a + (length (D.bytes u) - 1) = omega (arith, length-append a (D.bytes u), some u) in
        ap (λ (t : List ℕ). get_or t (length (a ++ D.bytes u) - 1) 0) e
        ∙ get_or-append (a ++ D.bytes u) (D.bytes v ++ r) 0 (length (a ++ D.bytes u) - 1) (omega (arith, length-append a (D.bytes u), some u))
        ∙ ap (λ (i : ℕ). get_or (a ++ D.bytes u) i 0) k
        ∙ get_or-append-add a (D.bytes u) (length (D.bytes u) - 1) 0
        ∙ ap (λ (t : List ℕ). get_or t (length t - 1) 0) (bytes_are T n B u hu)

    first-is : get_or text (length (a ++ D.bytes u)) 0 ≡ first_byte file v
    unfolding first_byte
    first-is =
        let k : length (a ++ D.bytes u) ≡ length (a ++ D.bytes u) + 0 = omega arith in
        ap₂ (λ (t : List ℕ) (i : ℕ). get_or t i 0) e k
        ∙ get_or-append-add (a ++ D.bytes u) (D.bytes v ++ r) 0 0
        ∙ get_or-append (D.bytes v) r 0 0 (some v)
        ∙ ap (λ (t : List ℕ). get_or t 0 0) (bytes_are T n B v hv)

    pair-ready : PairReady (record { file = T.file; places = T.places; lefts = T.lefts; rights = T.rights; area = T.area }) n n u v
    pair-ready = record {
      places_ready = (ready T n B).places_ready;
      parts_ready = (ready T n B).parts_ready;
      area_room = B.area_room;
      few = omega arith;
      left_below = hu;
      right_below = hv;
    }

    -- so the two pass
    pub unmarked-pass : marked area 14848 (seam_key (get_or text (length (a ++ D.bytes u) - 1) 0) (get_or text (length (a ++ D.bytes u)) 0)) ≡ false
        → passes D D.count u v ≡ true
    unmarked-pass off =
        let z : marked area 14848 (seam_key (last_byte file u) (first_byte file v)) ≡ false =
        ap (marked area 14848) (ap₂ seam_key (sym last_is) (sym first-is)) ∙ off in
        sym (pass-is T n B u v true (pass-unmarked _ n n u v pair-ready false (sym z) refl))

  -- the last code of a state passes with each row that begins what is left
  pub stay_passes : (s : State) → Going D text s → (pos : ℕ) → pos ≡ place D s.stack → stays_at area text pos ≡ true
      → (u : ℕ) (K : List ℕ) (v : ℕ) (r : List ℕ) → s.stack ≡ u ∷ K → v < D.count
      → drop (place D s.stack) text ≡ D.bytes v ++ r → passes D D.count u v ≡ true
  stay_passes s g pos at stays u K v r f hv d =
      let a : List ℕ = spell D (codes K) in
      let hu : u < n = let q = (rw f at g.rows).0 in omega (arith, q, count_is T n B) in
      let hv' : v < n = omega (arith, count_is T n B) in
      let front : spell D (codes s.stack) ≡ a ++ D.bytes u = ap (λ (S : List ℕ). spell D (codes S)) f ∙ spell_snoc D (codes K) u in
      let whole : text ≡ (a ++ D.bytes u) ++ (D.bytes v ++ r) = g.text ∙ ap₂ (λ (x y : List ℕ). x ++ y) front d in
      let size : length (a ++ D.bytes u) ≡ pos = sym (ap length front) ∙ place_is D s.stack ∙ sym at in
      let some : 0 < pos = omega (arith, size, length-append a (D.bytes u), filled D (lawful-is T n B) u) in
      unmarked-pass a u v r hu hv' whole (rw size (stays-unmarked area text pos stays some))

  -- so the codes of a state stay, and there are more
  pub stays-over : ((i : ℕ) → get_or text i 0 < 256) → (e : BacktrackEncoder) (work alive : List ℕ) (s : State) → Going D text s
      → EncoderReady file n text e work → Shows D text e work alive s → stays_at area text e.pos ≡ true
      → e.count < length (encode D text)
  stays-over bytes e work alive s g E v stays =
      let at : e.pos ≡ place D s.stack = E.reached ∙ ap (place D) (sym v.stack) in
      let size : length s.stack ≡ e.count = ap length v.stack ∙ stack-length work e.count in
      let more = codes_stay D (lawful-is T n B) text (known T n B text (octets text bytes)) s g
      (omega (arith, at, stays-left area text e.pos stays)) (stay_passes s g e.pos at stays) in
      omega (arith, more, size)
