-- The bytes that codes spell, counted and written code by code. Assumes nothing.
use mathlib.Core.Path.{◌≡◌, refl, sym, ap, ap₂, ◌∙◌}
use mathlib.Core.List.{List, [], ◌∷◌, ◌++◌}
use Prim.Native.Nat.{ℕ, ◌+◌, ◌-◌, ◌*◌, ◌≤◌, ◌<◌}
use native.Mathlib.Numerals.{add-one}
use native.Mathlib.Omega.{arith}
use lib.ListN.{length, get_or, take, drop, length-append, length-drop, take-append-drop}
use lib.Seq.{drop-cons, drop-length, take-suc, take_all, take_at, length-take-le, take-append-le, take-append-add}
use Rattle.phrase_file.specs.Form.{rows}
use Rattle.placed_rows.specs.Rows.{row, Placed}
use Rattle.std.proofs.lemmas.List.{get_or_default}
use Rattle.placed_rows.specs.Texts.{Begins}
use Rattle.placed_rows.proofs.Placing.{row-whole}
use Rattle.theory.specs.Dictionary.{Dictionary, spell}
use Rattle.theory.specs.Parts.{dictionary}
use Rattle.theory.proofs.Stage as St
use Rattle.theory.proofs.Neighbours.{spell_snoc}
use Rattle.tables.specs.Ready.{PlacesReady}
use Rattle.built_tables.specs.Built.{dictionary_of}
use Rattle.decoder.specs.Steps.{CodesReady, CopyReady, Copied}

-- a row as it is read through the places is a row of the dictionary
pub row-bytes : (file placeTable : List ℕ) (n : ℕ) → PlacesReady file placeTable n → (c : ℕ) → c < n → row file placeTable n c ≡ (dictionary_of file).bytes c
unfolding dictionary_of dictionary
row-bytes file placeTable n P c h =
    let e = P.count in
    P.rows_are c h ∙ get_or_default (rows file) c [] ((c - length (rows file)) ∷ []) (omega arith)

-- the code at i is a row, with the bytes that it spells
pub record CodeRow (file placeTable : List ℕ) (n : ℕ) (codes : List ℕ) (i : ℕ) : Type 0 where
  pub below : get_or codes i 0 < n
  pub bytes : row file placeTable n (get_or codes i 0) ≡ (dictionary_of file).bytes (get_or codes i 0)

pub code_row : (file placeTable : List ℕ) (n : ℕ) (codes : List ℕ) → CodesReady file placeTable n codes → (i : ℕ) → i < length codes
    → CodeRow file placeTable n codes i
code_row file placeTable n codes R i h =
    let k = R.known i h in
    record { below = k; bytes = row-bytes file placeTable n R.places_ready (get_or codes i 0) k }

-- the file from the first byte of row c on
module _ (file placeTable : List ℕ) (n c : ℕ) (placed : Placed file placeTable n) (below : c < n) where
  abbrev at : ℕ
  at = get_or placeTable c 0

  pub row_inside : at + 3 ≤ length file
  row_inside = omega (arith, placed.inside c below)

  pub row-ahead : Begins (row file placeTable n c) (take (length file - (at + 3)) (drop (at + 3) file))
  row-ahead =
      let l = get_or file (at + 3 - 1) 0 in
      let k = at + 3 + l - (at + 3) in
      let source = drop (at + 3) file in
      record {
        rest = drop k source;
        split = take_all (length file - (at + 3)) source (omega (arith, length-drop (at + 3) file)) ∙ sym (take-append-drop k source)
            ∙ ap (λ (x : List ℕ). x ++ drop k source) (row-whole file placeTable n c at l below refl refl);
      }

module _ (D : Dictionary) (codes : List ℕ) (i : ℕ) (h : i < length codes) where
  -- the code at i and those behind it
  spell_next : spell D (drop i codes) ≡ D.bytes (get_or codes i 0) ++ spell D (drop (i + 1) codes)
  spell_next = rw (add-one, drop-cons codes i 0 h)

  spell-front : spell D (take (i + 1) codes) ≡ spell D (take i codes) ++ D.bytes (get_or codes i 0)
  spell-front = rw (add-one, take-suc codes i 0 h) (spell_snoc D (take i codes) (get_or codes i 0))

  spell-cut : spell D codes ≡ spell D (take i codes) ++ (D.bytes (get_or codes i 0) ++ spell D (drop (i + 1) codes))
  spell-cut = ap (spell D) (sym (take-append-drop i codes)) ∙ St.spell-append D (take i codes) (drop i codes) ∙ ap (λ (l : List ℕ). spell D (take i codes) ++ l) spell_next

-- the bytes of the first i codes are counted
pub record Counted (D : Dictionary) (codes : List ℕ) (sum i : ℕ) : Type 0 where
  pub few : i ≤ length codes
  pub small : sum ≤ 256 * i
  pub is : sum + length (spell D (drop i codes)) ≡ length (spell D codes)

pub counted_start : (D : Dictionary) (codes : List ℕ) → Counted D codes 0 0
counted_start D codes = record { few = omega arith; small = omega arith; is = omega arith }

module _ (D : Dictionary) (codes : List ℕ) (sum i : ℕ) (q : Counted D codes sum i) where
  pub counted-more : i < length codes → (l : ℕ) → l < 256 → l ≡ length (D.bytes (get_or codes i 0)) → Counted D codes (sum + l) (i + 1)
  counted-more h l s e =
      let m = q.small in
      record {
        few = omega arith;
        small = omega arith;
        is = omega (arith, q.is, ap length (spell_next D codes i h), length-append (D.bytes (get_or codes i 0)) (spell D (drop (i + 1) codes)));
      }

  pub counted-all : length codes ≤ i → sum ≡ length (spell D codes)
  counted-all h = let f = q.few in let e : i ≡ length codes = omega arith in let z : drop i codes ≡ [] = rw (e, drop-length) in omega (arith, q.is, ap (λ (l : List ℕ). length (spell D l)) z)

-- the bytes of the first i codes stand at the front of the output, which has the length that it had
pub record Written (D : Dictionary) (codes entry : List ℕ) (at i : ℕ) (now : List ℕ) : Type 0 where
  pub few : i ≤ length codes
  pub place : at ≡ length (spell D (take i codes))
  pub kept : length now ≡ length entry
  pub is : take at now ≡ spell D (take i codes)

pub written_start : (D : Dictionary) (codes entry : List ℕ) → Written D codes entry 0 0 entry
written_start D codes entry = record { few = omega arith; place = refl; kept = refl; is = refl }

module _ (D : Dictionary) (codes entry : List ℕ) (exact : length entry ≡ length (spell D codes)) (at i : ℕ) (now : List ℕ) (w : Written D codes entry at i now) where
  pub written_all : length codes ≤ i → now ≡ spell D codes
  written_all h =
      let e : take i codes ≡ codes = take_all i codes h in
      let l : length now ≤ at = omega (arith, exact, w.kept, w.place, ap (λ (l : List ℕ). length (spell D l)) e) in
      sym (take_all at now l) ∙ w.is ∙ ap (spell D) e

  module _ (h : i < length codes) (size : ℕ) (s : size ≡ length (D.bytes (get_or codes i 0))) where
    pub written-fits : at + size ≤ length now
    written-fits =
        omega (
          arith,
          w.place,
          w.kept,
          exact,
          s,
          ap length (spell-cut D codes i h),
          length-append (spell D (take i codes)) (D.bytes (get_or codes i 0) ++ spell D (drop (i + 1) codes)),
          length-append (D.bytes (get_or codes i 0)) (spell D (drop (i + 1) codes)),
        )

    -- the part of the output behind the front, and the bytes that the code spells ahead in the file
    module _ (bytes source : List ℕ) (q : bytes ≡ D.bytes (get_or codes i 0)) (b : Begins bytes source) where
      ahead : take size source ≡ D.bytes (get_or codes i 0)
      ahead = ap (take size) b.split ∙ take_at bytes b.rest size (ap length q ∙ sym s) ∙ q

      part_length : length (take (length now - at) (drop at now)) ≡ length now - at
      part_length = length-take-le (length now - at) (drop at now) (omega (arith, length-drop at now))

      pub copy_ready : CopyReady source size (take (length now - at) (drop at now))
      copy_ready = record { given = omega (arith, s, ap length q, ap length b.split, length-append bytes b.rest); room = omega (arith, part_length, written-fits) }

      pub written-more : (part' : List ℕ) → Copied source size (take (length now - at) (drop at now)) part'
          → Written D codes entry (at + size) (i + 1) (take at now ++ (part' ++ drop (length now - at) (drop at now)))
      written-more part' c =
          let f = written-fits in
          let front : length (take at now) ≡ at = length-take-le at now (omega arith) in
          let rest = drop (length now - at) (drop at now) in
          let p : length part' ≡ length now - at = c.kept ∙ part_length in
          record {
            few = omega arith;
            place = omega (arith, w.place, s, ap length (spell-front D codes i h), length-append (spell D (take i codes)) (D.bytes (get_or codes i 0)));
            kept = omega (arith, w.kept, p, front, length-append (take at now) (part' ++ rest), length-append part' rest, length-drop (length now - at) (drop at now), length-drop at now);
            is = ap (λ (k : ℕ). take (k + size) (take at now ++ (part' ++ rest))) (sym front)
                ∙ take-append-add (take at now) (part' ++ rest) size
                ∙ ap₂ (λ (a q : List ℕ). a ++ q) w.is (take-append-le size part' rest (omega arith) ∙ c.is ∙ ahead)
                ∙ sym (spell-front D codes i h);
          }
