-- The row of a byte is the shortest row at its place. Assumes nothing.
use mathlib.Core.Path.{◌≡◌, refl, sym, ap, ◌∙◌}
use mathlib.Core.Logic.{inl, ⊎_elim}
use mathlib.Core.List.{List, [], ◌∷◌, ◌++◌}
use Prim.Native.Nat.{ℕ, suc, ◌<◌}
use native.Mathlib.Omega.{arith}
use lib.ListN.{length, get_or, drop}
use lib.Seq.{drop-cons}
use Rattle.placed_rows.specs.Rows.{row}
use Rattle.placed_rows.specs.Texts.{Begins}
use Rattle.placed_rows.proofs.Placing.{row-none}
use Rattle.theory.specs.Dictionary.{Dictionary, none}
use Rattle.theory.proofs.Lists.{cons_head}
use Rattle.theory.proofs.PairCheck.{Lawful}
use Rattle.theory.proofs.RowsAt.{different}
use Rattle.search_area.specs.Answers.{Within, LongerMatch, Reached}
use Rattle.built_tables.specs.Built.{dictionary_of, Built}
use Rattle.built_tables.proofs.Rows.{count_is, row-bytes, lawful-is, known}
use Rattle.end_code.specs.Codes.{ByteReady, ByteIs}
use Rattle.tables.specs.Tables.{tables}

one_byte : (r : List ℕ) (b : ℕ) (t rest : List ℕ) → b ∷ t ≡ r ++ rest → length r ≡ 1 → r ≡ b ∷ []
one_byte [] b t rest e h = absurd (omega arith)
one_byte (x ∷ []) b t rest e h = ap (λ (y : ℕ). y ∷ []) (sym (cons_head e))
one_byte (x ∷ y ∷ r) b t rest e h = absurd (omega arith)

module _ (file places area : List ℕ) (n : ℕ) (bytes : List ℕ) (i : ℕ) (R : ByteReady file places area n bytes i) (r l : ℕ) (M : LongerMatch file places n area (drop i bytes) none 0 r l) (o : get_or bytes i 0 < 256) where
  abbrev b : ℕ
  b = get_or bytes i 0

  split : drop i bytes ≡ b ∷ drop (suc i) bytes
  split = drop-cons bytes i 0 R.inside

  module _ (lefts rights prefixes : List ℕ) (B : Built (tables file places lefts rights prefixes area) n) where
    abbrev D : Dictionary
    D = dictionary_of file

    L : Lawful D
    L = lawful-is (tables file places lefts rights prefixes area) n B

    counted : D.count ≡ n
    counted = count_is (tables file places lefts rights prefixes area) n B

    own : D.code b < n
    own = let k = (known (tables file places lefts rights prefixes area) n B (b ∷ []) (o, tt)).0 in omega (arith, counted)

    own-bytes : row file places n (D.code b) ≡ b ∷ []
    own-bytes = row-bytes (tables file places lefts rights prefixes area) n B (D.code b) own ∙ L.laws.byte b

    own-begins : Begins (row file places n (D.code b)) (drop i bytes)
    own-begins = record { rest = drop (suc i) bytes; split = split ∙ ap (λ (x : List ℕ). x ++ drop (suc i) bytes) (sym own-bytes) }

    -- nothing is reached at first
    root : Reached (row file places n) n (drop i bytes) none 0
    root =
        let e = row-none file places n none (let f = R.places_ready.placed.few in omega arith) in
        record { known = inl refl; begins = record { rest = drop i bytes; split = rw e }; size = ap length (sym e) }

    is_code : (r ≡ none → ⊥) → r < n → 0 < l → r ≡ D.code b
    is_code z h some =
        let m = M.next B.finds root in
        let g = m.is z in
        let short = m.shortest z (D.code b) own own-begins (omega (arith, ap length own-bytes)) in
        let one : row file places n r ≡ b ∷ [] = one_byte (row file places n r) b (drop (suc i) bytes) g.0.rest (sym split ∙ g.0.split) (omega (arith, g.1, ap length own-bytes)) in
        (different D L).distinct r (D.code b) (omega (arith, counted)) (omega (arith, counted, own))
        (sym (row-bytes (tables file places lefts rights prefixes area) n B r h) ∙ one ∙ sym (L.laws.byte b))

    not_none : r ≡ none → ⊥
    not_none z = let m = M.next B.finds root in omega (arith, m.all z (D.code b) own own-begins, ap length own-bytes)

  pub byte-none : r ≡ none → ByteIs file places area n bytes i 0
  byte-none z = record {
    row = omega (arith, R.places_ready.least);
    built = λ lefts rights prefixes B. absurd (not_none lefts rights prefixes B z);
  }

  pub byte-some : (r ≡ none → ⊥) → ByteIs file places area n bytes i r
  byte-some z =
      let w : Within n 0 (length (drop i bytes)) r l = ⊎_elim (λ e. absurd (z e)) (λ w. w) M.bound in
      record {
        row = w.below;
        built = λ lefts rights prefixes B. is_code lefts rights prefixes B z w.below w.longer;
      }
