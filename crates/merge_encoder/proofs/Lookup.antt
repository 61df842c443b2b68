-- The row of a byte, as the search area answers it, in terms of the definitions. Assumes nothing.
use mathlib.Core.Path.{◌≡◌, sym, ◌∙◌}
use mathlib.Core.Logic.{⊎_elim}
use mathlib.Core.List.{List, [], ◌∷◌}
use Prim.Native.Nat.{ℕ, ◌<◌}
use native.Mathlib.Omega.{arith}
use Rattle.theory.specs.Dictionary.{none}
use Rattle.placed_rows.specs.Rows.{row}
use Rattle.search_area.specs.Answers.{Found}
use Rattle.theory.proofs.Merge.{distinct}
use Rattle.built_tables.specs.Built.{dictionary_of, Built}
use Rattle.built_tables.proofs.Rows.{count_is, row-bytes, lawful-is, known}
use Rattle.merge_encoder.specs.Encoding.{RowsReady}
use Rattle.merge_encoder.specs.Steps.{ByteCode}
use Rattle.tables.specs.Tables.{PairTables, with_prefixes}

module _ (P : PairTables) (n : ℕ) (R : RowsReady P.file P.places P.area n) where
  -- c answers the search for the byte b
  module _ (b c : ℕ) (small : b < 256) (f : Found P.file P.places n P.area (b ∷ []) c) where
    own : (prefixes : List ℕ) → Built (with_prefixes P prefixes) n → (dictionary_of P.file).code b < n
    own prefixes B =
        omega (arith, (known (with_prefixes P prefixes) n B (b ∷ []) (small, tt)).0, count_is (with_prefixes P prefixes) n B)

    spelled : (prefixes : List ℕ) → Built (with_prefixes P prefixes) n → row P.file P.places n ((dictionary_of P.file).code b) ≡ b ∷ []
    spelled prefixes B =
        row-bytes (with_prefixes P prefixes) n B ((dictionary_of P.file).code b) (own prefixes B)
        ∙ (lawful-is (with_prefixes P prefixes) n B).laws.byte b

    pub byte-none : c ≡ none → ByteCode P n b 0
    byte-none e = record {
      below = omega (arith, R.places_ready.least);
      built = λ prefixes B. absurd ((f.found B.finds).all e ((dictionary_of P.file).code b) (own prefixes B) (spelled prefixes B));
    }

    pub byte-some : (c ≡ none → ⊥) → ByteCode P n b c
    byte-some s = record {
      below = ⊎_elim (λ e. absurd (s e)) (λ h. h) f.bound;
      built = λ prefixes B.
          let A = lawful-is (with_prefixes P prefixes) n B in
          let e = count_is (with_prefixes P prefixes) n B in
          let j = (f.found B.finds).is s in
          let o = own prefixes B in
          distinct (dictionary_of P.file) A c ((dictionary_of P.file).code b) (omega (arith, j.0)) (omega arith)
          (sym (row-bytes (with_prefixes P prefixes) n B c j.0) ∙ j.1 ∙ sym (A.laws.byte b));
    }
