-- The last code of each prefix of a text, found step by step, and walked from the end: the codes of the merge procedure.
use mathlib.Core.Path.{◌≡◌, refl, sym, ap, ◌∙◌}
use mathlib.Core.Logic.{◌↔◌}
use mathlib.Core.List.{List, [], ◌∷◌, ◌++◌}
use Prim.Native.Nat.{ℕ, zero, suc, ◌-◌, ◌≤◌, ◌<◌}
use native.Mathlib.Omega.{arith}
use lib.ListN.{length, get_or, take}
use lib.Seq.{take-length}
use Rattle.theory.specs.Dictionary.{Dictionary, none, KnownText}
use Rattle.theory.specs.Merge.{encode}
use Rattle.theory.specs.Table.{last_code, last_codes, walk_back, table_codes}
use Rattle.theory.specs.Typing.{append, code_at}
use Rattle.theory.proofs.TypingLists.{length-tabulate, get_d_tabulate}
use Rattle.theory.proofs.PairCheck.{Lawful}
use Rattle.theory.proofs.Encode.{encode-nil}
use Rattle.theory.proofs.RowsAt.{filled}
use Rattle.theory.proofs.TypingRows.{EndsAt, one-row, codes_at}

module _ (D : Dictionary) where
  pub length-last_codes : (t : List ℕ) → length (last_codes D t) ≡ length t
  unfolding last_codes
  length-last_codes t = length-tabulate (length t) _

  pub get_d_last_codes : (t : List ℕ) (i d : ℕ) → i < length t → get_or (last_codes D t) i d ≡ last_code D (take (suc i) t)
  unfolding last_codes
  get_d_last_codes t i d h = get_d_tabulate (length t) (λ j. last_code D (take (suc j) t)) i d h

  -- the code of a typing record at the end is the last code of the prefix
  pub code_at_last_code : (t : List ℕ) (i : ℕ) → code_at D append t i ≡ last_code D (take (suc i) t)
  unfolding code_at last_code
  code_at_last_code t i = refl

  -- the codes of the first e + 1 bytes: those of the bytes before the last code, and that code
  pub record LastAt (t : List ℕ) (e c : ℕ) : Type 0 where
    pub row : c < D.count
    pub some : 0 < length (D.bytes c)
    pub fits : length (D.bytes c) ≤ suc e
    pub codes : encode D (take (suc e) t) ≡ encode D (take (suc e - length (D.bytes c)) t) ++ c ∷ []

  module _ (A : Lawful D) (t : List ℕ) (known : KnownText D t) where
    -- the last code of the first i + 1 bytes is the one row that ends them and reaches the first byte or passes with the last code before it
    pub one_last_row : (code : ℕ → ℕ) (i c : ℕ) → i < length t → ((j : ℕ) → j < i → code j ≡ last_code D (take (suc j) t)) → EndsAt D append t code i c ↔ (c ≡ last_code D (take (suc i) t))
    unfolding code_at last_code
    one_last_row code i c h agree = one-row D append A t known i h code c agree

    -- one step of the walk back
    pub last-at : (e : ℕ) → e < length t → LastAt t e (last_code D (take (suc e) t))
    last-at e h =
        let code : ℕ → ℕ = λ j. last_code D (take (suc j) t) in
        let r = (one_last_row code e (code e) h (λ j l. refl)).1 refl in
        record { row = r.row; some = filled D A (code e); fits = r.fits; codes = codes_at D append A t known e h code (code e) (λ j l. sym (code_at_last_code t j)) r }

    -- walked from any place back, with any table that has the last codes below it
    pub walk_back-codes : (k e : ℕ) (table : List ℕ) → e ≤ k → e ≤ length t → ((j : ℕ) → j < e → get_or table j none ≡ last_code D (take (suc j) t)) → walk_back D k table e ≡ encode D (take e t)
    walk_back-codes zero zero table h l agree = sym (encode-nil D A)
    walk_back-codes zero (suc e) table h l agree = absurd (omega arith)
    walk_back-codes (suc k) zero table h l agree = sym (encode-nil D A)
    walk_back-codes (suc k) (suc e) table h l agree =
        let r = last-at e l in
        let size : ℕ = length (D.bytes (last_code D (take (suc e) t))) in
        rw (agree e (omega arith)) (ap (λ (L : List ℕ). L ++ last_code D (take (suc e) t) ∷ []) (walk_back-codes k (suc e - size) table (omega arith) (omega arith) (λ j m. agree j (omega arith))) ∙ sym r.codes)

    -- the codes by the table are those of the merge procedure
    pub table_codes-encode : table_codes D t ≡ encode D t
    unfolding table_codes
    table_codes-encode = walk_back-codes (length t) (length t) (last_codes D t) (omega arith) (omega arith) (λ j h. get_d_last_codes t j none h) ∙ ap (encode D) (take-length t)
