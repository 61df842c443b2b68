-- The parts of rows as they are read. Assumes nothing.
use mathlib.Core.Path.{◌≡◌}
use mathlib.Core.Logic.{◌⊎◌, inl, inr, ⊎_elim}
use mathlib.Core.List.{List, []}
use mathlib.Core.Bool.{true, false}
use Prim.Native.Nat.{ℕ, ◌<◌}
use native.Mathlib.Decide.{ℕ_discrete}
use native.Mathlib.Omega.{arith}
use lib.ListN.{length, get_or}
use Rattle.phrase_file.specs.Form.{rows}
use Rattle.theory.specs.Dictionary.{Dictionary}
use Rattle.theory.specs.FirstJoin.{inner_part, other_part}
use Rattle.pair_check.proofs.Joins as Pairs
use Rattle.built_tables.specs.Built.{dictionary_of, Built}
use Rattle.built_tables.proofs.Rows.{tells}
use Rattle.end_code.specs.Tables.{PartsInForm}
use Rattle.theory.specs.Typing.{Side, append, prepend}
use Rattle.end_code.specs.Sides.{inner_of, other_of}
use Rattle.end_code.specs.Joins.{PartReady}
use Rattle.tables.specs.Tables.{PairTables, with_prefixes}

module _ (P : PairTables) (n : ℕ) (R : PartsInForm P n) (x : ℕ) (h : x < n) where
  open P use {file, lefts, rights}

  sized : (length (get_or (rows file) x []) ≡ 1) ⊎ (1 < length (get_or (rows file) x []))
  sized = go (ℕ_discrete (length (get_or (rows file) x [])) 1)
    where
      go : Dec (length (get_or (rows file) x []) ≡ 1) → (length (get_or (rows file) x []) ≡ 1) ⊎ (1 < length (get_or (rows file) x []))
      go (yes e) = inl e
      go (no e) = inr (let f = R.places_ready.filled x h in omega arith)

  pub part-ready : PartReady P x
  part-ready = record { left_room = omega (arith, R.parts_ready.left_room); right_room = omega (arith, R.parts_ready.right_room) }

  -- a part is a row
  pub other_row : (side : Side) → other_of P side x < n
  other_row append = ⊎_elim (λ o. omega (arith, (R.parts_ready.single x h o).0)) (λ l. omega (arith, (R.parts_ready.lower x h l).left)) sized
  other_row prepend = ⊎_elim (λ o. omega (arith, (R.parts_ready.single x h o).1)) (λ l. omega (arith, (R.parts_ready.lower x h l).right)) sized

  -- a part that differs from its row is lower
  pub inner-lower : (side : Side) → (inner_of P side x ≡ x → ⊥) → inner_of P side x < x
  inner-lower append d = ⊎_elim (λ o. absurd (d (R.parts_ready.single x h o).1)) (λ l. (R.parts_ready.lower x h l).right) sized
  inner-lower prepend d = ⊎_elim (λ o. absurd (d (R.parts_ready.single x h o).0)) (λ l. (R.parts_ready.lower x h l).left) sized

  module _ (prefixes : List ℕ) (B : Built (with_prefixes P prefixes) n) where
    abbrev D : Dictionary
    D = dictionary_of file

    pub inner-is : (side : Side) → inner_of P side x ≡ inner_part D side x
    inner-is append = B.rights_are x h
    inner-is prepend = B.lefts_are x h

    pub other-is : (side : Side) → other_of P side x ≡ other_part D side x
    other-is append = B.lefts_are x h
    other-is prepend = B.rights_are x h

    pub inner-long : (side : Side) → (inner_of P side x ≡ x → ⊥) → D.long x ≡ true
    inner-long side d = ⊎_elim (λ o. absurd (d (single side o))) (λ l. Pairs.long file lefts rights n D (tells (with_prefixes P prefixes) n B) x h l) sized
      where
        single : (side : Side) → length (get_or (rows file) x []) ≡ 1 → inner_of P side x ≡ x
        single append o = (R.parts_ready.single x h o).1
        single prepend o = (R.parts_ready.single x h o).0

    pub inner-single : (side : Side) → inner_of P side x ≡ x → D.long x ≡ false
    inner-single side e = ⊎_elim (λ o. Pairs.short file lefts rights n D (tells (with_prefixes P prefixes) n B) x h o) (λ l. absurd (lower side l e)) sized
      where
        lower : (side : Side) → 1 < length (get_or (rows file) x []) → inner_of P side x ≡ x → ⊥
        lower append l e = let z = (R.parts_ready.lower x h l).right in omega arith
        lower prepend l e = let z = (R.parts_ready.lower x h l).left in omega arith
