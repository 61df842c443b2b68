-- In which order a call looks for a cause to refuse: document 01, "Causes", with the later numbers of document 02. A
-- call names its conditions in any order; the first by the order of its kind that applies is its refusal.
use Rattle.std.proofs.Math.Option.{Option, none, some}
use Rattle.std.specs.Prelude.{List, [], ◌∷◌, Bool, true, false, cond, ◌&&◌, ℕ, suc, length, ltb, eqb}
use Rattle.causes.specs.declared.Cause.{Cause}
use Rattle.causes.specs.declared.Cause.TheVariants.{UnknownCode}
use Rattle.causes.specs.Causes.{refusal_of}

-- "Order in build: 1, 2, 3, 4, 7, 5, 6."; 13 "after 5 and before 6"
abbrev pub build_order : List ℕ
build_order = 1 ∷ 2 ∷ 3 ∷ 4 ∷ 7 ∷ 5 ∷ 13 ∷ 6 ∷ []

-- "Decode and `token_bytes`: 9, 8, 10, 7"
abbrev pub decode_order : List ℕ
decode_order = 9 ∷ 8 ∷ 10 ∷ 7 ∷ []

-- "All others: 9, 7, 8, 10, 11, 12."
abbrev pub other_order : List ℕ
other_order = 9 ∷ 7 ∷ 8 ∷ 10 ∷ 11 ∷ 12 ∷ []

-- a condition of a call: the cause, and whether it applies
pub record Condition : Type 0 where
  pub cause : Cause
  pub applies : Bool

abbrev pub when : Bool → Cause → Condition
when applies cause = record { cause = cause; applies = applies }

-- the first condition with this number that applies, else what is later in the order
abbrev pub numbered : ℕ → List Condition → Option Cause → Option Cause
numbered number [] later = later
numbered number (c ∷ conditions) later =
    cond (eqb (refusal_of c.cause).number number && c.applies) (some c.cause) (numbered number conditions later)

-- why a call with these conditions is refused, if it is
abbrev pub first_of : List ℕ → List Condition → Option Cause
first_of [] conditions = none
first_of (number ∷ order) conditions = numbered number conditions (first_of order conditions)

-- Conditions that several calls have

-- "text over 4,096 bytes, or over 4,096 codes to decode"
abbrev pub over : List ℕ → Bool
over text = ltb 4096 (length text)

-- a buffer that has fewer numbers than the text has bytes
abbrev pub shorter : List ℕ → List ℕ → Bool
shorter buffer text = ltb (length buffer) (length text)

-- the index of the first code not below n, the list's length if there is none
unfoldable pub first_unknown : ℕ → List ℕ → ℕ
first_unknown n [] = 0
first_unknown n (c ∷ codes) = elim (ltb c n) [ true ↦ suc (first_unknown n codes) | false ↦ 0 ]

-- "code not below n", with the "index of the first"
abbrev pub unknown : ℕ → List ℕ → Condition
unknown n codes = when (ltb (first_unknown n codes) (length codes)) (UnknownCode (first_unknown n codes))
