-- Worked cases of the orders: where all causes apply the first of the order is told, where that one does not the next, and
-- so on. Assumes nothing.
use mathlib.Core.Path.{◌≡◌, refl}
use mathlib.Core.Option.{Option, none, some}
use mathlib.Core.List.{List, [], ◌∷◌}
use mathlib.Core.Bool.{true, false, not}
use Prim.Native.Nat.{ℕ, zero, suc}
use lib.Dec.{eqb}
use Rattle.causes.specs.declared.Cause.{Cause}
use Rattle.causes.specs.declared.Cause.TheVariants.{FactorZero, BadRecord, RowCount, MissingByte, EqualRow, NoParts, TooShort, OutOfForm, TooLong, UnknownCode, BadInterval, Full, SameHash}
use Rattle.causes.specs.Causes.{refusal_of}
use Rattle.causes.specs.Order.{build_order, decode_order, other_order, Condition, when, first_of}
use Rattle.causes.proofs.None.{among}

-- the causes, in the order of their table
abbrev causes : List Cause
causes = FactorZero ∷ BadRecord 3 ∷ RowCount 255 ∷ MissingByte 7 ∷ EqualRow 256 ∷ NoParts 257 ∷ TooShort ∷ OutOfForm
    ∷ TooLong ∷ UnknownCode 1 ∷ BadInterval ∷ Full 40 ∷ SameHash 264 ∷ []

-- all of them apply but those of these numbers
abbrev all_but : List ℕ → List Cause → List Condition
all_but gone [] = []
all_but gone (c ∷ cs) = when (not (among (refusal_of c).number gone)) c ∷ all_but gone cs

-- the number of a refusal, 0 where there is none
abbrev number_of : Option Cause → ℕ
number_of none = 0
number_of (some cause) = (refusal_of cause).number

-- the numbers told, one after the other, each being put right before the next call
abbrev told_in_turn : ℕ → List ℕ → List ℕ → List ℕ
told_in_turn zero gone order = []
told_in_turn (suc calls) gone order =
    let k = number_of (first_of order (all_but gone causes)) in elim (eqb k 0) [ true ↦ [] | false ↦ k ∷ told_in_turn calls (k ∷ gone) order ]

pub in_build : told_in_turn 14 [] build_order ≡ 1 ∷ 2 ∷ 3 ∷ 4 ∷ 7 ∷ 5 ∷ 13 ∷ 6 ∷ []
in_build = refl

pub in_decoding : told_in_turn 14 [] decode_order ≡ 9 ∷ 8 ∷ 10 ∷ 7 ∷ []
in_decoding = refl

pub in_others : told_in_turn 14 [] other_order ≡ 9 ∷ 7 ∷ 8 ∷ 10 ∷ 11 ∷ 12 ∷ []
in_others = refl
