-- The row of the first word of the bucket. Assumes nothing.
use mathlib.Core.Path.{refl, ap}
use mathlib.Core.Logic.{inl, inr}
use Prim.Native.Nat.{ℕ}
use native.Mathlib.Omega.{arith}
use lib.ListN.{get_or}
use Rattle.forest.proofs.Bytes.{row_is}
use Rattle.forest.proofs.byte_row.Goals as goal

pub returns-then-rows-row_of : goal.returns-then-rows-row_of
returns-then-rows-row_of c =
    let a = c.args in
    record {
      bound = inl refl;
      is = λ S I d s e. absurd (omega (arith, c.if-rows-row_of.true, c.row_of.ensures.is, row_is _ _ _ _ _ (ap (λ (i : ℕ). get_or a.area.now i 0) c.root_bucket.ensures.is) S I d s e, I.below d s));
    }

pub returns : goal.returns
returns c =
    let a = c.args in
    record {
      bound = inr (omega (arith, c.if-rows-row_of.false, c.row_of.ensures.is));
      is = λ S I d s e. row_is _ _ _ _ _ (ap (λ (i : ℕ). get_or a.area.now i 0) c.root_bucket.ensures.is) S I d s e;
    }
