-- An empty bucket, the first word of the bucket, or the whole bucket. Assumes nothing.
use mathlib.Core.Path.{refl}
use Prim.Native.Nat.{◌+◌}
use native.Mathlib.Omega.{arith}
use Rattle.forest.proofs.Places.{one_at, none-at}
use Rattle.forest.proofs.bucket_child.Goals as goal

pub returns-then-rows-row_of : goal.returns-then-rows-row_of
returns-then-rows-row_of c =
    rw c.no_match.ensures (none-at _ _ _ _ _ c.args.text.now c.args.at c.args.first _ _ refl c.requires.first_word (omega (arith, c.row_of.ensures.is, c.if-rows-row_of.true)))

pub returns-then-is_one_longer : goal.returns-then-is_one_longer
returns-then-is_one_longer c =
    one_at _ _ _ _ _ c.args.text.now c.args.at c.args.first _ (c.args.len + 1) refl c.requires.first_word (c.is_one_longer.ensures c.if-is_one_longer.true)
    (omega (arith, c.row_of.ensures.is, c.if-rows-row_of.false)) c.args.rows.now.placed.few (omega (arith, c.type_inv.text c.args.at)) c.requires.inside refl
