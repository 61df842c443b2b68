-- Rests on the descent, which ends at the prefix of row c, and on the law that a push there keeps the area in order. Assumes nothing.
use mathlib.Core.Path.{refl}
use native.Mathlib.Omega.{arith}
use Rattle.forest.proofs.Inserting.{insert_none, insert_done}
use Rattle.forest.proofs.insert.Goals as goal

pub returns-then-k-bytes : goal.returns-then-k-bytes
returns-then-k-bytes c =
    let bytes = c.bytes_of-bytes in
    let m = c.longest-m in
    rw c.push.ensures
    (insert_done _ _ _ _ _ _ _ c.requires.room bytes.ensures m.ensures _ _ _ _ _ _ _
    c.mark.ensures
    c.child_key.ensures.is
    refl
    (omega (arith, c.bytes_of-bytes.items_fit m.result.len))
    c.bucket_of-h.ensures.is
    c.word_of.ensures
    c.tag_of.ensures
    refl)

pub returns-else-k-bytes : goal.returns-else-k-bytes
returns-else-k-bytes c =
    let bytes = c.bytes_of-bytes in
    insert_none _ _ _ _ _ _ _ c.requires.room bytes.ensures c.longest-m.ensures (omega (arith, c.if-k-bytes.false))
