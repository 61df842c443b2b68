-- Rests on the definition of a row. Assumes nothing.
use mathlib.Core.Path.{refl}
use Rattle.placed_rows.proofs.Placing.{row-whole}
use Rattle.placed_rows.proofs.rows.Rows.bytes_of.Goals as goal

pub returns : goal.returns
returns c =
    let s = c.args.self.now in
    row-whole s.file.now s.places.now s.n c.args.c _ _ c.requires refl refl
