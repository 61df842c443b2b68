-- Rests on `Placed`, by which the row lies in the file, and on the definition of a row. Assumes nothing.
use mathlib.Core.Path.{sym}
use native.Mathlib.Omega.{arith}
use Rattle.placed_rows.proofs.Placing.{row-length}
use Rattle.placed_rows.proofs.rows.Rows.length_of.Goals as goal

pub returns : goal.returns
returns c =
    let s = c.args.self.now in
    record { is = sym (row-length s.file.now s.places.now s.n c.args.c s.placed c.requires); below = omega arith }
