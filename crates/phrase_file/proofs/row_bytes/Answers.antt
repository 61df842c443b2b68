-- The part of the file is the row, by the laws of a record. Assumes nothing.
use mathlib.Core.Path.{sym, ◌∙◌}
use Prim.Native.Nat.{◌+◌, ◌-◌}
use native.Mathlib.Omega.{arith}
use Rattle.phrase_file.proofs.Records.{bytes_are}
use Rattle.phrase_file.proofs.Places.{Row, row-found}
use Rattle.phrase_file.proofs.row_bytes.Goals as goal

pub returns-then-length-eq0 : goal.returns-then-length-eq0
returns-then-length-eq0 c = bytes_are _ _ 0 (sym c.if-length-eq0.true ∙ c.row_length-length.ensures)

pub overflow_add-start : goal.overflow_add-start
overflow_add-start c =
    let found : Row c.args.file.now c.args.at c.row_length-length.result = row-found _ _ _ c.row_length-length.ensures c.if-length-eq0.false in
    omega (arith, found)

pub overflow_add-end : goal.overflow_add-end
overflow_add-end c =
    let found : Row c.args.file.now c.args.at c.row_length-length.result = row-found _ _ _ c.row_length-length.ensures c.if-length-eq0.false in
    omega (arith, found)

pub slice_bounds-result-end-2 : goal.slice_bounds-result-end-2
slice_bounds-result-end-2 c =
    let found : Row c.args.file.now c.args.at c.row_length-length.result = row-found _ _ _ c.row_length-length.ensures c.if-length-eq0.false in
    omega (arith, found)

pub returns : goal.returns
returns c =
    let file = c.args.file.now in
    let at = c.args.at in
    bytes_are file at (at + 3 + c.row_length-length.result - (at + 3)) (omega (arith, c.row_length-length.ensures))
