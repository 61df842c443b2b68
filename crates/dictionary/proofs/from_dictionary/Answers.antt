-- Rests on the refusals that change nothing, and on the buffers that belong to each other answer. Assumes nothing.
use mathlib.Core.Path.{sym, ◌∙◌}
use native.Mathlib.Omega.{arith}
use Rattle.std.proofs.lemmas.Result.{err_from_is_err_and}
use Rattle.dictionary.proofs.Sizes.{large}
use Rattle.dictionary.proofs.Clearing.{all-cleared}
use Rattle.dictionary.proofs.Building.{refused_factor, refused-file, refused-short, buildable, built-rows, cleared-rows}
use Rattle.dictionary.proofs.from_dictionary.Goals as goal

pub returns-then-factor-eq0 : goal.returns-then-factor-eq0
returns-then-factor-eq0 c = refused_factor _ _ c.if-factor-eq0.true

pub returns-in_err-n : goal.returns-in_err-n
returns-in_err-n c =
    let p = err_from_is_err_and c.from_residual.result c.from_residual.ensures.1 in
    rw (p.1, p.2) (refused-file _ _ c.if-factor-eq0.false _ c.in_err-n.ensures)

pub returns-then-are_short : goal.returns-then-are_short
returns-then-are_short c = refused-short _ _ c.if-factor-eq0.false _ c.in_ok-n.ensures (sym c.are_short.ensures ∙ c.if-are_short.true)

pub fill_tables-requires : goal.fill_tables-requires
fill_tables-requires c = buildable _ _ c.if-factor-eq0.false _ c.in_ok-n.ensures (sym c.are_short.ensures ∙ c.if-are_short.false)

pub returns-in-Ok : goal.returns-in-Ok
returns-in-Ok c = built-rows _ _ _ (buildable _ _ c.if-factor-eq0.false _ c.in_ok-n.ensures (sym c.are_short.ensures ∙ c.if-are_short.false)) _ _ c.fill_tables.ensures _ c.in-Ok.is

pub clear-requires : goal.clear-requires
clear-requires c = omega (arith, (large _ _ c.fill_tables.ensures.room).places_room)

pub clear-requires-in-Err : goal.clear-requires-in-Err
clear-requires-in-Err c = omega (arith, (large _ _ c.fill_tables.ensures.room).lefts_room)

pub clear-requires-in-Err-2 : goal.clear-requires-in-Err-2
clear-requires-in-Err-2 c = omega (arith, (large _ _ c.fill_tables.ensures.room).rights_room)

pub clear-requires-in-Err-3 : goal.clear-requires-in-Err-3
clear-requires-in-Err-3 c = omega (arith, (large _ _ c.fill_tables.ensures.room).prefixes_room)

pub clear-requires-in-Err-4 : goal.clear-requires-in-Err-4
clear-requires-in-Err-4 c = omega (arith, (large _ _ c.fill_tables.ensures.room).area_room)

pub returns-in-Err : goal.returns-in-Err
returns-in-Err c =
    cleared-rows _ _ _ (buildable _ _ c.if-factor-eq0.false _ c.in_ok-n.ensures (sym c.are_short.ensures ∙ c.if-are_short.false)) _ _ c.fill_tables.ensures _ _ c.in-Err.is
    (all-cleared _ _ _ _ _ _ _ c.clear.ensures c.clear-in-Err.ensures c.clear-in-Err-2.ensures c.clear-in-Err-3.ensures c.clear-in-Err-4.ensures)
