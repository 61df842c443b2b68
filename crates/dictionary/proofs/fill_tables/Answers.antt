-- Rests on what each step leaves for the next, and on the answers for it. Assumes nothing.
use native.Mathlib.Omega.{arith}
use Rattle.dictionary.proofs.Filling.{few, rows_fit, places_fit, placed, shared_fills, area_room, search_fills, clash-filled, parts-fit, parts-filled, rows-filled}
use Rattle.dictionary.proofs.fill_tables.Goals as goal

pub fill_places-requires : goal.fill_places-requires
fill_places-requires c = places_fit _ _ _ _ 0 _ (rows_fit _ _ _ c.requires)

pub invariant_of-rows : goal.invariant_of-rows
invariant_of-rows c = record { placed = placed _ _ _ _ 0 _ (rows_fit _ _ _ c.requires) _ c.fill_places.ensures }

pub first_shared-requires : goal.first_shared-requires
first_shared-requires c = (rows_fit _ _ _ c.requires).area_room

pub clash_cause-requires : goal.clash_cause-requires
clash_cause-requires c = record { in_bounds = area_room _ _ _ _ _ _ (rows_fit _ _ _ c.requires) _ c.fill_places.ensures _ _ c.in-Some.ensures.0; shared_lt_n = c.in-Some.ensures.1 }

pub returns-in-Some : goal.returns-in-Some
returns-in-Some c =
    clash-filled _ _ _ c.requires _ _ _ _ (shared_fills _ _ _ _ _ _ (rows_fit _ _ _ c.requires) _ c.fill_places.ensures _ _ c.in-Some.ensures.0 c.in-Some.ensures.1) _ _ c.clash_cause.ensures c.in-Some.ensures.1

pub fill-requires : goal.fill-requires
fill-requires c = record { n_in_bounds = ((rows_fit _ _ _ c.requires).prefixes_room, area_room _ _ _ _ _ _ (rows_fit _ _ _ c.requires) _ c.fill_places.ensures _ _ c.in_default.ensures) }

pub fill_parts-requires : goal.fill_parts-requires
fill_parts-requires c = parts-fit _ _ _ c.requires _ _ _ _ (search_fills _ _ _ _ _ _ (rows_fit _ _ _ c.requires) _ c.fill_places.ensures _ _ c.in_default.ensures _ _ c.fill.ensures) (omega arith)

pub overflow_cast-result : goal.overflow_cast-result
overflow_cast-result c = omega (arith, few _ _ _ c.requires, c.in-Some-fill_parts.ensures.1)

pub returns-in-Some-fill_parts : goal.returns-in-Some-fill_parts
returns-in-Some-fill_parts c =
    parts-filled _ _ _ c.requires _ _ _ _ (search_fills _ _ _ _ _ _ (rows_fit _ _ _ c.requires) _ c.fill_places.ensures _ _ c.in_default.ensures _ _ c.fill.ensures) (omega arith) _ _ _ _ c.in-Some-fill_parts.ensures.0 c.in-Some-fill_parts.ensures.1

pub returns : goal.returns
returns c =
    rows-filled _ _ _ c.requires _ _ _ _ (search_fills _ _ _ _ _ _ (rows_fit _ _ _ c.requires) _ c.fill_places.ensures _ _ c.in_default.ensures _ _ c.fill.ensures) (omega arith) _ _ _ _ c.in_default-fill_parts.ensures (omega arith)
