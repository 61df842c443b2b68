-- `backtrack_encoder::add` meets its contract, by `Moves`; there are fewer codes than bytes, by `Sizes`. Assumes nothing.
use native.Mathlib.Omega.{arith}
use Rattle.backtrack_encoder.proofs.Sizes.{count_room}
use Rattle.backtrack_encoder.proofs.Moves.{add-inside, move_add}
use Rattle.backtrack_encoder.proofs.add.Goals as goal

pub offset_bounds-work-at : goal.offset_bounds-work-at
offset_bounds-work-at c =
    let p = c.requires in
    omega (arith, count_room _ _ _ p.rows_ready.places_ready _ _ _ p.encoder_ready.0 _ p.encoder_ready.1.1, p.rows_ready.short)

pub bounds-work-at : goal.bounds-work-at
bounds-work-at c =
    let p = c.requires in
    omega (arith, count_room _ _ _ p.rows_ready.places_ready _ _ _ p.encoder_ready.0 _ p.encoder_ready.1.1, p.rows_ready.room)

pub overflow_add-count : goal.overflow_add-count
overflow_add-count c =
    let p = c.requires in
    omega (arith, count_room _ _ _ p.rows_ready.places_ready _ _ _ p.encoder_ready.0 _ p.encoder_ready.1.1, p.rows_ready.short)

pub next_match-found-requires : goal.next_match-found-requires
next_match-found-requires c =
    let p = c.requires in
    record { area_size_in_bounds = (p.rows_ready.area_room, add-inside _ _ _ _ _ _ _ _ _ p.rows_ready p.encoder_ready.0 p.encoder_ready.1.0 p.encoder_ready.1.1 c.length_of.ensures) }

pub returns : goal.returns
returns c =
    let p = c.requires in
    move_add _ _ _ _ _ _ _ _ _ p.rows_ready p.encoder_ready.0 p.encoder_ready.1.0 p.encoder_ready.1.1 c.length_of.ensures _ _
    (λ i. (c.type_inv.text i).fits) c.next_match-found.ensures
