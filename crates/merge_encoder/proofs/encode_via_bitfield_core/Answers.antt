-- `merge_encoder::encode_via_bitfield_core` meets its contract, by the laws of `Merging`. Assumes nothing.
use mathlib.Core.Path.{refl}
use Rattle.merge_encoder.proofs.Merging.{fill_ready, encoded}
use Rattle.merge_encoder.proofs.Queueing.{queues-start}
use Rattle.merge_encoder.proofs.encode_via_bitfield_core.Goals as goal

pub invariant_of-joins : goal.invariant_of-joins
invariant_of-joins c = record { queues = queues-start; keys_room = refl }

pub fill-requires : goal.fill-requires
fill-requires c = fill_ready _ _ _ _ _ c.requires _ c.fill_byte_codes.ensures _ c.new.ensures refl refl

pub returns : goal.returns
returns c =
    let size = c.fill_byte_codes.ensures.size in
    let merged = rw size at c.merge.ensures in
    let gathered = rw (merged.work_length, size) at c.gather.ensures in
    encoded _ _ _ _ _ c.requires _ c.fill_byte_codes.ensures _ c.fill.ensures.all_live _ _ merged _ _ gathered
