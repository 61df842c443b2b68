-- The table holds the last codes, and the walk through it gives the codes. Assumes nothing.
use mathlib.Core.Path.{sym}
use native.Mathlib.Omega.{arith}
use lib.Seq.{length-take-le}
use Rattle.built_tables.proofs.Rows.{octets}
use Rattle.table_encoder.proofs.Codes.{few, write_ready, table_codes_lem}
use Rattle.table_encoder.proofs.encode_via_table_core.Goals as goal

pub slice_bounds-write_back-end : goal.slice_bounds-write_back-end
slice_bounds-write_back-end c = omega (arith, few _ _ _ _ _ c.requires _ c.encode_all_prefixes.ensures _ c.count_back-count.ensures, c.requires.out_room)

pub slice_bounds-write_back-end-2 : goal.slice_bounds-write_back-end-2
slice_bounds-write_back-end-2 c = sym (length-take-le _ _ (omega (arith, few _ _ _ _ _ c.requires _ c.encode_all_prefixes.ensures _ c.count_back-count.ensures, c.requires.out_room)))

pub write_back-requires : goal.write_back-requires
write_back-requires c = write_ready _ _ _ _ _ c.requires _ c.encode_all_prefixes.ensures _ c.count_back-count.ensures

pub returns : goal.returns
returns c =
    let s = c in
    table_codes_lem _ _ _ _ _ c.requires _ c.encode_all_prefixes.ensures _ c.count_back-count.ensures (octets c.args.text.now (λ i. omega (arith, c.type_inv.text i))) _ c.write_back.ensures
