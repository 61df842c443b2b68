-- `merge_encoder::byte_code` meets its contract: the two answers of the search are those of `Lookup`. Assumes nothing.
use Rattle.std.proofs.Common.{arith}
use Rattle.std.proofs.lemmas.Grind.{common_steps}
use Rattle.tables.specs.Tables.{pair_given}
use Rattle.merge_encoder.specs.Steps.{ByteCode}
use Rattle.merge_encoder.proofs.Lookup.{byte-none, byte-some}
use Rattle.merge_encoder.proofs.byte_code.Goals as goal
use Rattle.merge_encoder.proofs.byte_code.Goals.{then-found, else-found}

pub returns : goal.returns
returns c =
    let code : ByteCode (pair_given c.args.tables.now) c.args.tables.now.rows.n c.args.byte c.if-found.code =
    elim c.if-found.branch [
      | then-found w ↦ rw w.code-is (byte-none _ _ c.requires.rows_ready _ _ c.ranges.byte.fits c.find-found.ensures w.if-found.true)
      | else-found w ↦ rw w.code-is (byte-some _ _ c.requires.rows_ready _ _ c.ranges.byte.fits c.find-found.ensures w.if-found.false)
    ] in
    grind (arith, common_steps)
