-- The end code has its count (proofs/Coding.antt). Assumes nothing.
use native.Mathlib.Omega.{arith}
use Rattle.built_tables.proofs.Rows.{octets}
use Rattle.typing_columns.proofs.Coding.{coded}
use Rattle.typing_columns.proofs.code_at.Goals as goal

pub returns : goal.returns
returns c = coded _ _ _ _ _ c.requires (octets c.args.bytes.now (λ j. omega (arith, c.type_inv.bytes j))) _ _ c.end_code_at.ensures
