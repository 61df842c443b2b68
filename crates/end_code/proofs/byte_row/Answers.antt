-- The shortest row at the place is that of the byte (proofs/Bytes.antt). Assumes nothing.
use native.Mathlib.Omega.{arith}
use Rattle.end_code.proofs.Bytes.{byte-none, byte-some}
use Rattle.end_code.proofs.byte_row.Goals as goal

pub returns-then-found : goal.returns-then-found
returns-then-found c = byte-none _ _ _ _ _ _ c.requires _ _ c.first_match-found.ensures.0 (omega (arith, c.type_inv.bytes c.args.i)) c.if-found.true

pub returns : goal.returns
returns c = byte-some _ _ _ _ _ _ c.requires _ _ c.first_match-found.ensures.0 (omega (arith, c.type_inv.bytes c.args.i)) c.if-found.false
