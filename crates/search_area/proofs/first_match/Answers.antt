-- Rests on the row of the first byte. Assumes nothing.
use mathlib.Core.Path.{◌≡◌, ap, ◌∙◌}
use Prim.Native.Nat.{ℕ, ◌+◌}
use native.Mathlib.Omega.{arith}
use lib.ListN.{length-drop, get_or, drop}
use lib.Seq.{get_or-drop}
use Rattle.search_area.proofs.Stepping.{first_byte_lem}
use Rattle.search_area.proofs.first_match.Goals as goal

pub returns : goal.returns
returns c =
    let a = c.args in
    let k : a.at + 0 ≡ a.at = omega arith in
    let e : get_or (drop a.at a.text.now) 0 0 ≡ get_or a.text.now a.at 0 = get_or-drop a.at a.text.now 0 0 ∙ ap (λ (i : ℕ). get_or a.text.now i 0) k in (
      first_byte_lem _ _ _ _ (drop a.at a.text.now) _ c.args.rows.now.placed.few (omega (arith, c.if-text-at.false, length-drop a.at a.text.now)) (omega (arith, e, c.type_inv.text a.at))
          (rw e c.byte_row.ensures),
      omega arith,
    )
