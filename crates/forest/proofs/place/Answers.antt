-- By the laws of the place. Assumes nothing.
use mathlib.Core.Path.{sym, ap, ◌∙◌}
use Prim.Native.Nat.{ℕ, ◌+◌}
use native.Mathlib.Omega.{arith}
use Rattle.forest.proofs.Pushing.{place_in, place_out}
use Rattle.forest.proofs.place.Goals as goal

pub returns-then-n-first : goal.returns-then-n-first
returns-then-n-first c =
    let a = c.args in
    let f = c.row_of-first.ensures.is in
    record { is = sym (place_out a.area.now a.n a.h (omega (arith, f, c.if-n-first.true))); below = omega (arith, c.requires.bucket) }

pub returns : goal.returns
returns c =
    let a = c.args in
    let f = c.row_of-first.ensures.is in
    record {
      is = ap (λ (i : ℕ). 8448 + i) f ∙ sym (place_in a.area.now a.n a.h (omega (arith, f, c.if-n-first.false)));
      below = omega (arith, c.requires.few, c.if-n-first.false);
    }
