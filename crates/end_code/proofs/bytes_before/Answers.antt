-- The length read is that of the dictionary's row. Assumes nothing.
use mathlib.Core.Path.{ap, ◌∙◌}
use Prim.Native.Nat.{ℕ, ◌-◌}
use Rattle.end_code.proofs.Sizes.{read-size}
use Rattle.end_code.proofs.bytes_before.Goals as goal

pub returns : goal.returns
returns c = c.saturating_sub.ensures ∙ ap (λ (k : ℕ). c.args.pos - k) (read-size _ _ _ _ _ c.requires c.length_of.ensures.is)
