-- Rests on `next_match`: the longest row that begins a row before its last byte is its prefix. Assumes nothing.
use mathlib.Core.Path.{sym, ap, ◌∙◌}
use mathlib.Core.List.{List}
use Prim.Native.Nat.{ℕ, ◌-◌}
use native.Mathlib.Omega.{arith}
use lib.ListN.{length, take}
use Rattle.search_fill.proofs.Shortening.{prefix-empty, prefix-longest}
use Rattle.search_fill.proofs.prefix_of.Goals as goal

pub returns-then-bytes-eq0 : goal.returns-then-bytes-eq0
returns-then-bytes-eq0 c = prefix-empty _ _ _ _ _ c.requires.row _ (sym (ap length c.bytes_of-bytes.ensures) ∙ c.if-bytes-eq0.true)

pub returns : goal.returns
returns c =
    let e = c.bytes_of-bytes.ensures in
    prefix-longest _ _ _ _ _ c.requires.row _ _ _ (omega (arith, ap length e, c.if-bytes-eq0.false)) (ap (λ (t : List ℕ). take (length t - 1) t) e) c.next_match-m.ensures
