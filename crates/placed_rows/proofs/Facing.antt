-- Laws of texts read from the front or from the back. Assumes nothing.
use mathlib.Core.Path.{◌≡◌, sym, ap, ◌∙◌}
use mathlib.Core.List.{List, ◌++◌, reverse, reverse-append, reverse-reverse}
use mathlib.Core.Bool.{Bool, true}
use Prim.Native.Nat.{ℕ, ◌-◌}
use lib.ListN.{length, take, drop}
use Rattle.std.proofs.lemmas.Bool.Decides.{Decides-eqb}
use Rattle.std.proofs.lemmas.Slice.Eq.{ends_is}
use lib.Dec.{eqb}
use lib.Pointwise.{pointwise}
use Rattle.placed_rows.specs.Texts.{Begins, Ends, begins, facing}
use Rattle.placed_rows.proofs.Beginning.{iff, begins-split, split-begins}

-- what ends a text begins it from the back
pub ends-begins : (p t : List ℕ) → Ends p t → Begins (facing true p) (facing true t)
unfolding facing
ends-begins p t e = record { rest = reverse e.before; split = ap reverse e.split ∙ reverse-append e.before p }

pub begins-ends : (p t : List ℕ) → Begins (facing true p) (facing true t) → Ends p t
unfolding facing
begins-ends p t b = record {
  before = reverse b.rest;
  split = sym (reverse-reverse t) ∙ ap reverse b.split ∙ reverse-append (reverse p) b.rest ∙ ap (λ (l : List ℕ). reverse b.rest ++ l) (reverse-reverse p);
}

-- the library's test of the end of a text
pub ends-facing : (p t : List ℕ) (r : Bool) → r ≡ pointwise eqb p (drop (length t - length p) t) → r ≡ begins (facing true p) (facing true t)
ends-facing p t r e =
    let q = ends_is Decides-eqb t p r e in
    iff r _ (λ h. split-begins _ _ (ends-begins p t (record { before = take (length t - length p) t; split = q.0 h })))
    (λ b. let s = begins-ends p t (begins-split _ _ b) in q.1 s.before s.split)
