-- Decoding (theorem 9): the codes of a text, by each procedure, spell the text.
use mathlib.Core.Path.{◌≡◌}
use mathlib.Core.List.{List, [], ◌∷◌}
use Prim.Native.Nat.{ℕ, ◌≤◌}
use native.Mathlib.Omega.{arith}
use lib.ListN.{length, length-append}
use Rattle.theory.specs.Dictionary.{Dictionary, spell, KnownText}
use Rattle.theory.specs.Paper.{paper_codes}
use Rattle.theory.specs.Demands.{Decoded}
use Rattle.theory.proofs.Stage as St
use Rattle.theory.proofs.PairCheck.{Lawful}
use Rattle.theory.proofs.Encode.{encode-spells}
use Rattle.theory.proofs.RowsAt.{filled}
use Rattle.theory.proofs.Shortest.{shortest-spells}
use Rattle.theory.proofs.Greedy.{greedy-spells}

module _ (D : Dictionary) where
  module _ (A : Lawful D) where
    paper-spells : (t : List ℕ) → spell D (paper_codes D t) ≡ t
    unfolding paper_codes
    paper-spells t = St.spell-stage D A.laws D.count t

    pub decoded : (t : List ℕ) → KnownText D t → Decoded D t
    decoded t k = record { merge = encode-spells D A t; paper = paper-spells t; shortest = shortest-spells D A t k; greedy = greedy-spells D A t k }

    -- a list has no more codes than it spells bytes
    pub codes_fit : (M : List ℕ) → length M ≤ length (spell D M)
    codes_fit [] = omega arith
    codes_fit (c ∷ M) = let h = codes_fit M in omega (arith, length-append (D.bytes c) (spell D M), filled D A c)
