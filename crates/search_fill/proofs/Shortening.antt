-- The longest row that begins a row before its last byte is its prefix. Assumes nothing.
use mathlib.Core.Path.{◌≡◌, sym, ap, ◌∙◌}
use mathlib.Core.List.{List}
use mathlib.Core.Logic.{⊎_elim}
use Prim.Native.Nat.{ℕ, ◌-◌, ◌<◌}
use native.Mathlib.Nat.{eq-or-lt_of_le}
use native.Mathlib.Omega.{arith}
use lib.ListN.{length, get_or, take, drop, take-append-drop}
use lib.Seq.{length-take-le}
use Rattle.placed_rows.specs.Rows.{row}
use Rattle.placed_rows.specs.Texts.{Begins}
use Rattle.placed_rows.specs.Longest.{Below, Prefix}
use Rattle.placed_rows.proofs.Beginning.{through, both, begins-length, same_length}
use Rattle.forest.specs.Words.{In}
use Rattle.forest.proofs.NoChild.{filled}
use Rattle.search_area.specs.Area.{all_rows, Finds}
use Rattle.search_area.specs.Answers.{NextMatch}
use Rattle.search_area.proofs.Looking.{front-index, below_in}
use Rattle.search_fill.specs.Steps.{PrefixIs}

module _ (file places : List ℕ) (n : ℕ) (area : List ℕ) (c : ℕ) (C : c < n) where
  abbrev R : ℕ → List ℕ
  R = row file places n

  -- there is no row of no bytes
  pub prefix-empty : (p : ℕ) → length (R c) ≡ 0 → PrefixIs file places n area c p
  prefix-empty p e = record {
    prefix = λ F.
        let I = front-index file places n area F in
        absurd (omega (arith, filled R I.par (In (all_rows n)) I.forest c (below_in n c C)));
  }

  pub prefix-longest : (t : List ℕ) (r l : ℕ) → 0 < length (R c) → t ≡ take (length (R c) - 1) (R c) → NextMatch file places n area t r l → PrefixIs file places n area c r
  prefix-longest t r l h e M = record { prefix = go }
    where
      front : Begins t (R c)
      front = record { rest = drop (length (R c) - 1) (R c); split = rw e (sym (take-append-drop (length (R c) - 1) (R c))) }

      size : length t ≡ length (R c) - 1
      size = ap length e ∙ length-take-le (length (R c) - 1) (R c) (omega arith)

      go : Finds file places n area → Prefix R (Below n) c r
      go F =
          let L = (M.longest F).0 in
          let I = front-index file places n area F in
          let s = size in
          record {
            known = L.known;
            begins = through (R r) t (R c) L.begins front;
            shorter = omega (arith, begins-length (R r) t L.begins);
            longest = λ d k o b. ⊎_elim
                (λ z. absurd (o (I.forest.distinct d c (below_in n d k) (below_in n c C) (same_length (R d) (R c) b z))))
                (λ z. L.longest d k (both (R d) t (R c) b front (omega arith)))
                (eq-or-lt_of_le (begins-length (R d) (R c) b));
          }

-- the first c prefixes are there
pub record Prefixed (file places : List ℕ) (n : ℕ) (area prefixes : List ℕ) (c : ℕ) (prefixes' : List ℕ) : Type 0 where
  pub kept : length prefixes' ≡ length prefixes
  pub beyond : drop n prefixes' ≡ drop n prefixes
  pub prefix : Finds file places n area → (d : ℕ) → d < c → Prefix (row file places n) (Below n) d (get_or prefixes' d 0)
