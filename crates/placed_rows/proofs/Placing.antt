-- Laws of the rows that are read through the table of places. Assumes nothing.
use mathlib.Core.Path.{◌≡◌, sym, ap, ◌∙◌}
use mathlib.Core.List.{List, []}
use Prim.Native.Nat.{ℕ, ◌+◌, ◌-◌, ◌≤◌, ◌<◌}
use native.Mathlib.Omega.{arith}
use lib.ListN.{length, length-drop, get_or, take, drop}
use lib.Seq.{length-take-le}
use borrow.Author.Tests.{lt-ltb, le-ltb}
use Rattle.placed_rows.specs.Rows.{row, Placed}

module _ (file places : List ℕ) (n c : ℕ) where
  pub row-none : n ≤ c → row file places n c ≡ []
  unfolding row
  row-none h = rw (le-ltb c n h, row)

  row_is : c < n → row file places n c ≡ take (get_or file (get_or places c 0 + 2) 0) (drop (get_or places c 0 + 3) file)
  unfolding row
  row_is h = rw (lt-ltb c n h, row)

  pub row-length : Placed file places n → c < n → length (row file places n c) ≡ get_or file (get_or places c 0 + 2) 0
  row-length T h =
      let i = T.inside c h in
      ap length (row_is h) ∙ length-take-le (get_or file (get_or places c 0 + 2) 0) (drop (get_or places c 0 + 3) file) (omega (arith, length-drop (get_or places c 0 + 3) file))

  -- the row, as code cuts it out of the file
  pub row-whole : (at l : ℕ) → c < n → at ≡ get_or places c 0 → l ≡ get_or file (at + 3 - 1) 0 → take (at + 3 + l - (at + 3)) (drop (at + 3) file) ≡ row file places n c
  row-whole at l h e f =
      let z : at + 3 + l - (at + 3) ≡ l = omega arith in
      let y : at + 3 - 1 ≡ at + 2 = omega arith in
      let k : l ≡ get_or file (get_or places c 0 + 2) 0 = f ∙ ap (λ (j : ℕ). get_or file j 0) y ∙ ap (λ (j : ℕ). get_or file (j + 2) 0) e in
      rw (z, k, e) (sym (row_is h))
