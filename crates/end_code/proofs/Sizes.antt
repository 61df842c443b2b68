-- The lengths of rows as they are read, and the entries of a table that is written from its front. Assumes nothing.
use mathlib.Core.Path.{◌≡◌, ap, ◌∙◌}
use mathlib.Core.Logic.{⊎_elim}
use mathlib.Core.List.{List, [], ◌∷◌}
use Prim.Native.Nat.{ℕ, suc, ◌-◌, ◌<◌}
use native.Mathlib.Nat.{eq-or-lt_of_le}
use native.Mathlib.Omega.{arith}
use lib.ListN.{length, get_or, set}
use Rattle.std.proofs.lemmas.List.{get_or_default}
use lib.Seq.{get_or-set_same, get_or-set_other}
use Rattle.phrase_file.specs.Form.{rows}
use Rattle.placed_rows.specs.Rows.{row}
use Rattle.theory.specs.Parts.{dictionary}
use Rattle.built_tables.specs.Built.{dictionary_of}
use Rattle.end_code.specs.Tables.{RowReady}

-- what holds of each entry below i and of the one set holds of each below i + 1
pub at_set : (Q : ℕ → ℕ → Type 0) (l : List ℕ) (i v m : ℕ) → i < length l → m ≡ suc i
    → ((j : ℕ) → j < i → Q j (get_or l j 0)) → Q i v → (j : ℕ) → j < m → Q j (get_or (set l i v) j 0)
at_set Q l i v m h z below here j k = ⊎_elim
    (λ e. let y : j ≡ i = omega arith in rw (y, get_or-set_same l i v 0 h) here)
    (λ b. rw (get_or-set_other l i j v 0 (λ y. omega arith)) (below j (omega arith)))
    (eq-or-lt_of_le k)

-- the length of a row as it is read is that of the dictionary's row
row-size : (file places : List ℕ) (n c : ℕ) → RowReady file places n c → length (row file places n c) ≡ length ((dictionary_of file).bytes c)
unfolding dictionary_of dictionary
row-size file places n c R =
    let h = R.row in
    let k = R.places_ready.count in
    ap length (R.places_ready.rows_are c R.row ∙ get_or_default (rows file) c [] ((c - length (rows file)) ∷ []) (omega arith))

pub row-some : (file places : List ℕ) (n c : ℕ) → RowReady file places n c → 0 < length ((dictionary_of file).bytes c)
row-some file places n c R = omega (arith, row-size file places n c R, ap length (R.places_ready.rows_are c R.row), R.places_ready.filled c R.row)

-- a length that is read
pub read-size : (file places : List ℕ) (n c len : ℕ) → RowReady file places n c → len ≡ length (row file places n c) → len ≡ length ((dictionary_of file).bytes c)
read-size file places n c len R e = e ∙ row-size file places n c R
