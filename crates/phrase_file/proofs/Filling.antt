-- A list that is written to the front of a table, one element after the other. Assumes nothing.
use mathlib.Core.Path.{◌≡◌, refl, sym, ap, ◌∙◌}
use mathlib.Core.List.{List, [], ◌∷◌, ◌++◌}
use Prim.Native.Nat.{ℕ, suc, ◌+◌, ◌<◌, ◌≤◌}
use native.Mathlib.Numerals.{add-one}
use native.Mathlib.Omega.{arith}
use lib.ListN.{length, get_or, take, drop, set, length-append, length-drop}
use lib.Seq.{take-suc, drop-cons, take-length, length-take-le, set_at, append_snoc}

-- the table d with the first n elements of w at its front, where `rest` is left of w
pub record Filled (w d : List ℕ) (n : ℕ) (rest now : List ℕ) : Type 0 where
  pub few : n ≤ length w
  pub left : drop n w ≡ rest
  pub is : now ≡ take n w ++ drop n d

module _ (w d : List ℕ) (room : length w ≤ length d) where
  pub filled-start : Filled w d 0 w d
  filled-start = record { few = omega arith; left = refl; is = refl }

  module _ (n : ℕ) (rest now : List ℕ) (f : Filled w d n rest now) where
    pub filled-length : length now ≡ length d
    filled-length = ap length f.is ∙ simp (length-append, length-drop, length-take-le n w f.few) (omega arith)

    pub filled-count : n + length rest ≡ length w
    filled-count = omega (arith, f.few, simp length-drop at (ap length f.left))

    pub filled-all : rest ≡ [] → now ≡ w ++ drop (length w) d
    filled-all e =
        let l : n ≡ length w = omega (arith, f.few, simp length-drop at (ap length (f.left ∙ e))) in
        f.is ∙ rw (l, take-length)

    module _ (x : ℕ) (xs : List ℕ) (e : rest ≡ x ∷ xs) where
      pub filled-below : n < length w
      filled-below = omega (arith, simp length-drop at (ap length (f.left ∙ e)))

      pub filled_more : Filled w d (n + 1) xs (set now n x)
      filled_more =
          let below = filled-below in
          let whole : get_or w n 0 ∷ drop (suc n) w ≡ x ∷ xs = sym (drop-cons w n 0 below) ∙ f.left ∙ e in
          let here : get_or w n 0 ≡ x = cc in
          let later : drop (suc n) w ≡ xs = cc in
          let k : length (take n w) ≡ n = length-take-le n w f.few in
          record {
            few = omega arith;
            left = rw add-one later;
            is = rw (f.is, add-one, drop-cons d n 0 (omega arith), take-suc w n 0 below, here)
                (set_at (take n w) (get_or d n 0) (drop (suc n) d) x n k ∙ sym (append_snoc (take n w) x (drop (suc n) d)));
          }
