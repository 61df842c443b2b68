-- The child of a row that goes on as a text does from a place on. Assumes nothing.
use mathlib.Core.Path.{◌≡◌, sym, ap, ◌∙◌}
use mathlib.Core.List.{List}
use mathlib.Core.Bool.{false}
use Prim.Native.Nat.{ℕ, ◌+◌, ◌-◌, ◌≤◌, ◌<◌}
use native.Mathlib.Omega.{arith}
use lib.ListN.{length, length-drop, get_or, take, drop}
use lib.Seq.{get_or-drop, drop-drop, take_all}
use Rattle.marks.specs.Marks.{marked}
use Rattle.theory.specs.Dictionary.{none}
use Rattle.forest.specs.Words.{row_of, bucket_of, child_key, marks_from}
use Rattle.forest.specs.Lookups.{OneLonger, ChildIs}
use Rattle.forest.proofs.Walking.{walk_out}
use Rattle.forest.proofs.Searching.{search_start, search_one, search_over, search_unmarked}

module _ (t : List ℕ) (k : ℕ) where
  -- the byte at the place
  pub first-at : get_or (drop k t) 0 0 ≡ get_or t k 0
  first-at = let a : k + 0 ≡ k = omega arith in get_or-drop k t 0 0 ∙ ap (λ (i : ℕ). get_or t i 0) a

  -- the rest of the text, as the code cuts it out
  pub rest_at : take (length t - k) (drop k t) ≡ drop k t
  rest_at = take_all (length t - k) (drop k t) (omega (arith, length-drop k t))

  -- the rest from a later place on
  pub rest-later : (i : ℕ) → k ≤ i → drop i t ≡ drop (i - k) (drop k t)
  rest-later i h = let a : k + (i - k) ≡ i = omega arith in sym (drop-drop (i - k) k t ∙ ap (λ (j : ℕ). drop j t) a)

module _ (R : ℕ → List ℕ) (n : ℕ) (area : List ℕ) (p len : ℕ) (t : List ℕ) (k : ℕ) where
  -- the first word of the bucket, where its row is one byte longer
  pub one_at : (x h l : ℕ) → h ≡ bucket_of p (get_or t k 0) → x ≡ get_or area h 0 → OneLonger x (get_or t k 0) → row_of x < n → n ≤ 4096 → get_or t k 0 < 256 → k < length t → l ≡ len + 1
      → ChildIs R n area p len (drop k t) (row_of x) l
  one_at x h l hi xi o b N byte room lx =
      let e = first-at t k in
      search_one R n area p len (drop k t) x h l (hi ∙ ap (λ (c : ℕ). bucket_of p c) (sym e)) xi (rw e o) b N (omega (arith, e)) (omega (arith, length-drop k t)) lx

  -- an empty bucket
  pub none-at : (x h l : ℕ) → h ≡ bucket_of p (get_or t k 0) → x ≡ get_or area h 0 → n ≤ row_of x → ChildIs R n area p len (drop k t) none l
  none-at x h l hi xi b =
      search_over R n area p len (drop k t) x n l (walk_out n area n x b) (rw (sym xi) at (search_start R n area p len (drop k t) h (hi ∙ ap (λ (c : ℕ). bucket_of p c) (sym (first-at t k)))))

  -- where prefix and next byte are not marked there is no child
  pub unmarked-at : (l : ℕ) → marked area marks_from (child_key p (get_or t k 0)) ≡ false → ChildIs R n area p len (drop k t) none l
  unmarked-at l e = search_unmarked R n area p len (drop k t) l (ap (λ (b : ℕ). marked area marks_from (child_key p b)) (first-at t k) ∙ e)
