-- The count of bytes before one, as the code finds it. Assumes nothing.
use Rattle.std.proofs.Common.{◌≡◌, ℕ, ◌+◌, ◌≤◌, suc, not, cond, Option, unwrap_or, List, length, refl, ap, eqb, arith}
use Rattle.std.proofs.lemmas.Grind.{common_steps}
use Rattle.std.specs.List.{position, position_or_len}
use Rattle.std.proofs.lemmas.List.Recursion.{is_position_or_len}
use Rattle.std.proofs.lemmas.List.Sums.{prefix_len-le-length}
use Rattle.words.specs.Parts.{count_before}

-- it is the place of the first such byte, or the length
pub count_before-place : (byte : ℕ) (s : List ℕ) → count_before byte s ≡ position_or_len (λ x. eqb x byte) s
unfolding count_before
count_before-place byte s =
    is_position_or_len (count_before byte) (λ x. eqb x byte) refl
    (λ x xs.
    let e : suc (count_before byte xs) ≡ 1 + count_before byte xs = omega arith in
    ap (cond (eqb x byte) 0) e) s

pub count_before_is : (byte : ℕ) (s : List ℕ) (r : Option ℕ) (n : ℕ)
    → r ≡ position (λ x. eqb x byte) s → n ≡ unwrap_or r (length s) → n ≡ count_before byte s
count_before_is byte s r n e f =
    let h : position_or_len (λ x. eqb x byte) s ≤ length s = prefix_len-le-length (λ x. not (eqb x byte)) s in
    rw (count_before-place byte s) (grind (arith, common_steps))
