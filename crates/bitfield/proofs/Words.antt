-- The bits of one word: without one of them, the lowest from a place on and the highest from a place down. Assumes nothing.
use mathlib.Core.Path.{◌≡◌, sym, ap, ◌∙◌, fun_ext}
use Rattle.std.specs.Prelude.{None, Some}
use Prim.Native.Nat.{ℕ, suc, ◌+◌, ◌-◌, ◌*◌, ◌/◌, ◌%◌, ◌^◌, ◌<◌, ◌≤◌}
use native.Mathlib.Decide.{dec_lt, ℕ_discrete}
use native.Mathlib.Omega.{arith}
use native.Mathlib.Nat.{zero-div, mod-lt, div-eq_of_lt, div-eq_of_lt-le, lt_of_le_of_lt, lt_of_lt_of_le}
use lib.Bits.{bit_and}
use lib.Pow.{pow_pos, pow_mono, shl-shr, shr-shr, shr_le, field, mod-mod-pow}
use lib.Count.{count_trailing_zeros, count_leading_zeros, leading_top}
use lib.Dec.{eqb}
use mir.Val.{bits}
use Rattle.std.specs.Int.{Width, w64, bit_at, bit_not}
use Rattle.std.proofs.lemmas.Nat.{and_le_l}
use Rattle.std.proofs.lemmas.Nat.Bits.{bit_at_above, bit_at_clear_same, bit_at_clear_other, bit_at-trailing_zeros}
use Rattle.bitfield.specs.Bits.{word_bit, without}
use Rattle.bitfield.proofs.Without.{without-same, without_other}
use Rattle.bitfield.proofs.Search.{Lowest, Highest}

pub bit_of : (w j v : ℕ) → w / 2 ^ j % 2 ≡ v → word_bit w j ≡ eqb v 1
unfolding word_bit
bit_of w j v e = rw e

-- `word & !(1 << k)` is the word without its bit k, at each width
module _ (width : Width) (w k : ℕ) (within : k < bits width) (fits : w < 2 ^ bits width) where
  abbrev masked : ℕ
  masked = bit_and w (bit_not width (1 * 2 ^ k % 2 ^ bits width))

  kept : (j : ℕ) → (j ≡ k → ⊥) → Dec (j < bits width) → bit_at masked j ≡ bit_at w j
  kept j n (yes l) = bit_at_clear_other width w k within j l n
  kept j n (no l) =
      bit_at_above masked (bits width) j (lt_of_le_of_lt (and_le_l w _) fits) (omega arith) ∙ sym (bit_at_above w (bits width) j fits (omega arith))

  pub without-bit : word_bit (bit_and w (bit_not width (1 * 2 ^ k % 2 ^ bits width))) ≡ without (word_bit w) k
  unfolding word_bit
  without-bit = fun_ext (λ j. go j (ℕ_discrete j k))
    where
      go : (j : ℕ) → Dec (j ≡ k) → word_bit masked j ≡ without (word_bit w) k j
      go j (yes e) = rw (e, without-same (word_bit w) k) (bit_of masked k 0 (bit_at_clear_same width w k within))
      go j (no n) = rw (without_other (word_bit w) k j n) (bit_of masked j (bit_at w j) (kept j n (dec_lt j (bits width))))

-- digit j of a number is digit j - k of its quotient by 2 ^ k
shifted : (w k j : ℕ) → k ≤ j → w / 2 ^ j ≡ w / 2 ^ k / 2 ^ (j - k)
shifted w k j l = let e : k + (j - k) ≡ j = omega arith in sym (rw (shr-shr, e))

-- a set digit of a number of m digits is below m
digit_below : (n m j : ℕ) → n < 2 ^ m → n / 2 ^ j % 2 ≡ 1 → j < m
digit_below n m j h e = go (dec_lt j m)
  where
    go : Dec (j < m) → j < m
    go (yes l) = l
    go (no x) = absurd (omega (arith, bit_at_above n m j h (omega arith)))

-- what `lowest_from` finds: the digits from k on are those of w / 2 ^ k
module _ (w k : ℕ) where
  pub lowest-none : w / 2 ^ k ≡ 0 → Lowest (word_bit w) k 64 None
  lowest-none e j i =
      bit_of w j 0 (ap (λ (x : ℕ). x % 2) (shifted w k j i.0 ∙ ap (λ (x : ℕ). x / 2 ^ (j - k)) e ∙ zero-div (2 ^ (j - k))))

  pub lowest-some : w < 2 ^ 64 → (w / 2 ^ k ≡ 0 → ⊥) → Lowest (word_bit w) k 64 (Some (k + count_trailing_zeros 64 (w / 2 ^ k)))
  lowest-some f n =
      let zeros = bit_at-trailing_zeros w64 (w / 2 ^ k) (omega arith) (lt_of_le_of_lt (shr_le w k) f) in
      let here : w / 2 ^ (k + count_trailing_zeros 64 (w / 2 ^ k)) % 2 ≡ 1 = rw (← shr-shr w k (count_trailing_zeros 64 (w / 2 ^ k))) zeros.1 in
      record {
        inside = (omega arith, digit_below w 64 _ f here);
        here = bit_of w (k + count_trailing_zeros 64 (w / 2 ^ k)) 1 here;
        clear = λ j i b. bit_of w j 0 (ap (λ (x : ℕ). x % 2) (shifted w k j i.0) ∙ zeros.2 (j - k) (omega arith));
      }

-- the digits up to k, as `highest_to` takes them
pub low_part : (w k : ℕ) → k < 64 → w * 2 ^ (63 - k) % 2 ^ 64 / 2 ^ (63 - k) ≡ w % 2 ^ suc k
low_part w k h =
    let e : suc k + (63 - k) ≡ 64 = omega arith in
    ap (λ (x : ℕ). w * 2 ^ (63 - k) % 2 ^ x / 2 ^ (63 - k)) (sym e)
    ∙ field (w * 2 ^ (63 - k)) (suc k) (63 - k) ∙ ap (λ (x : ℕ). x % 2 ^ suc k) (shl-shr w (63 - k))

-- what `highest_to` finds in them
module _ (w k rest : ℕ) (h : k < 64) (part : rest ≡ w % 2 ^ suc k) where
  rest_lt : rest < 2 ^ suc k
  rest_lt = rw part (mod-lt w (pow_pos (suc k)))

  rest_bit : (j v : ℕ) → j < suc k → rest / 2 ^ j ≡ v → word_bit w j ≡ eqb (v % 2) 1
  rest_bit j v l q =
      let e : k - j + 1 + j ≡ suc k = omega arith in
      let low : w % 2 ^ (k - j + 1 + j) / 2 ^ j % 2 ≡ w / 2 ^ j % 2 = ap (λ (n : ℕ). n % 2) (field w (k - j + 1) j) ∙ mod-mod-pow (w / 2 ^ j) (k - j) 1 in
      bit_of w j (v % 2)
      (sym low ∙ ap (λ (x : ℕ). w % 2 ^ x / 2 ^ j % 2) e ∙ ap (λ (x : ℕ). x / 2 ^ j % 2) (sym part) ∙ ap (λ (x : ℕ). x % 2) q)

  top : (rest ≡ 0 → ⊥) → (j : ℕ) × (count_leading_zeros 64 rest + suc j ≡ 64) × (2 ^ j ≤ rest) × (rest < 2 ^ suc j)
  top n = leading_top 64 rest (omega arith) (lt_of_lt_of_le rest_lt (pow_mono {j = 64} (omega arith)))

  pub highest-none : rest ≡ 0 → Highest (word_bit w) (suc k) None
  highest-none e j i = rest_bit j 0 i (ap (λ (x : ℕ). x / 2 ^ j) e ∙ zero-div (2 ^ j))

  pub highest-some : (rest ≡ 0 → ⊥) → Highest (word_bit w) (suc k) (Some (63 - count_leading_zeros 64 rest))
  highest-some n = go (top n)
    where
      go : (j : ℕ) × (count_leading_zeros 64 rest + suc j ≡ 64) × (2 ^ j ≤ rest) × (rest < 2 ^ suc j) → Highest (word_bit w) (suc k) (Some (63 - count_leading_zeros 64 rest))
      go (j, sum, lo, hi) =
          let at : 63 - count_leading_zeros 64 rest ≡ j = omega arith in
          let one : rest / 2 ^ j ≡ 1 = div-eq_of_lt-le (2 ^ j) (omega arith) (omega arith) in
          let below : j < suc k = digit_below rest (suc k) j rest_lt (ap (λ (x : ℕ). x % 2) one) in
          rw at (record {
            inside = below;
            here = rest_bit j 1 below one;
            clear = λ i l b. rest_bit i 0 l (div-eq_of_lt (lt_of_lt_of_le hi (pow_mono b)));
          })
