-- Which keys are marked after one number has changed, and that only one number counts for a key. Assumes nothing.
use mathlib.Core.Path.{◌≡◌, refl, sym, ap, ◌∙◌}
use mathlib.Core.List.{List}
use mathlib.Core.Bool.{Bool, true, false, not, ◌&&◌, true≢false}
use Prim.Native.Nat.{ℕ, zero, suc, ◌+◌, ◌*◌, ◌/◌, ◌%◌, ◌^◌, ◌<◌}
use native.Mathlib.Decide.{ℕ_discrete}
use native.Mathlib.Omega.{arith}
use lib.ListN.{length, get_or, set}
use lib.Seq.{get_or-set_same, get_or-set_other}
use lib.Dec.{eqb}
use Rattle.bitfield.specs.Bits.{word_bit, without}
use Rattle.bitfield.proofs.Without.{without-same, without_other}
use Rattle.marks.specs.Marks.{both_clear, marked, bit_key, Marks}

-- two remainders by 2 are both 0 if their sum is
both-even : (m n : ℕ) → eqb (m % 2 + n % 2) 0 ≡ not (eqb (m % 2) 1) && not (eqb (n % 2) 1)
both-even m n = go (m % 2) (n % 2) (omega arith) (omega arith)
  where
    go : (c d : ℕ) → c < 2 → d < 2 → eqb (c + d) 0 ≡ not (eqb c 1) && not (eqb d 1)
    go zero zero h i = refl
    go zero (suc zero) h i = refl
    go (suc zero) zero h i = refl
    go (suc zero) (suc zero) h i = refl
    go zero (suc (suc d)) h i = absurd (omega arith)
    go (suc zero) (suc (suc d)) h i = absurd (omega arith)
    go (suc (suc c)) d h i = absurd (omega arith)

-- a word v that is w without its bit p: the bit is clear, and one that was clear is
module _ (w p v : ℕ) (e : word_bit v ≡ without (word_bit w) p) where
  clears : word_bit v p ≡ false
  clears = ap (λ (f : ℕ → Bool). f p) e ∙ without-same (word_bit w) p

  stays-clear : (q : ℕ) → word_bit w q ≡ false → word_bit v q ≡ false
  stays-clear q f = ap (λ (g : ℕ → Bool). g q) e ∙ go (ℕ_discrete q p)
    where
      go : Dec (q ≡ p) → without (word_bit w) p q ≡ false
      go (yes z) = rw z (without-same (word_bit w) p)
      go (no n) = without_other (word_bit w) p q n ∙ f

-- two clear bits, and each of them
module _ (w a b : ℕ) where
  clear_both : word_bit w a ≡ false → word_bit w b ≡ false → both_clear w a b ≡ true
  unfolding both_clear
  clear_both e f = rw (e, f)

  both-clear : both_clear w a b ≡ true → (word_bit w a ≡ false) × (word_bit w b ≡ false)
  unfolding both_clear
  both-clear = go (word_bit w a) (word_bit w b)
    where
      go : (x y : Bool) → not x && not y ≡ true → (x ≡ false) × (y ≡ false)
      go false false z = (refl, refl)
      go false true z = (refl, sym z)
      go true y z = absurd (true≢false (sym z))

-- a word v that is w without its bits a and b: both are clear, and two that were clear are
module _ (w a u b v : ℕ) (first : word_bit u ≡ without (word_bit w) a) (second : word_bit v ≡ without (word_bit u) b) where
  both-new : both_clear v a b ≡ true
  both-new = clear_both v a b (stays-clear u b v second a (clears w a u first)) (clears u b v second)

  both-old : (i j : ℕ) → both_clear w i j ≡ true → both_clear v i j ≡ true
  both-old i j e = let z = both-clear w i j e in clear_both v i j (still i z.0) (still j z.1)
    where
      still : (q : ℕ) → word_bit w q ≡ false → word_bit v q ≡ false
      still q f = stays-clear u b v second q (stays-clear w a u first q f)

-- the two bits of a key, in the number that counts for it
marked_in : (numbers : List ℕ) (base w k : ℕ) → get_or numbers (base + k / 1024) 0 ≡ w → marked numbers base k ≡ both_clear w (k / 32 % 32) (k % 32)
unfolding marked
marked_in numbers base w k e = ap (λ (x : ℕ). both_clear x (k / 32 % 32) (k % 32)) e

module _ (numbers : List ℕ) (base : ℕ) where
  -- only one number counts for a key
  pub marked-same : (numbers' : List ℕ) (k : ℕ) → get_or numbers' (base + k / 1024) 0 ≡ get_or numbers (base + k / 1024) 0 → marked numbers' base k ≡ marked numbers base k
  unfolding marked
  marked-same numbers' k e = marked_in numbers' base (get_or numbers (base + k / 1024) 0) k e

  -- what `is_marked` computes
  pub marked-is : (k : ℕ) → eqb (get_or numbers (base + k / 1024) 0 / 2 ^ (k / 32 % 32) % 2 + get_or numbers (base + k / 1024) 0 / 2 ^ (k % 32) % 2) 0 ≡ marked numbers base k
  unfolding marked both_clear word_bit
  marked-is k = both-even (get_or numbers (base + k / 1024) 0 / 2 ^ (k / 32 % 32)) (get_or numbers (base + k / 1024) 0 / 2 ^ (k % 32))

-- marking key k: the number at its place is v, without the key's two bits
module _ (numbers : List ℕ) (base k u v : ℕ) (inside : base + k / 1024 < length numbers)
    (first : word_bit u ≡ without (word_bit (get_or numbers (base + k / 1024) 0)) (k / 32 % 32)) (second : word_bit v ≡ without (word_bit u) (k % 32)) where
  abbrev was : ℕ
  was = get_or numbers (base + k / 1024) 0

  abbrev after : List ℕ
  after = set numbers (base + k / 1024) v

  here : (j : ℕ) → j / 1024 ≡ k / 1024 → get_or after (base + j / 1024) 0 ≡ v
  here j e = ap (λ (i : ℕ). get_or after (base + i) 0) e ∙ get_or-set_same numbers (base + k / 1024) v 0 inside

  new : marked after base k ≡ true
  new = marked_in after base v k (here k refl) ∙ both-new was (k / 32 % 32) u (k % 32) v first second

  old : (j : ℕ) → marked numbers base j ≡ true → Dec (j / 1024 ≡ k / 1024) → marked after base j ≡ true
  old j m (yes e) =
      let z : both_clear was (j / 32 % 32) (j % 32) ≡ true = sym (marked_in numbers base was j (ap (λ (i : ℕ). get_or numbers (base + i) 0) e)) ∙ m in
      marked_in after base v j (here j e) ∙ both-old was (k / 32 % 32) u (k % 32) v first second (j / 32 % 32) (j % 32) z
  old j m (no n) = marked-same numbers base after j (get_or-set_other numbers (base + k / 1024) (base + j / 1024) v 0 (λ z. n (omega arith))) ∙ m

  pub marks : Marks numbers base k after
  marks = record { number = v; is = refl; new = new; old = λ j m. old j m (ℕ_discrete (j / 1024) (k / 1024)) }

-- one bit twice: the remainder by 2 is 0
even : (m : ℕ) → eqb (m % 2) 0 ≡ not (eqb (m % 2) 1) && not (eqb (m % 2) 1)
even m = go (m % 2) (omega arith)
  where
    go : (c : ℕ) → c < 2 → eqb c 0 ≡ not (eqb c 1) && not (eqb c 1)
    go zero h = refl
    go (suc zero) h = refl
    go (suc (suc c)) h = absurd (omega arith)

-- a key of one bit is one of the number's own
pub bit_key_number : (i b : ℕ) → b < 32 → bit_key i b / 1024 ≡ i
unfolding bit_key
bit_key_number i b h = omega arith

-- what `is_bit_marked` computes
pub bit_marked_is : (numbers : List ℕ) (base i b : ℕ) → b < 32 → eqb (get_or numbers (base + i) 0 / 2 ^ b % 2) 0 ≡ marked numbers base (bit_key i b)
unfolding marked both_clear word_bit bit_key
bit_marked_is numbers base i b h =
    let x : (i * 1024 + b * 33) / 1024 ≡ i = omega arith in
    let v : (i * 1024 + b * 33) / 32 ≡ i * 32 + b = omega arith in
    let y : (i * 32 + b) % 32 ≡ b = omega arith in
    let z : (i * 1024 + b * 33) % 32 ≡ b = omega arith in
    rw (x, v, y, z) (even (get_or numbers (base + i) 0 / 2 ^ b))
