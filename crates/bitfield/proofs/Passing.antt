-- How a search through the words passes word i: what it finds there, and what it leaves behind. Assumes nothing.
use mathlib.Core.Path.{◌≡◌, ◌∙◌}
use mathlib.Core.Bool.{Bool, false}
use mathlib.Core.List.{List}
use Rattle.std.specs.Prelude.{None, Some}
use Prim.Native.Nat.{ℕ, suc, ◌+◌, ◌-◌, ◌*◌, ◌/◌, ◌%◌, ◌<◌, ◌≤◌}
use native.Mathlib.Decide.{dec_lt}
use native.Mathlib.Omega.{arith}
use lib.ListN.{get_or}
use Rattle.bitfield.specs.Bits.{word_bit, is_set}
use Rattle.bitfield.proofs.Search.{Lowest, Highest}
use Rattle.bitfield.proofs.Sets.{set_below, set_beyond}

-- no bit from a on below b is set
abbrev pub Clear : (ℕ → Bool) → ℕ → ℕ → Type 0
Clear bits a b = Lowest bits a b None

joined : (bits : ℕ → Bool) (a b c : ℕ) → Clear bits a b → Clear bits b c → Clear bits a c
joined bits a b c x y j i = go (dec_lt j b)
  where
    go : Dec (j < b) → bits j ≡ false
    go (yes m) = x j (i.0, m)
    go (no n) = y j (omega arith, i.1)

module _ (ws : List ℕ) (i : ℕ) where
  in_word : (t : ℕ) → t < 64 → i * 64 + t < 4097 → is_set ws (i * 64 + t) ≡ word_bit (get_or ws i 0) t
  in_word t h l =
      let d : (i * 64 + t) / 64 ≡ i = omega arith in
      let m : (i * 64 + t) % 64 ≡ t = omega arith in
      set_below ws (i * 64 + t) l ∙ rw (d, m)

  clear_in_word : (s t : ℕ) → t ≤ 64 → Clear (word_bit (get_or ws i 0)) s t → Clear (is_set ws) (i * 64 + s) (i * 64 + t)
  clear_in_word s t h c j a = go (dec_lt j 4097)
    where
      e : i * 64 + (j - i * 64) ≡ j
      e = omega arith

      go : Dec (j < 4097) → is_set ws j ≡ false
      go (yes l) = rw e at (in_word (j - i * 64) (omega arith) (omega arith) ∙ c (j - i * 64) (omega arith, omega arith))
      go (no n) = set_beyond ws j (omega arith)

  -- upwards: the bits from p on below bit s of word i are clear
  module _ (p s : ℕ) (from : p ≤ i * 64 + s) (behind : Clear (is_set ws) p (i * 64 + s)) where
    pub up-past : (t : ℕ) → t ≤ 64 → Clear (word_bit (get_or ws i 0)) s t → Clear (is_set ws) p (i * 64 + t)
    up-past t h c = joined (is_set ws) p (i * 64 + s) (i * 64 + t) behind (clear_in_word s t h c)

    pub up_at : (k : ℕ) → Lowest (word_bit (get_or ws i 0)) s 64 (Some k) → Clear (is_set ws) p (i * 64 + k)
    up_at k r = up-past k (omega arith) (λ j b. r.clear j (b.0, omega arith) b.1)

    pub up-found : (k : ℕ) → Lowest (word_bit (get_or ws i 0)) s 64 (Some k) → i * 64 + k < 4097 → Lowest (is_set ws) p 4097 (Some (i * 64 + k))
    up-found k r l = record {
      inside = (omega arith, l);
      here = in_word k (omega arith) l ∙ r.here;
      clear = λ j b t. up_at k r j (b.0, t);
    }

  -- downwards: the bits above bit s of word i up to p are clear
  module _ (p s : ℕ) (small : s < 64) (to : i * 64 + s ≤ p) (below : i * 64 + s < 4097) (behind : Clear (is_set ws) (i * 64 + s + 1) (suc p)) where
    pub down-past : (t : ℕ) → Clear (word_bit (get_or ws i 0)) t (suc s) → Clear (is_set ws) (i * 64 + t) (suc p)
    down-past t c j b = joined (is_set ws) (i * 64 + t) (i * 64 + s + 1) (suc p) (λ k a. clear_in_word t (suc s) (omega arith) c k (a.0, omega arith)) behind j b

    pub down-found : (k : ℕ) → Highest (word_bit (get_or ws i 0)) (suc s) (Some k) → Highest (is_set ws) (suc p) (Some (i * 64 + k))
    down-found k r = record {
      inside = omega arith;
      here = in_word k (omega arith) (omega arith) ∙ r.here;
      clear = λ j b t. down-past (suc k) (λ m c. r.clear m c.1 c.0) j (omega arith, b);
    }
