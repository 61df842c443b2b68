-- The bits of the words: all set, one cleared, none set beyond the 4,097. Assumes nothing.
use mathlib.Core.Path.{◌≡◌, sym, ap, ◌∙◌, fun_ext}
use mathlib.Core.List.{List}
use mathlib.Core.Bool.{true, false}
use Prim.Native.Nat.{ℕ, ◌/◌, ◌%◌, ◌^◌, ◌<◌, ◌≤◌}
use native.Mathlib.Decide.{dec_lt, ℕ_discrete}
use native.Mathlib.Omega.{arith}
use native.Mathlib.Nat.{zero-div}
use lib.ListN.{length, get_or, set, replicate, get_or-replicate, get_or-eq_default}
use lib.Seq.{get_or-set_same, get_or-set_other, set_out}
use borrow.Author.Tests.{lt-ltb, le-ltb}
use Rattle.bitfield.specs.Bits.{word_bit, is_set, all_set, without}
use Rattle.bitfield.proofs.Without.{without-same, without_other, without-clear}
use Rattle.std.proofs.lemmas.Nat.Bits.{bit_at_ones}
use Rattle.bitfield.proofs.Words.{bit_of}

pub set_below : (ws : List ℕ) (p : ℕ) → p < 4097 → is_set ws p ≡ word_bit (get_or ws (p / 64) 0) (p % 64)
unfolding is_set
set_below ws p h = rw (lt-ltb p 4097 h)

pub set_beyond : (ws : List ℕ) (p : ℕ) → 4097 ≤ p → is_set ws p ≡ false
unfolding is_set
set_beyond ws p h = rw (le-ltb p 4097 h)

pub all_ones : is_set (replicate 65 18446744073709551615) ≡ all_set
unfolding is_set all_set
all_ones = fun_ext (λ p. go p (dec_lt p 4097))
  where
    one : (j : ℕ) → j < 64 → word_bit 18446744073709551615 j ≡ true
    one j h = bit_of 18446744073709551615 j 1 (bit_at_ones 64 j h)

    go : (p : ℕ) → Dec (p < 4097) → is_set (replicate 65 18446744073709551615) p ≡ all_set p
    go p (yes h) =
        rw (get_or-replicate {A = ℕ} 65 (p / 64) 18446744073709551615 0 (omega arith), one (p % 64) (omega arith), lt-ltb p 4097 h)
    go p (no n) = rw (le-ltb p 4097 (omega arith))

pub all-below : (p : ℕ) → p < 4097 → all_set p ≡ true
unfolding all_set
all-below p h = lt-ltb p 4097 h

-- clearing bit p: the word at its place is now v, that word without the bit
module _ (ws : List ℕ) (p v : ℕ) (cleared : word_bit v ≡ without (word_bit (get_or ws (p / 64) 0)) (p % 64)) where
  cleared-here : p / 64 < length ws → Dec (p < 4097) → is_set (set ws (p / 64) v) p ≡ false
  cleared-here l (yes h) =
      set_below (set ws (p / 64) v) p h
      ∙ rw (get_or-set_same ws (p / 64) v 0 l, cleared, without-same (word_bit (get_or ws (p / 64) 0)) (p % 64))
  cleared-here l (no n) = set_beyond (set ws (p / 64) v) p (omega arith)

  cleared-other : p / 64 < length ws → (q : ℕ) → (q ≡ p → ⊥) → Dec (q < 4097) → Dec (q / 64 ≡ p / 64) → is_set (set ws (p / 64) v) q ≡ is_set ws q
  cleared-other l q m (no n) e = set_beyond (set ws (p / 64) v) q (omega arith) ∙ sym (set_beyond ws q (omega arith))
  cleared-other l q m (yes h) (yes e) =
      let other : q % 64 ≡ p % 64 → ⊥ = λ f. m (omega arith) in
      rw (set_below (set ws (p / 64) v) q h, set_below ws q h, e, get_or-set_same ws (p / 64) v 0 l, cleared, without_other (word_bit (get_or ws (p / 64) 0)) (p % 64) (q % 64) other)
  cleared-other l q m (yes h) (no n) =
      rw (set_below (set ws (p / 64) v) q h, set_below ws q h, get_or-set_other ws (p / 64) (q / 64) v 0 n)

  -- a bit of a word that is not there is not set, so the number of words does not matter
  no_word : length ws ≤ p / 64 → Dec (p < 4097) → is_set ws p ≡ false
  no_word l (no n) = set_beyond ws p (omega arith)
  no_word l (yes h) = set_below ws p h ∙ rw (get_or-eq_default ws 0 l) (bit_of 0 (p % 64) 0 (ap (λ (n : ℕ). n % 2) (zero-div (2 ^ (p % 64)))))

  pub cleared-set : is_set (set ws (p / 64) v) ≡ without (is_set ws) p
  cleared-set = go (dec_lt (p / 64) (length ws))
    where
      at : p / 64 < length ws → (q : ℕ) → Dec (q ≡ p) → is_set (set ws (p / 64) v) q ≡ without (is_set ws) p q
      at l q (yes e) = rw (e, cleared-here l (dec_lt p 4097), without-same (is_set ws) p)
      at l q (no n) = cleared-other l q n (dec_lt q 4097) (ℕ_discrete (q / 64) (p / 64)) ∙ sym (without_other (is_set ws) p q n)

      go : Dec (p / 64 < length ws) → is_set (set ws (p / 64) v) ≡ without (is_set ws) p
      go (yes l) = fun_ext (λ q. at l q (ℕ_discrete q p))
      go (no n) = let out : length ws ≤ p / 64 = omega arith in rw (set_out ws (p / 64) v out) (without-clear (is_set ws) p (no_word out (dec_lt p 4097)))
