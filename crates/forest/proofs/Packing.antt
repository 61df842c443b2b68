-- What a word packs can be read back, and a bucket tells the prefix. Assumes nothing.
use mathlib.Core.Path.{◌≡◌, sym, ◌∙◌}
use mathlib.Core.Logic.{◌⊎◌, inl, inr}
use mathlib.Core.List.{List}
use Prim.Native.Nat.{ℕ, ◌+◌, ◌-◌, ◌*◌, ◌/◌, ◌%◌, ◌≤◌, ◌<◌}
use native.Mathlib.Decide.{ℕ_discrete, dec_lt}
use native.Mathlib.Omega.{arith}
use lib.ListN.{get_or}
use borrow.Author.Tests.{eq-eqb, ne_eqb}
use Rattle.theory.specs.Dictionary.{none}
use Rattle.marks.specs.Marks.{bit_key}
use Rattle.forest.specs.Words.{word, tag_at, row_of, tag_of, more_of, bucket_of, child_key}

pub word_row : (d t l : ℕ) → d < 8192 → row_of (word d t l) ≡ d
unfolding word
word_row d t l h = omega arith

pub word_tag : (d t l : ℕ) → d < 8192 → tag_of (word d t l) ≡ t % 8192
unfolding word
word_tag d t l h = omega arith

pub word_more : (d t m : ℕ) → d < 8192 → 0 < m → more_of (word d t m) ≡ m
unfolding word
word_more d t m h k = omega arith

-- a tag has its byte and five bits of the next one
pub tag_byte : (t : List ℕ) (k : ℕ) → get_or t k 0 < 256 → tag_at t k % 8192 % 256 ≡ get_or t k 0
unfolding tag_at
tag_byte t k h = omega arith

pub tag_second : (t : List ℕ) (k : ℕ) → get_or t k 0 < 256 → tag_at t k % 8192 / 256 ≡ get_or t (k + 1) 0 % 32
unfolding tag_at
tag_second t k h = omega arith

pub bucket_root : (q b : ℕ) → q ≡ none → bucket_of q b ≡ 4096 + b
unfolding bucket_of
bucket_root q b e = rw (eq-eqb q none e, bucket_of)

pub bucket_row : (q b : ℕ) → (q ≡ none → ⊥) → bucket_of q b ≡ (q * 31 + b) % 4096
unfolding bucket_of
bucket_row q b e = rw (ne_eqb q none e, bucket_of)

pub bucket_small : (q b : ℕ) → b < 256 → bucket_of q b < 4352
bucket_small q b h = go (ℕ_discrete q none)
  where
    go : Dec (q ≡ none) → bucket_of q b < 4352
    go (yes e) = omega (arith, bucket_root q b e)
    go (no e) = omega (arith, bucket_row q b e)

-- 31 has an inverse modulo 4,096
no_multiple : (d w : ℕ) → d < 4096 → d * 31 ≡ w * 4096 → d ≡ 0
no_multiple d w h e =
    let a : ℕ = d - w * 128 in
    let b : ℕ = a - w * 4 in
    let c : ℕ = b * 8 - w in
    let x : d ≡ a * 32 = omega arith in
    let y : a ≡ b * 32 = omega arith in
    let z : b ≡ c * 4 = omega arith in
    omega arith

ordered : (q p b : ℕ) → q < 4096 → p ≤ q → (q * 31 + b) % 4096 ≡ (p * 31 + b) % 4096 → q ≡ p
ordered q p b h l e = omega (arith, no_multiple (q - p) ((q * 31 + b) / 4096 - (p * 31 + b) / 4096) (omega arith) (omega arith))

rows_apart : (q p b : ℕ) → q < 4096 → p < 4096 → (q * 31 + b) % 4096 ≡ (p * 31 + b) % 4096 → q ≡ p
rows_apart q p b h k e = go (dec_lt q p)
  where
    go : Dec (q < p) → q ≡ p
    go (yes l) = sym (ordered p q b k (omega arith) (sym e))
    go (no l) = ordered q p b h (omega arith) e

-- a bucket and its byte tell the prefix
pub bucket_prefix : (q p b : ℕ) → (q ≡ none) ⊎ (q < 4096) → (p ≡ none) ⊎ (p < 4096) → bucket_of q b ≡ bucket_of p b → q ≡ p
bucket_prefix q p b (inl x) (inl y) e = x ∙ sym y
bucket_prefix q p b (inl x) (inr y) e = absurd (omega (arith, bucket_root q b x, bucket_row p b (λ z. omega arith)))
bucket_prefix q p b (inr x) (inl y) e = absurd (omega (arith, bucket_row q b (λ z. omega arith), bucket_root p b y))
bucket_prefix q p b (inr x) (inr y) e = rows_apart q p b x y (sym (bucket_row q b (λ z. omega arith)) ∙ e ∙ bucket_row p b (λ z. omega arith))

-- a key is one of 4,194,304, in 4,096 numbers
pub key-small : (q b : ℕ) → child_key q b < 4194304
unfolding child_key bit_key
key-small q b = omega arith
