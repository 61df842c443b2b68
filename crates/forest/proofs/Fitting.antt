-- The test of a word, by what the code has found. Assumes nothing.
use mathlib.Core.Path.{◌≡◌, sym, ap, ◌∙◌}
use mathlib.Core.List.{List}
use mathlib.Core.Bool.{Bool, true, false}
use Prim.Native.Nat.{ℕ, ◌+◌, ◌-◌, ◌/◌, ◌%◌, ◌≤◌, ◌<◌}
use native.Mathlib.Omega.{arith}
use lib.ListN.{length, length-drop, get_or, drop, get_or-append}
use lib.Seq.{get_or-drop}
use Rattle.placed_rows.specs.Texts.{begins}
use Rattle.placed_rows.proofs.Beginning.{true-false, begins-split, begins-length, begins-first}
use Rattle.forest.specs.Words.{row_of, tag_of, more_of}
use Rattle.forest.specs.Lookups.{WordOf, GoesOn, Fits}
use Rattle.forest.proofs.Packing.{word_row, word_tag, word_more, tag_byte, tag_second}

-- where a begins t, each byte of a is that of t
same_byte : (a t : List ℕ) → begins a t ≡ true → (i : ℕ) → i < length a → get_or t i 0 ≡ get_or a i 0
same_byte a t e i h = let s = begins-split a t e in ap (λ (l : List ℕ). get_or l i 0) s.split ∙ get_or-append a s.rest 0 i h

module _ (R : ℕ → List ℕ) (n p len : ℕ) (rest : List ℕ) (w : ℕ) (N : n ≤ 4096) where
  -- what the word of row d, whose prefix is q, tells
  module _ (d q : ℕ) (W : WordOf R n p len rest w d q) where
    is_row : row_of w ≡ d
    is_row = let z = W.below in ap (λ (x : ℕ). row_of x) W.is ∙ word_row d _ (length (R d) - length (R q)) (omega arith)

    is-more : more_of w ≡ length (R d) - length (R q)
    is-more = let z = W.below in let s = W.shorter in ap (λ (x : ℕ). more_of x) W.is ∙ word_more d _ (length (R d) - length (R q)) (omega arith) (omega arith)

    is_byte : tag_of w % 256 ≡ get_or (R d) (length (R q)) 0
    is_byte = let z = W.below in ap (λ (x : ℕ). tag_of x % 256) W.is ∙ ap (λ (x : ℕ). x % 256) (word_tag d _ (length (R d) - length (R q)) (omega arith)) ∙ tag_byte (R d) (length (R q)) W.byte

    is-second : tag_of w / 256 ≡ get_or (R d) (length (R q) + 1) 0 % 32
    is-second = let z = W.below in ap (λ (x : ℕ). tag_of x / 256) W.is ∙ ap (λ (x : ℕ). x / 256) (word_tag d _ (length (R d) - length (R q)) (omega arith)) ∙ tag_second (R d) (length (R q)) W.byte

    -- the bytes of a row that goes on are those of rest
    bytes_are : GoesOn R p len rest d q → (i : ℕ) → len + i < length (R d) → get_or rest i 0 ≡ get_or (R d) (len + i) 0
    bytes_are G i h = same_byte (drop len (R d)) rest G.on i (omega (arith, length-drop len (R d))) ∙ get_or-drop len (R d) i 0

    first-is : GoesOn R p len rest d q → tag_of w % 256 ≡ get_or rest 0 0
    first-is G =
        let s = W.shorter in
        let e : length (R q) ≡ len + 0 = omega (arith, G.from) in
        is_byte ∙ ap (λ (i : ℕ). get_or (R d) i 0) e ∙ sym (bytes_are G 0 (omega (arith, G.from)))

    second_is : GoesOn R p len rest d q → len + 1 < length (R d) → tag_of w / 256 ≡ get_or rest 1 0 % 32
    second_is G h =
        let e : length (R q) + 1 ≡ len + 1 = omega (arith, G.from) in
        is-second ∙ ap (λ (i : ℕ). get_or (R d) i 0 % 32) e ∙ ap (λ (b : ℕ). b % 32) (sym (bytes_are G 1 h))

    fits_in : GoesOn R p len rest d q → length (R d) - len ≤ length rest
    fits_in G = omega (arith, length-drop len (R d), begins-length (drop len (R d)) rest (begins-split (drop len (R d)) rest G.on))

  refused : ((d q : ℕ) → WordOf R n p len rest w d q → GoesOn R p len rest d q → ⊥) → Fits R n p len rest w false
  refused h = record {
    room = λ e. absurd (true-false (sym e));
    yes = λ d q W e. absurd (true-false (sym e));
    no = λ d q W e. h d q W;
  }

  -- the row has another byte there, or is too long
  pub fits-other : (w / 8192 % 256 ≡ get_or rest 0 0 → ⊥) → Fits R n p len rest w false
  fits-other h = refused (λ d q W G. h (omega (arith, first-is d q W G)))

  pub fits-long : length rest < more_of w → Fits R n p len rest w false
  fits-long h = refused (λ d q W G. omega (arith, is-more d q W, fits_in d q W G, G.from))

  -- the row is one byte longer
  pub fits_one : w / 8192 % 256 ≡ get_or rest 0 0 → more_of w ≡ 1 → 0 < length rest → Fits R n p len rest w true
  fits_one h k g = record {
    room = λ _. omega arith;
    yes = λ d q W _.
        let b : get_or (R d) (length (R q)) 0 ≡ get_or rest 0 0 = omega (arith, is_byte d q W) in
        let t = W.told b in
        let z = is-more d q W in
        let y = W.shorter in
        let e : length (R q) ≡ len + 0 = omega (arith, t.1) in
        record {
          under = t.0;
          from = t.1;
          on = begins-first (drop len (R d)) rest (omega (arith, length-drop len (R d), t.1)) g (get_or-drop len (R d) 0 0 ∙ sym (ap (λ (i : ℕ). get_or (R d) i 0) e) ∙ b);
        };
    no = λ d q W e. absurd (true-false e);
  }

  -- its second byte is another
  pub fits_unlike_second : (w / 2097152 % 32 ≡ get_or rest 1 0 % 32 → ⊥) → 1 < more_of w → Fits R n p len rest w false
  fits_unlike_second h k = refused (λ d q W G. let z = is-more d q W in h (omega (arith, second_is d q W G (omega (arith, G.from)))))

  -- its length is not the word's, so it is not the word's row, or p is not its prefix
  pub fits-unlike : (i : ℕ) → i ≡ row_of w → (length (R i) ≡ len + more_of w → ⊥) → Fits R n p len rest w false
  fits-unlike i ri h = refused (λ d q W G. h (ap (λ (x : ℕ). length (R x)) (ri ∙ is_row d q W) ∙ omega (arith, is-more d q W, W.shorter, G.from)))

  -- the bytes were compared
  pub fits-compared : (r : Bool) (i : ℕ) → i ≡ row_of w → length (R i) ≡ len + more_of w → w / 8192 % 256 ≡ get_or rest 0 0 → r ≡ begins (drop len (R i)) rest → Fits R n p len rest w r
  fits-compared r i ri e h c = record {
    room = λ t. omega (arith, length-drop len (R i), begins-length (drop len (R i)) rest (begins-split (drop len (R i)) rest (sym c ∙ t)));
    yes = λ d q W t.
        let b : get_or (R d) (length (R q)) 0 ≡ get_or rest 0 0 = omega (arith, is_byte d q W) in
        let f = W.told b in
        record { under = f.0; from = f.1; on = sym (same d q W) ∙ sym c ∙ t };
    no = λ d q W t G. true-false (sym G.on ∙ sym (same d q W) ∙ sym c ∙ t);
  }
    where
      same : (d q : ℕ) → WordOf R n p len rest w d q → begins (drop len (R i)) rest ≡ begins (drop len (R d)) rest
      same d q W = ap (λ (x : ℕ). begins (drop len (R x)) rest) (ri ∙ is_row d q W)
