-- From the child of a row in the rows' part to the next longer row that begins a text. Assumes nothing.
use mathlib.Core.Path.{◌≡◌, refl, sym, ap, ◌∙◌}
use mathlib.Core.List.{List, [], ◌∷◌, ◌++◌}
use mathlib.Core.Logic.{inl, inr, ⊎_elim}
use Prim.Native.Nat.{ℕ, ◌≤◌, ◌<◌}
use native.Mathlib.Decide.{dec_lt}
use native.Mathlib.Omega.{arith}
use lib.ListN.{length, length-drop, get_or, drop}
use lib.Seq.{drop-cons}
use Rattle.theory.specs.Dictionary.{none}
use Rattle.placed_rows.specs.Rows.{row}
use Rattle.placed_rows.specs.Texts.{Begins}
use Rattle.placed_rows.specs.Longest.{Known, Longest}
use Rattle.placed_rows.proofs.Beginning.{begins-length, beyond, both}
use Rattle.placed_rows.proofs.Chains.{other}
use Rattle.forest.specs.Words.{In, Indexed}
use Rattle.forest.specs.Lookups.{Child, At, ChildIs, ByteRow}
use Rattle.forest.proofs.NoChild.{no-child}
use Rattle.search_area.specs.Area.{all_rows}
use Rattle.search_area.specs.Answers.{Reached, Longer, LongerMatch}
use Rattle.search_area.proofs.Looking.{front-index, finds-whole, below_in}

module _ (R : ℕ → List ℕ) (n : ℕ) (area t : List ℕ) (p len r l : ℕ) (C : ChildIs R n area p len (drop len t) r l) (I : Indexed R n area (all_rows n)) (Q : Reached R n t p len) where
  here : Known (In (all_rows n)) p
  here = ⊎_elim inl (λ h. inr (below_in n p h)) Q.known

  abbrev at_row : At R n area (all_rows n) p len
  at_row = record { index = I; known = here; size = Q.size }

  -- what the child goes on with is the text
  whole : R p ++ drop len t ≡ t
  whole = ap (λ (k : ℕ). R p ++ drop k t) Q.size ∙ ap (λ (s : List ℕ). R p ++ s) (beyond (R p) t Q.begins) ∙ sym Q.begins.split

  found : (r ≡ none → ⊥) → Child R I.par (In (all_rows n)) p (drop len t) r × (l ≡ length (R r))
  found ne = C.sound ne (all_rows n) at_row

  begins : (ne : r ≡ none → ⊥) → Begins (R r) t
  begins ne = rw whole at (found ne).0.on

  -- a row that begins t and is shorter than the child is no longer than p
  no_longer : (ne : r ≡ none → ⊥) (d : ℕ) → d < n → Begins (R d) t → length (R d) < length (R r) → length (R d) ≤ len
  no_longer ne d h b s =
      let c = (found ne).0 in
      let q = (I.forest.prefix r c.in-K).longest d (below_in n d h) (other R d r s) (both (R d) (R r) t b (begins ne) (omega arith)) in
      omega (arith, q, ap (λ (x : ℕ). length (R x)) c.under, Q.size)

  shortest : (ne : r ≡ none → ⊥) (d : ℕ) → d < n → Begins (R d) t → len < length (R d) → l ≤ length (R d)
  shortest ne d h b s = go (dec_lt (length (R d)) (length (R r)))
    where
      go : Dec (length (R d) < length (R r)) → l ≤ length (R d)
      go (yes k) = absurd (let z = no_longer ne d h b k in omega arith)
      go (no k) = omega (arith, (found ne).1)

  longest : r ≡ none → Longest R (In (all_rows n)) t p
  longest z = no-child R I.par (In (all_rows n)) I.forest t p here Q.begins
      (λ c s e b. C.complete z (all_rows n) at_row c (record { in-K = s; under = e; on = rw whole b }))

  pub longer : Longer R n t len r l
  longer = record {
    is = λ ne. (begins ne, (found ne).1);
    shortest = shortest;
    all = λ z d h b. omega (arith, (longest z).longest d (below_in n d h) b, Q.size);
  }

-- the contract, as the code has it
pub longer_match : (file places : List ℕ) (n : ℕ) (area t rest : List ℕ) (p len r l : ℕ) → len ≤ length t → rest ≡ drop len t
    → ChildIs (row file places n) n area p len rest r l → LongerMatch file places n area t p len r l
longer_match file places n area t rest p len r l h e C' =
    let C : ChildIs (row file places n) n area p len (drop len t) r l = rw e at C' in
    record {
      bound = ⊎_elim inl
          (λ s. let f = s.fits in inr (record { below = s.below; longer = s.longer; room = omega (arith, length-drop len t) }))
          C.bound;
      next = λ F Q. longer (row file places n) n area t p len r l C (front-index file places n area F) Q;
    }

-- the first row that begins a text: its first byte alone
module _ (file places : List ℕ) (n : ℕ) (area t : List ℕ) where
  abbrev R : ℕ → List ℕ
  R = row file places n

  pub first-none : (l : ℕ) → length t ≡ 0 → LongerMatch file places n area t none 0 none l
  first-none l e = record {
    bound = inl refl;
    next = λ F Q. record {
      is = λ ne. absurd (ne refl);
      shortest = λ ne. absurd (ne refl);
      all = λ z d h b. omega (arith, begins-length (R d) t b);
    };
  }

  module _ (r : ℕ) (N : n ≤ 4096) (some : 0 < length t) (byte : get_or t 0 0 < 256) (B : ByteRow R n area (get_or t 0 0) r) where
    pub first_byte_lem : LongerMatch file places n area t none 0 r 1
    first_byte_lem = record {
      bound = ⊎_elim inl (λ h. inr (record { below = h; longer = omega arith; room = omega arith })) B.bound;
      next = λ F Q.
          let W = finds-whole file places n area F in
          let b = W.byte_below (get_or t 0 0) byte in
          let e : r ≡ W.byte (get_or t 0 0) = B.is (all_rows n) (front-index file places n area F) (W.byte (get_or t 0 0)) (below_in n (W.byte (get_or t 0 0)) b) (W.byte_is (get_or t 0 0) byte) in
          let s : R r ≡ get_or t 0 0 ∷ [] = ap R e ∙ W.byte_is (get_or t 0 0) byte in
          record {
            is = λ _. (record { rest = drop 1 t; split = drop-cons t 0 0 some ∙ ap (λ (p : List ℕ). p ++ drop 1 t) (sym s) }, sym (ap length s));
            shortest = λ _ d h q l. omega arith;
            all = λ z. absurd (omega arith);
          };
    }
