-- Whether a row may be added, case by case. Assumes nothing.
use mathlib.Core.Path.{◌≡◌, refl, sym, ap, ◌∙◌}
use mathlib.Core.List.{List, [], ◌∷◌}
use mathlib.Core.Bool.{Bool, true, false, not, ◌&&◌}
use Prim.Native.Nat.{ℕ, ◌+◌, ◌-◌, ◌≤◌, ◌<◌}
use native.Mathlib.Omega.{arith}
use lib.ListN.{length, get_or}
use Rattle.theory.specs.Backtracking.{State, place, follows}
use Rattle.theory.proofs.Lists.{true-false}
use Rattle.placed_rows.specs.Rows.{row}
use Rattle.placed_rows.specs.Texts.{Small}
use Rattle.tables.specs.Tables.{PairTables, with_prefixes}
use Rattle.tables.specs.Ready.{PartsReady}
use Rattle.bitfield.specs.Bits.{is_set}
use Rattle.pair_check.specs.Pair.{PairReady, PassIs}
use Rattle.built_tables.specs.Built.{dictionary_of}
use Rattle.built_tables.proofs.Rows.{pass-is}
use Rattle.backtrack_encoder.specs.declared.BacktrackEncoder.{BacktrackEncoder}
use Rattle.backtrack_encoder.specs.Encoder.{RowsReady, stack_of, EncoderReady, Shows}
use Rattle.backtrack_encoder.specs.Steps.{EndsIn, FitsIs}
use Rattle.backtrack_encoder.proofs.Stack.{stack-nil, stack-last}
use Rattle.backtrack_encoder.proofs.Sizes.{read_length}

and-true : (a b : Bool) → b ≡ true → a ≡ a && b
and-true true b e = sym e
and-true false b e = refl

and-false : (a b : Bool) → b ≡ false → false ≡ a && b
and-false true b e = sym e
and-false false b e = refl

-- the last code and row c may be checked
pub pair-ready : (P : PairTables) (n : ℕ) (text : List ℕ) (e : BacktrackEncoder) (work : List ℕ) (c : ℕ)
    → RowsReady P.file P.places P.area n text work → PartsReady P.file P.lefts P.rights n → EncoderReady P.file n text e work → c < n → (e.count ≡ 0 → ⊥)
    → PairReady P n n (get_or work (e.count - 1) 0) c
pair-ready P n text e work c T S R h some = record {
  places_ready = T.places_ready;
  parts_ready = S;
  area_room = T.area_room;
  few = omega arith;
  left_below = R.codes (e.count - 1) (omega arith);
  right_below = h;
}

-- row c has l bytes as they are read
module _ (P : PairTables) (n : ℕ) (text : List ℕ) (e : BacktrackEncoder) (work alive : List ℕ) (c l : ℕ)
    (T : RowsReady P.file P.places P.area n text work) (R : EncoderReady P.file n text e work) (h : c < n)
    (S : Small (length (row P.file P.places n c)) 256 l) where
  open P use {file, places}

  length-read : l ≡ length ((dictionary_of file).bytes c)
  length-read = read_length file places n T.places_ready c l h S

  -- its end behind a stack
  end-place : (s : State) → Shows (dictionary_of file) text e work alive s → e.pos + l ≡ place (dictionary_of file) (c ∷ s.stack)
  end-place s v = let p : e.pos ≡ place (dictionary_of file) s.stack = R.reached ∙ ap (place (dictionary_of file)) (sym v.stack) in omega (arith, p, length-read)

  -- whether that is dead
  end_bit : (s : State) → Shows (dictionary_of file) text e work alive s → e.pos + l ≤ length text
      → is_set alive (e.pos + l) ≡ not (s.dead (place (dictionary_of file) (c ∷ s.stack)))
  end_bit s v i = v.bits (e.pos + l) i ∙ ap (λ (p : ℕ). not (s.dead p)) (end-place s v)

  ends : e.pos + l ≤ length text → EndsIn file text e c
  ends i = omega (arith, length-read)

  pub fits_outside : length text < e.pos + l → FitsIs P n text e work alive c false
  fits_outside o = record { ends = λ f. absurd (true-false (sym f)); built = λ prefixes B s v i. absurd (omega (arith, length-read)) }

  pub fits-dead : e.pos + l ≤ length text → is_set alive (e.pos + l) ≡ false → FitsIs P n text e work alive c false
  fits-dead i d = record { ends = λ _. ends i; built = λ prefixes B s v _. and-false (follows (dictionary_of file) s.stack c) _ (sym (end_bit s v i) ∙ d) }

  -- it is the first code
  pub fits-alone : e.pos + l ≤ length text → is_set alive (e.pos + l) ≡ true → e.count ≡ 0 → FitsIs P n text e work alive c true
  fits-alone i d z = record {
    ends = λ _. ends i;
    built = λ prefixes B s v _.
        let k : s.stack ≡ [] = v.stack ∙ ap (stack_of work) z ∙ stack-nil work in
        let f : true ≡ follows (dictionary_of file) s.stack c = sym (ap (λ (K : List ℕ). follows (dictionary_of file) K c) k) in
        f ∙ and-true (follows (dictionary_of file) s.stack c) _ (sym (end_bit s v i) ∙ d);
  }

  -- there is a code before it
  pub fits-pair : (r : Bool) → e.pos + l ≤ length text → is_set alive (e.pos + l) ≡ true → (e.count ≡ 0 → ⊥) → PassIs P n n (get_or work (e.count - 1) 0) c r
      → FitsIs P n text e work alive c r
  fits-pair r i d some p = record {
    ends = λ _. ends i;
    built = λ prefixes B s v _.
        let f : r ≡ follows (dictionary_of file) s.stack c =
        pass-is (with_prefixes P prefixes) n B (get_or work (e.count - 1) 0) c r p
        ∙ sym (ap (λ (K : List ℕ). follows (dictionary_of file) K c) (v.stack ∙ stack-last work e.count some)) in
        f ∙ and-true (follows (dictionary_of file) s.stack c) _ (sym (end_bit s v i) ∙ d);
  }
