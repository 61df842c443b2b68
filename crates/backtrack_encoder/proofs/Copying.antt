-- Codes that are copied to the front of the output. Assumes nothing.
use mathlib.Core.Path.{◌≡◌, refl, sym, ap, ap₂, ◌∙◌}
use mathlib.Core.List.{List, ◌++◌}
use Prim.Native.Nat.{ℕ, suc, ◌+◌, ◌≤◌, ◌<◌}
use native.Mathlib.Numerals.{add-one}
use native.Mathlib.Omega.{arith}
use lib.ListN.{length, length-append, length-drop, get_or, take, drop, set, get_or-append}
use lib.Seq.{take-suc, drop-cons, length-take-le, set_at, append_snoc, drop_at, get_or-take}
use Rattle.theory.specs.Merge.{encode}
use Rattle.built_tables.specs.Built.{Built, dictionary_of}
use Rattle.backtrack_encoder.specs.Answers.{OutputReady, Backtracked, EncodedInto}
use Rattle.backtrack_encoder.proofs.Running.{codes-count}
use Rattle.tables.specs.Tables.{Tables}

-- the first i codes stand at the front of what was `entry`
pub record Copied (codes entry : List ℕ) (count i : ℕ) (out : List ℕ) : Type 0 where
  pub few : i ≤ count
  pub room : (count ≤ length codes) × (count ≤ length entry)
  pub is : out ≡ take i codes ++ drop i entry

pub copied_start : (codes entry : List ℕ) (count : ℕ) → (count ≤ length codes) × (count ≤ length entry) → Copied codes entry count 0 entry
copied_start codes entry count r = record { few = omega arith; room = r; is = refl }

module _ (codes entry : List ℕ) (count i : ℕ) (out : List ℕ) (C : Copied codes entry count i out) where
  front : length (take i codes) ≡ i
  front = let f = C.few in let r = C.room in length-take-le i codes (omega arith)

  pub copied_length : length out ≡ length entry
  copied_length =
      let f = C.few in
      let r = C.room in
      omega (arith, ap length C.is, length-append (take i codes) (drop i entry), front, length-drop i entry)

  pub copied_more : i < count → Copied codes entry count (i + 1) (set out i (get_or codes i 0))
  copied_more h =
      let r = C.room in
      record {
        few = omega arith;
        room = r;
        is = rw (C.is, add-one, drop-cons entry i 0 (omega arith), take-suc codes i 0 (omega arith))
            (set_at (take i codes) (get_or entry i 0) (drop (suc i) entry) (get_or codes i 0) i front ∙ sym (append_snoc (take i codes) (get_or codes i 0) (drop (suc i) entry)));
      }

  pub copied_all : count ≤ i → out ≡ take count codes ++ drop count entry
  copied_all h = let f = C.few in let e : i ≡ count = omega arith in rw e at C.is

-- the codes of a run in the output
pub copied_codes : (T : Tables) (n : ℕ) (text out work : List ℕ) (r : ℕ) (out' work' : List ℕ)
    → OutputReady T n text out work
    → Backtracked T n text work r work'
    → out' ≡ take r work' ++ drop r out
    → EncodedInto T n text out work r out' work'
copied_codes T n text out work r out' work' Q K e = record {
  few = f;
  out_length = omega (arith, ap length e, length-append (take r work') (drop r out), front', length-drop r out);
  out_beyond = ap (drop r) e ∙ drop_at (take r work') (drop r out) r front';
  work_length = l;
  work_beyond = K.work_beyond;
  codes = λ i h. rw (e, get_or-append (take r work') (drop r out) 0 i (omega (arith, front')), get_or-take r work' i 0 h) (K.codes i h);
  count_is = count;
  codes_are = λ B. e ∙ ap₂ (λ (a : List ℕ) (k : ℕ). a ++ drop k out) (K.built B) (count B);
}
  where
    f : r ≤ length text
    f = K.few

    l : length work' ≡ length work
    l = K.work_length

    front' : length (take r work') ≡ r
    front' = let m = Q.ready.room in let o = Q.out_room in length-take-le r work' (omega (arith, f, l))

    count : Built T n → r ≡ length (encode (dictionary_of T.file) text)
    count B = codes-count T n text work r work' Q.ready K B
