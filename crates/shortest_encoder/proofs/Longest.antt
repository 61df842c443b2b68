-- The longest row at each place is written. Assumes nothing.
use mathlib.Core.Path.{◌≡◌, sym, ap, ◌∙◌}
use mathlib.Core.Logic.{⊎_elim}
use mathlib.Core.List.{List, ◌∷◌}
use Prim.Native.Nat.{ℕ, ◌+◌, ◌≤◌, ◌<◌}
use native.Mathlib.Omega.{arith}
use lib.ListN.{length, length-drop, drop, set, drop_of_length-le}
use lib.Seq.{drop-drop}
use Rattle.phrase_file.proofs.Filling.{Filled, filled-start, filled_more}
use Rattle.theory.specs.Dictionary.{Dictionary, none}
use Rattle.theory.specs.Shortest.{greedy}
use Rattle.theory.proofs.PairCheck.{Lawful}
use Rattle.theory.proofs.Longest.{row_length}
use Rattle.theory.proofs.Greedy.{greedy-nil, greedy-cons, greedy-spells}
use Rattle.search_area.specs.Answers.{NextMatch}
use Rattle.built_tables.specs.Built.{dictionary_of, Built}
use Rattle.built_tables.proofs.Rows.{lawful-is, known}
use Rattle.built_tables.proofs.Lookups.{NextIs, next_is}
use Rattle.shortest_encoder.specs.Encoders.{Written, GreedyReady, GreedyIs}
use Rattle.shortest_encoder.proofs.Trying.{Bytes, bytes_drop}
use Rattle.shortest_encoder.proofs.Writing.{written_start, written-more, all-written, codes_room}
use Rattle.tables.specs.Tables.{tables}

-- a row that is found has bytes
found : (file places : List ℕ) (n : ℕ) (area t : List ℕ) (r l : ℕ) → NextMatch file places n area t r l → (r ≡ none → ⊥) → (r < n) × (0 < l)
found file places n area t r l m s = ⊎_elim (λ e. absurd (s e.0)) (λ q. q) m.bound

-- the codes up to place at are written
pub record Taking (file places area : List ℕ) (n : ℕ) (text out₀ out : List ℕ) (at count : ℕ) : Type 0 where
  pub ready : GreedyReady file places area n text out₀
  pub bytes : Bytes text
  pub place : at ≤ length text
  pub behind : count ≤ at
  pub written : Written n text out₀ out count
  pub built : (lefts rights prefixes : List ℕ) → Built (tables file places lefts rights prefixes area) n
      → Filled (greedy (dictionary_of file) text) out₀ count (greedy (dictionary_of file) (drop at text)) out

module _ (file places area : List ℕ) (n : ℕ) (text out₀ : List ℕ) (R : GreedyReady file places area n text out₀) (o : Bytes text) (lefts rights prefixes : List ℕ)
    (B : Built (tables file places lefts rights prefixes area) n) where
  abbrev D : Dictionary
  D = dictionary_of file

  A : Lawful D
  A = lawful-is (tables file places lefts rights prefixes area) n B

  room : length (greedy D text) ≤ length out₀
  room = codes_room D A text out₀ (greedy D text) (greedy-spells D A text (known (tables file places lefts rights prefixes area) n B text (bytes_drop text 0 o))) R.out_room

  module _ (at r l : ℕ) (h : at < length text) (m : NextMatch file places n area (drop at text) r l) where
    some : 0 < length (drop at text)
    some = omega (arith, length-drop at text)

    longest : NextIs (tables file places lefts rights prefixes area) n B (drop at text) r l
    longest = next_is (tables file places lefts rights prefixes area) n B (drop at text) (bytes_drop text at o) some r l m

    -- the row that is found is the first of the greedy codes from there on
    step : greedy D (drop at text) ≡ r ∷ greedy D (drop (at + l) text)
    step =
        greedy-cons D A (drop at text) some
        ∙ ap (λ (x : ℕ). x ∷ greedy D (drop (row_length D x) (drop at text))) (sym longest.is)
        ∙ ap (λ (k : ℕ). r ∷ greedy D (drop k (drop at text))) (sym longest.size)
        ∙ ap (λ (t : List ℕ). r ∷ greedy D t) (drop-drop l at text)

module _ (file places area : List ℕ) (n : ℕ) (text out₀ : List ℕ) where
  pub taking_start : GreedyReady file places area n text out₀ → Bytes text → Taking file places area n text out₀ out₀ 0 0
  taking_start R o = record {
    ready = R;
    bytes = o;
    place = omega arith;
    behind = omega arith;
    written = written_start n text out₀;
    built = λ lefts rights prefixes B. filled-start (greedy (dictionary_of file) text) out₀ (room file places area n text out₀ R o lefts rights prefixes B);
  }

  module _ (out : List ℕ) (at count : ℕ) (S : Taking file places area n text out₀ out at count) where
    pub taking_ends : length text ≤ at → GreedyIs file places area n text out₀ out count
    taking_ends h = record {
      written = S.written;
      built = λ lefts rights prefixes B.
          let D = dictionary_of file in
          all-written (greedy D text) out₀ out count (greedy D (drop at text)) (room file places area n text out₀ S.ready S.bytes lefts rights prefixes B)
          (S.built lefts rights prefixes B) (ap (greedy D) (drop_of_length-le text h) ∙ greedy-nil D);
    }

    module _ (r l : ℕ) (h : at < length text) (m : NextMatch file places n area (drop at text) r l) where
      pub taking_stops : r ≡ none → GreedyIs file places area n text out₀ out count
      taking_stops z = record {
        written = S.written;
        built = λ lefts rights prefixes B.
            absurd (let f = S.ready.places_ready.placed.few in omega (arith, (longest file places area n text out₀ S.ready S.bytes lefts rights prefixes B at r l h m).row));
      }

      module _ (s : r ≡ none → ⊥) where
        pub taking_less : 0 < l
        taking_less = (found file places n area (drop at text) r l m s).1

        pub taking_fits : at + l ≤ length text
        taking_fits = omega (arith, m.room, length-drop at text)

        pub taking_more : Taking file places area n text out₀ (set out count r) (at + l) (count + 1)
        taking_more =
            let b = S.behind in
            let z = taking_less in
            record {
              ready = S.ready;
              bytes = S.bytes;
              place = taking_fits;
              behind = omega arith;
              written = written-more n text out₀ out count r S.written S.ready.out_room (omega arith) (found file places n area (drop at text) r l m s).0;
              built = λ lefts rights prefixes B.
                  let D = dictionary_of file in
                  filled_more (greedy D text) out₀ (room file places area n text out₀ S.ready S.bytes lefts rights prefixes B) count (greedy D (drop at text)) out
                  (S.built lefts rights prefixes B) r (greedy D (drop (at + l) text)) (step file places area n text out₀ S.ready S.bytes lefts rights prefixes B at r l h m);
            }
