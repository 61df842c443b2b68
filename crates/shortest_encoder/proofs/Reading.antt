-- The shortest codes are read from the entries, from the first place on. Assumes nothing.
use mathlib.Core.Path.{◌≡◌, refl, ap, ◌∙◌}
use mathlib.Core.List.{List, ◌∷◌}
use Prim.Native.Nat.{ℕ, ◌+◌, ◌-◌, ◌/◌, ◌%◌, ◌≤◌, ◌<◌}
use native.Mathlib.Omega.{arith}
use lib.ListN.{length, length-set, get_or, drop, set, drop_of_length-le}
use Rattle.phrase_file.proofs.Filling.{Filled, filled-start, filled_more}
use Rattle.theory.specs.Dictionary.{Dictionary, KnownText}
use Rattle.theory.specs.Shortest.{shortest}
use Rattle.theory.proofs.PairCheck.{Lawful}
use Rattle.theory.proofs.Longest.{row_length}
use Rattle.theory.proofs.Shortest.{shortest-spells}
use Rattle.theory.proofs.ShortestSteps.{chosen, shortest-at, shortest-nil}
use Rattle.built_tables.specs.Built.{dictionary_of, Built}
use Rattle.built_tables.proofs.Rows.{lawful-is, known}
use Rattle.shortest_encoder.specs.Entries.{Bounded, AreEntries, Entries, CodesReady, CodesRead}
use Rattle.shortest_encoder.specs.Encoders.{Written, MinimalIs}
use Rattle.shortest_encoder.proofs.Counts.{built-fits, gives_at}
use Rattle.shortest_encoder.proofs.Trying.{Bytes, bytes_drop}
use Rattle.shortest_encoder.proofs.Writing.{written_start, written-more, all-written, codes_room}
use Rattle.tables.specs.Tables.{Tables, tables}

-- the codes up to place at are written
pub record Reading (text work out₀ out : List ℕ) (at count : ℕ) : Type 0 where
  pub ready : CodesReady text work out₀
  pub bytes : Bytes text
  pub behind : count ≤ at
  pub near : at ≤ 8192
  pub size : length out ≡ length out₀
  pub written : (n : ℕ) → Bounded n work (length text) 0 → Written n text out₀ out count
  pub built : (T : Tables) (n : ℕ) → Built T n → AreEntries (dictionary_of T.file) text work 0
      → Filled (shortest (dictionary_of T.file) text) out₀ count (shortest (dictionary_of T.file) (drop at text)) out

module _ (text work out₀ : List ℕ) (R : CodesReady text work out₀) (o : Bytes text) (T : Tables) (n : ℕ)
    (B : Built T n) where
  open T use {file}

  abbrev D : Dictionary
  D = dictionary_of file

  A : Lawful D
  A = lawful-is T n B

  K : KnownText D text
  K = known T n B text (bytes_drop text 0 o)

  room : length (shortest D text) ≤ length out₀
  room = codes_room D A text out₀ (shortest D text) (shortest-spells D A text K) R.out_room

  -- the code of an entry is the first of the shortest codes from there on, and its length is the code's
  step : AreEntries D text work 0 → (at : ℕ) → at < length text → (l : ℕ) → l ≡ 64 - get_or work at 0 / 4096 % 64
      → shortest D (drop at text) ≡ (get_or work at 0 % 4096) ∷ shortest D (drop (at + l) text)
  step E at h l e =
      let g = gives_at D A (built-fits T n B) text work K 0 E at (omega arith) h in
      let s = shortest-at D A text K at h in
      let q : l ≡ row_length D (chosen D (drop at text)) = omega (arith, g.holds.size) in
      s.codes ∙ rw (q, g.holds.code) refl

module _ (text work out₀ : List ℕ) where
  pub reading_start : CodesReady text work out₀ → Bytes text → Reading text work out₀ out₀ 0 0
  reading_start R o = record {
    ready = R;
    bytes = o;
    behind = omega arith;
    near = omega arith;
    size = refl;
    written = λ n b. written_start n text out₀;
    built = λ T n B E. filled-start (shortest (dictionary_of T.file) text) out₀ (room text work out₀ R o T n B);
  }

  module _ (out : List ℕ) (at count : ℕ) (S : Reading text work out₀ out at count) where
    pub reading_ends : length text ≤ at → CodesRead text work out₀ out count
    reading_ends h = record {
      written = S.written;
      built = λ T n B E.
          let D = dictionary_of T.file in
          all-written (shortest D text) out₀ out count (shortest D (drop at text)) (room text work out₀ S.ready S.bytes T n B)
          (S.built T n B E) (ap (shortest D) (drop_of_length-le text h) ∙ shortest-nil D);
    }

    -- the entry of the place says how many bytes its row has
    module _ (h : at < length text) where
      abbrev w : ℕ
      w = get_or work at 0 / 4096 % 64

      pub reading_more : Reading text work out₀ (set out count (get_or work at 0 % 4096)) (at + (64 - w)) (count + 1)
      reading_more =
          let b = S.behind in
          let few = S.ready.few in
          record {
            ready = S.ready;
            bytes = S.bytes;
            behind = omega arith;
            near = omega arith;
            size = length-set out count (get_or work at 0 % 4096) ∙ S.size;
            written = λ n N. written-more n text out₀ out count (get_or work at 0 % 4096) (S.written n N) S.ready.out_room (omega arith) (N.row at (omega arith) h);
            built = λ T n B E.
                let D = dictionary_of T.file in
                filled_more (shortest D text) out₀ (room text work out₀ S.ready S.bytes T n B) count (shortest D (drop at text)) out
                (S.built T n B E) (get_or work at 0 % 4096) (shortest D (drop (at + (64 - w)) text))
                (step text work out₀ S.ready S.bytes T n B E at h (64 - w) (omega arith));
          }

-- all entries are filled in, and then the codes are read
pub minimal : (file places area : List ℕ) (n : ℕ) (text out out' work work' : List ℕ) (r : ℕ) → Entries file places area n text work work'
    → CodesRead text work' out out' r → MinimalIs file places area n text out out' work work' r
minimal file places area n text out out' work work' r E O = record {
  written = O.written n E.bounded;
  work_size = E.size;
  work_beyond = E.beyond;
  built = λ lefts rights prefixes B. O.built (tables file places lefts rights prefixes area) n B (E.built lefts rights prefixes B);
}
