-- The rows at a place are tried, shortest first. Assumes nothing.
use mathlib.Core.Path.{◌≡◌, sym, ap, ◌∙◌}
use mathlib.Core.Logic.{⊎_elim}
use mathlib.Core.List.{List, ◌++◌}
use Prim.Native.Nat.{ℕ, ◌+◌, ◌-◌, ◌/◌, ◌%◌, ◌≤◌, ◌<◌, min}
use native.Mathlib.Omega.{arith}
use lib.ListN.{length, length-drop, get_or, drop}
use lib.Seq.{get_or-drop}
use Rattle.placed_rows.specs.Rows.{row}
use Rattle.placed_rows.specs.Texts.{Begins}
use Rattle.placed_rows.proofs.Beginning.{begins-length}
use Rattle.theory.specs.Lists.{In}
use Rattle.theory.specs.Dictionary.{Dictionary, Octets, KnownText, none}
use Rattle.theory.specs.Parts.{rows_at}
use Rattle.theory.proofs.Lists.{lt_or_ge}
use Rattle.theory.proofs.PairCheck.{Lawful}
use Rattle.theory.proofs.RowsAt.{different, filled, rows-known, rows-every}
use Rattle.theory.proofs.Longest.{row_length, known-drop, row-begins}
use Rattle.theory.proofs.ShortestSteps.{behind, behind-drop, chosen, chosen_in, chosen-fewest, chosen-longest, shortest-cons}
use Rattle.search_area.specs.Answers.{Longer, LongerMatch}
use Rattle.built_tables.specs.Built.{dictionary_of, Built}
use Rattle.built_tables.proofs.Rows.{octets, count_is, row-bytes, lawful-is, known}
use Rattle.shortest_encoder.specs.Entries.{entry_of, entry, count_from, AreEntries, EntryReady, EntryIs}
use Rattle.shortest_encoder.proofs.Counts.{entry-holds, count-few, built-fits, entry_gives, counts_are}
use Rattle.shortest_encoder.proofs.Rising.{reached-none, none-empty, within}
use Rattle.shortest_encoder.proofs.Keeping.{Best, best_first, best_replaced, best_kept}
use Rattle.tables.specs.Tables.{tables}

-- each element of a text is an octet
abbrev pub Bytes : List ℕ → Type 0
Bytes text = (k : ℕ) → get_or text k 0 < 256

pub bytes_drop : (text : List ℕ) (i : ℕ) → Bytes text → Octets (drop i text)
bytes_drop text i o = octets (drop i text) (λ k. rw (get_or-drop i text k 0) (o (i + k)))

-- how many codes a row of l bytes at place i makes, with those behind it
abbrev codes_with : List ℕ → ℕ → ℕ → ℕ → ℕ
codes_with work m i l = count_from work m (i + l) + 1

-- of the rows at place i up to row p, of len bytes, row best is the best one, with count codes
abbrev BestAt : List ℕ → List ℕ → ℕ → List ℕ → List ℕ → ℕ → ℕ → ℕ → ℕ → ℕ → Type 0
BestAt file places n text work i count best p len = Best (row file places n) n (drop i text) (codes_with work (length text) i) count best p len

-- the entry best is of that row, with its length and its count
pub record Tried (file places : List ℕ) (n : ℕ) (text work : List ℕ) (i best p len : ℕ) : Type 0 where
  pub is : BestAt file places n text work i (best / 262144) (best % 4096) p len
  pub size : best / 4096 % 64 + length (row file places n (best % 4096)) ≡ 64

-- on any contents the entry best is of a row, with no more codes than bytes
pub record Trying (file places area : List ℕ) (n : ℕ) (text work : List ℕ) (i best p len : ℕ) : Type 0 where
  pub ready : EntryReady file places area n text work i
  pub bytes : Bytes text
  pub below : p < n
  pub inside : i + len ≤ length text
  pub best_row : best % 4096 < n
  pub few : best / 262144 ≤ length text - i
  pub tried : (lefts rights prefixes : List ℕ) → Built (tables file places lefts rights prefixes area) n → Tried file places n text work i best p len

-- what is known of row r, of l bytes, that is met at place i, on any contents
pub record Met (n : ℕ) (text work : List ℕ) (i len r l : ℕ) : Type 0 where
  pub below : r < n
  pub narrow : r < 4096
  pub longer : len < l
  pub short : l ≤ 64
  pub inside : i + l ≤ length text
  pub few : codes_with work (length text) i l ≤ length text - i
  pub most : codes_with work (length text) i l ≤ 4096

module _ (file places area : List ℕ) (n : ℕ) (text work : List ℕ) (i : ℕ) (R : EntryReady file places area n text work i) where
  small : n ≤ 4096
  small = R.ready.places_ready.placed.few

  row-some : (c : ℕ) → c < n → 0 < length (row file places n c)
  row-some c h = let f = R.ready.places_ready.filled c h in rw (R.ready.places_ready.rows_are c h) f

  -- a row and the codes behind it are at most as many as the bytes
  codes-few : (l : ℕ) → 0 < l → i + l ≤ length text → codes_with work (length text) i l ≤ length text - i
  codes-few l h s = omega (arith, count-few work (length text) (i + l) n (i + 1) R.later (omega arith))

  -- row r, of l bytes, is met at the place after rows of up to len bytes
  module _ (p len r l : ℕ) (M : LongerMatch file places n area (drop i text) p len r l) (ne : r ≡ none → ⊥) where
    pub met : l ≤ 64 → Met n text work i len r l
    met h =
        let w = within file places n area (drop i text) p len r l M ne in
        let s : i + l ≤ length text = let q = R.inside in omega (arith, w.room, length-drop i text) in
        record {
          below = w.below;
          narrow = let f = small in omega (arith, w.below);
          longer = w.longer;
          short = h;
          inside = s;
          few = codes-few l (omega (arith, w.longer)) s;
          most = let f = R.ready.few in omega (arith, codes-few l (omega (arith, w.longer)) s);
        }

  -- the entry of that row, where it is the best one
  entered : (o : Bytes text) (len r l : ℕ) → Met n text work i len r l → (e : ℕ) → e ≡ entry_of (codes_with work (length text) i l) l r
      → ((lefts rights prefixes : List ℕ) → Built (tables file places lefts rights prefixes area) n → BestAt file places n text work i (codes_with work (length text) i l) r r l)
      → Trying file places area n text work i e r l
  entered o len r l m e is best =
      let v = entry-holds (codes_with work (length text) i l) l r (omega (arith, m.longer)) m.short m.narrow e is in
      record {
        ready = R;
        bytes = o;
        below = m.below;
        inside = m.inside;
        best_row = rw v.code m.below;
        few = rw v.count m.few;
        tried = λ lefts rights prefixes B.
            let q = best lefts rights prefixes B in
            record {
              is = rw (v.count, v.code) q;
              size = omega (arith, v.size, q.reached.size, ap (λ (x : ℕ). length (row file places n x)) v.code);
            };
      }

  -- on the tables of a build, with the entries of the later places
  module _ (o : Bytes text) (lefts rights prefixes : List ℕ) (B : Built (tables file places lefts rights prefixes area) n) (E : AreEntries (dictionary_of file) text work (i + 1)) where
    abbrev D : Dictionary
    D = dictionary_of file

    A : Lawful D
    A = lawful-is (tables file places lefts rights prefixes area) n B

    counted : D.count ≡ n
    counted = count_is (tables file places lefts rights prefixes area) n B

    here : 0 < length (drop i text)
    here = let l = R.inside in omega (arith, length-drop i text)

    K : KnownText D text
    K = known (tables file places lefts rights prefixes area) n B text (bytes_drop text 0 o)

    K-here : KnownText D (drop i text)
    K-here = known-drop D i text K

    behind-is : (c : ℕ) → c < n → behind D (drop i text) c + 1 ≡ codes_with work (length text) i (length (row file places n c))
    behind-is c h =
        let e : behind D (drop i text) c ≡ count_from work (length text) (i + length (row file places n c)) =
        behind-drop D i text c
        ∙ sym (counts_are D A (built-fits (tables file places lefts rights prefixes area) n B) text work K (i + 1) E (i + row_length D c) (omega (arith, filled D A c)))
        ∙ ap (λ (b : List ℕ). count_from work (length text) (i + length b)) (sym (row-bytes (tables file places lefts rights prefixes area) n B c h)) in
        omega arith

    -- the row that is to be chosen
    abbrev wanted : ℕ
    wanted = chosen D (drop i text)

    wanted_in : In wanted (rows_at D (drop i text))
    wanted_in = chosen_in D A (drop i text) K-here here

    wanted-row : wanted < n
    wanted-row = omega (arith, counted, rows-known D (length (drop i text)) (drop i text) wanted wanted_in)

    wanted-begins : Begins (row file places n wanted) (drop i text)
    wanted-begins = record {
      rest = drop (row_length D wanted) (drop i text);
      split = rw (row-bytes (tables file places lefts rights prefixes area) n B wanted wanted-row) (row-begins D A (drop i text) wanted wanted_in);
    }

    row_in : (c : ℕ) → c < n → Begins (row file places n c) (drop i text) → In c (rows_at D (drop i text))
    row_in c h b =
        let e = row-bytes (tables file places lefts rights prefixes area) n B c h in
        rows-every D (different D A) (length (drop i text)) (drop i text) c b.rest (omega (arith, counted)) (b.split ∙ ap (λ (x : List ℕ). x ++ b.rest) e)
        (omega (arith, begins-length (row file places n c) (drop i text) b, ap length e))

    -- where all rows at the place are tried, the best is that row
    module _ (best p len : ℕ) (T : Tried file places n text work i best p len) (h : best % 4096 < n) (all : length (row file places n wanted) ≤ len) where
      best_is : best % 4096 ≡ wanted
      best_is =
          let a = behind-is wanted wanted-row in
          let b = behind-is (best % 4096) h in
          let m = row_in (best % 4096) h T.is.begins in
          let low = T.is.fewest wanted wanted-row wanted-begins all in
          let high = chosen-fewest D A (drop i text) K-here here (best % 4096) m in
          let is = T.is.is in
          let long = T.is.longest wanted wanted-row wanted-begins all (omega arith) in
          ⊎_elim (λ e. e)
          (λ l. absurd (omega (
            arith,
            ap length (row-bytes (tables file places lefts rights prefixes area) n B wanted wanted-row),
            ap length (row-bytes (tables file places lefts rights prefixes area) n B (best % 4096) h),
          )))
          (chosen-longest D A (drop i text) K-here here (best % 4096) m (omega arith))

      entry_here : best ≡ entry D (drop i text)
      entry_here =
          let g = entry_gives D A (built-fits (tables file places lefts rights prefixes area) n B) (drop i text) K-here here in
          omega (
            arith,
            g.is,
            T.is.is,
            T.size,
            behind-is (best % 4096) h,
            best_is,
            ap length (row-bytes (tables file places lefts rights prefixes area) n B (best % 4096) h),
            ap (row_length D) best_is,
            ap length (shortest-cons D A (drop i text) K-here here),
            ap (behind D (drop i text)) best_is,
          )

module _ (file places area : List ℕ) (n : ℕ) (text work : List ℕ) (i best p len : ℕ) (T : Trying file places area n text work i best p len) where
  R : EntryReady file places area n text work i
  R = T.ready

  -- no longer row is left
  done : ((lefts rights prefixes : List ℕ) → Built (tables file places lefts rights prefixes area) n → (d : ℕ) → d < n → Begins (row file places n d) (drop i text) → length (row file places n d) ≤ len)
      → EntryIs file places area n text work i best
  done all = record {
    row = T.best_row;
    few = T.few;
    built = λ lefts rights prefixes B E.
        let o = T.bytes in
        entry_here file places area n text work i R o lefts rights prefixes B E best p len (T.tried lefts rights prefixes B) T.best_row
        (all lefts rights prefixes B (wanted file places area n text work i R o lefts rights prefixes B E) (wanted-row file places area n text work i R o lefts rights prefixes B E)
        (wanted-begins file places area n text work i R o lefts rights prefixes B E));
  }

  pub trying_ends : length text ≤ i + len → EntryIs file places area n text work i best
  trying_ends h = done (λ lefts rights prefixes B d k b. omega (arith, begins-length (row file places n d) (drop i text) b, length-drop i text))

  module _ (r l : ℕ) (M : LongerMatch file places n area (drop i text) p len r l) where
    next : (lefts rights prefixes : List ℕ) → Built (tables file places lefts rights prefixes area) n → Longer (row file places n) n (drop i text) len r l
    next lefts rights prefixes B = M.next B.finds (T.tried lefts rights prefixes B).is.reached

    pub trying_stops : r ≡ none → EntryIs file places area n text work i best
    trying_stops z = done (λ lefts rights prefixes B. (next lefts rights prefixes B).all z)

    -- no row has more than 64 bytes
    pub trying_over : (r ≡ none → ⊥) → 64 < l → EntryIs file places area n text work i best
    trying_over ne h = done (λ lefts rights prefixes B.
        let w = within file places n area (drop i text) p len r l M ne in
        let z = R.ready.places_ready.short r w.below in
        absurd (omega (arith, ((next lefts rights prefixes B).is ne).1, ap length (R.ready.places_ready.rows_are r w.below))))

    module _ (ne : r ≡ none → ⊥) (short : l ≤ 64) (e : ℕ) (is : e ≡ entry_of (codes_with work (length text) i l) l r) where
      m : Met n text work i len r l
      m = met file places area n text work i R p len r l M ne short

      -- the entry of the longer row is less: it makes as few codes
      replaced : e < best → Trying file places area n text work i e r l
      replaced h =
          let q : codes_with work (length text) i l ≤ best / 262144 = omega arith in
          entered file places area n text work i R T.bytes len r l m e is (λ lefts rights prefixes B.
          best_replaced (row file places n) n (drop i text) (codes_with work (length text) i) (best / 262144) (best % 4096) p len
          (T.tried lefts rights prefixes B).is r l (next lefts rights prefixes B) m.below ne q)

      -- or it is not: it makes more codes
      kept : best ≤ e → Trying file places area n text work i best r l
      kept h = record {
        ready = R;
        bytes = T.bytes;
        below = m.below;
        inside = m.inside;
        best_row = T.best_row;
        few = T.few;
        tried = λ lefts rights prefixes B.
            let t = T.tried lefts rights prefixes B in
            let q : best / 262144 < codes_with work (length text) i l = omega (arith, t.size, t.is.size, m.narrow, m.longer, m.short) in
            record {
              is = best_kept (row file places n) n (drop i text) (codes_with work (length text) i) (best / 262144) (best % 4096) p len
                  t.is r l (next lefts rights prefixes B) m.below ne m.longer q;
              size = t.size;
            };
      }

      -- a turn: the lesser entry is kept
      pub trying_more : (b : ℕ) → b ≡ min best e → Trying file places area n text work i b r l
      trying_more b q = ⊎_elim
          (λ h. let z : b ≡ e = omega arith in rw z (replaced h))
          (λ h. let z : b ≡ best = omega arith in rw z (kept h))
          (lt_or_ge e best)

-- the first row
module _ (file places area : List ℕ) (n : ℕ) (text work : List ℕ) (i : ℕ) (R : EntryReady file places area n text work i) (o : Bytes text) (r l : ℕ)
    (M : LongerMatch file places n area (drop i text) none 0 r l) where
  first : (lefts rights prefixes : List ℕ) → Built (tables file places lefts rights prefixes area) n → Longer (row file places n) n (drop i text) 0 r l
  first lefts rights prefixes B = M.next B.finds (reached-none (row file places n) n (drop i text) (none-empty file places n R.ready.places_ready.placed))

  pub trying_none : r ≡ none → EntryIs file places area n text work i 0
  trying_none z = record {
    row = let f = R.ready.places_ready.least in omega arith;
    few = omega arith;
    built = λ lefts rights prefixes B E.
        let w = wanted-row file places area n text work i R o lefts rights prefixes B E in
        absurd (omega (
          arith,
          row-some file places area n text work i R (wanted file places area n text work i R o lefts rights prefixes B E) w,
          (first lefts rights prefixes B).all z (wanted file places area n text work i R o lefts rights prefixes B E) w (wanted-begins file places area n text work i R o lefts rights prefixes B E),
        ));
  }

  pub trying_first : (r ≡ none → ⊥) → l ≤ 64 → (e : ℕ) → e ≡ entry_of (codes_with work (length text) i l) l r → Trying file places area n text work i e r l
  trying_first ne short e is =
      let m = met file places area n text work i R none 0 r l M ne short in
      entered file places area n text work i R o 0 r l m e is (λ lefts rights prefixes B.
      best_first (row file places n) n (drop i text) (codes_with work (length text) i) (row-some file places area n text work i R) r l (first lefts rights prefixes B) m.below ne)
