-- The entries of the places are filled in from the last one on. Assumes nothing.
use mathlib.Core.Path.{◌≡◌, refl, ◌∙◌}
use mathlib.Core.List.{List}
use Prim.Native.Nat.{ℕ, ◌+◌, ◌-◌, ◌/◌, ◌%◌, ◌≤◌, ◌<◌}
use native.Mathlib.Decide.{ℕ_discrete}
use native.Mathlib.Omega.{arith}
use lib.ListN.{length, length-set, get_or, drop, set}
use lib.Seq.{get_or-set_same, get_or-set_other, drop-set-lt}
use Rattle.built_tables.specs.Built.{dictionary_of, Built}
use Rattle.shortest_encoder.specs.Entries.{entry, Bounded, AreEntries, EntryReady, EntryIs, Entries}
use Rattle.shortest_encoder.specs.Encoders.{EntriesReady}
use Rattle.tables.specs.Tables.{tables}

-- what holds of each entry from k + 1 on, and of the new one at k, holds from k on
set-from : (P : ℕ → ℕ → Type 0) (work : List ℕ) (k r : ℕ) → k < length work → P k r → ((j : ℕ) → k + 1 ≤ j → P j (get_or work j 0)) → (j : ℕ) → k ≤ j → P j (get_or (set work k r) j 0)
set-from P work k r h p later j l = go (ℕ_discrete j k)
  where
    go : Dec (j ≡ k) → P j (get_or (set work k r) j 0)
    go (yes e) = rw (e, get_or-set_same work k r 0 h) p
    go (no e) = rw (get_or-set_other work k j r 0 e) (later j (omega arith))

-- the entries of the places from i on are there
pub record Placing (file places area : List ℕ) (n : ℕ) (text work₀ work : List ℕ) (i : ℕ) : Type 0 where
  pub ready : EntriesReady file places area n text work₀
  pub place : i ≤ length text
  pub size : length work ≡ length work₀
  pub beyond : drop (length text) work ≡ drop (length text) work₀
  pub bounded : Bounded n work (length text) i
  pub built : (lefts rights prefixes : List ℕ) → Built (tables file places lefts rights prefixes area) n → AreEntries (dictionary_of file) text work i

module _ (file places area : List ℕ) (n : ℕ) (text work₀ : List ℕ) where
  pub placing_start : EntriesReady file places area n text work₀ → Placing file places area n text work₀ work₀ (length text)
  placing_start R = record {
    ready = R;
    place = omega arith;
    size = refl;
    beyond = refl;
    bounded = record { row = λ j h l. absurd (omega arith); few = λ j h l. absurd (omega arith) };
    built = λ lefts rights prefixes B j h l. absurd (omega arith);
  }

  module _ (work : List ℕ) (i : ℕ) (P : Placing file places area n text work₀ work i) where
    pub placing_ends : i ≤ 0 → Entries file places area n text work₀ work
    placing_ends z = record {
      size = P.size;
      beyond = P.beyond;
      bounded = record { row = λ j h l. P.bounded.row j (omega arith) l; few = λ j h l. P.bounded.few j (omega arith) l };
      built = λ lefts rights prefixes B j h l. P.built lefts rights prefixes B j (omega arith) l;
    }

    module _ (some : 0 < i) where
      pub placing_ready : EntryReady file places area n text work (i - 1)
      placing_ready =
          let r = P.ready in
          record {
            ready = record {
              places_ready = r.places_ready;
              area_room = r.area_room;
              few = r.few;
              room = omega (arith, P.size, r.room);
            };
            inside = omega (arith, P.place);
            later = record { row = λ j h l. P.bounded.row j (omega arith) l; few = λ j h l. P.bounded.few j (omega arith) l };
          }

      pub placing_more : (r : ℕ) → EntryIs file places area n text work (i - 1) r → Placing file places area n text work₀ (set work (i - 1) r) (i - 1)
      placing_more r e =
          let inside : i - 1 < length work = omega (arith, P.size, P.place, P.ready.room) in
          record {
            ready = P.ready;
            place = omega (arith, P.place);
            size = length-set work (i - 1) r ∙ P.size;
            beyond = drop-set-lt (length text) work (i - 1) r (omega (arith, P.place)) ∙ P.beyond;
            bounded = record {
              row = set-from (λ (j x : ℕ). j < length text → x % 4096 < n) work (i - 1) r inside (λ l. e.row) (λ j h l. P.bounded.row j (omega arith) l);
              few = set-from (λ (j x : ℕ). j < length text → x / 262144 ≤ length text - j) work (i - 1) r inside (λ l. e.few) (λ j h l. P.bounded.few j (omega arith) l);
            };
            built = λ lefts rights prefixes B.
                let later : AreEntries (dictionary_of file) text work (i - 1 + 1) = λ j h l. P.built lefts rights prefixes B j (omega arith) l in
                set-from (λ (j x : ℕ). j < length text → x ≡ entry (dictionary_of file) (drop j text)) work (i - 1) r inside (λ l. e.built lefts rights prefixes B later) later;
          }
