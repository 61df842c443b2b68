-- The entries of the places of a text, and the counts that are read from them. Assumes nothing.
use mathlib.Core.Path.{◌≡◌, sym, ap, ◌∙◌}
use mathlib.Core.Logic.{⊎_elim}
use mathlib.Core.List.{List}
use Prim.Native.Nat.{ℕ, ◌+◌, ◌-◌, ◌*◌, ◌/◌, ◌%◌, ◌≤◌, ◌<◌}
use native.Mathlib.Omega.{arith}
use lib.ListN.{length, length-drop, get_or, drop, drop_of_length-le}
use borrow.Author.Tests.{lt-ltb, le-ltb}
use Rattle.theory.specs.Lists.{first_or}
use Rattle.theory.specs.Dictionary.{Dictionary, KnownText, none}
use Rattle.theory.specs.Shortest.{shortest}
use Rattle.theory.proofs.Lists.{lt_or_ge}
use Rattle.theory.proofs.PairCheck.{Lawful}
use Rattle.theory.proofs.Longest.{row_length, known-drop}
use Rattle.theory.proofs.RowsAt.{filled, rows-known}
use Rattle.theory.proofs.ShortestSteps.{chosen, chosen_in, shortest-nil, shortest-cons}
use Rattle.built_tables.specs.Built.{dictionary_of, Built}
use Rattle.built_tables.proofs.Rows.{count_is, bytes_are, places_ready}
use Rattle.shortest_encoder.specs.Entries.{entry_of, entry, count_from, Bounded, AreEntries}
use Rattle.tables.specs.Tables.{Tables}

module _ (work : List ℕ) (m j : ℕ) where
  pub count-inside : j < m → get_or work j 0 / 262144 ≡ count_from work m j
  unfolding count_from
  count-inside h = rw (lt-ltb j m h, count_from)

  pub count-beyond : m ≤ j → 0 ≡ count_from work m j
  unfolding count_from
  count-beyond h = rw (le-ltb j m h, count_from)

  -- no more codes than bytes
  pub count-few : (n i : ℕ) → Bounded n work m i → i ≤ j → count_from work m j ≤ m - j
  count-few n i b h = ⊎_elim
      (λ l. let z = b.few j h l in omega (arith, count-inside l))
      (λ l. omega (arith, count-beyond l))
      (lt_or_ge j m)

-- an entry holds a count of codes, the length of a row, and the row
pub record Holds (m l r e : ℕ) : Type 0 where
  pub count : e / 262144 ≡ m
  pub size : e / 4096 % 64 + l ≡ 64
  pub code : e % 4096 ≡ r

pub entry-holds : (m l r : ℕ) → 0 < l → l ≤ 64 → r < 4096 → (e : ℕ) → e ≡ entry_of m l r → Holds m l r e
entry-holds m l r f s h e is =
    let w : e / 4096 ≡ m * 64 + (64 - l) = omega arith in
    record { count = omega arith; size = omega arith; code = omega arith }

-- an entry has room for the numbers and the lengths of the rows
pub record Fits (D : Dictionary) : Type 0 where
  pub few : D.count ≤ 4096
  pub short : (c : ℕ) → c < D.count → length (D.bytes c) ≤ 64

pub built-fits : (T : Tables) (n : ℕ) → Built T n → Fits (dictionary_of T.file)
built-fits T n B =
    let P = places_ready T n B in
    let e = count_is T n B in
    record {
      few = omega (arith, P.placed.few);
      short = λ c h. let k : c < n = omega arith in omega (arith, P.short c k, ap length (bytes_are T n B c k));
    }

module _ (D : Dictionary) (A : Lawful D) (F : Fits D) where
  -- an entry gives the count of codes, and the chosen row with its length
  pub record Gives (t : List ℕ) (e : ℕ) : Type 0 where
    pub is : e ≡ entry_of (length (shortest D t)) (row_length D (chosen D t)) (chosen D t)
    pub holds : Holds (length (shortest D t)) (row_length D (chosen D t)) (chosen D t) e

  pub entry_gives : (t : List ℕ) → KnownText D t → 0 < length t → Gives t (entry D t)
  unfolding entry
  entry_gives t k h =
      let q : first_or none (shortest D t) ≡ chosen D t = ap (first_or none) (shortest-cons D A t k h) in
      let z : row_length D (first_or none (shortest D t)) ≡ row_length D (chosen D t) = ap (row_length D) q in
      let r : chosen D t < D.count = rows-known D (length t) t (chosen D t) (chosen_in D A t k h) in
      let e : entry D t ≡ entry_of (length (shortest D t)) (row_length D (chosen D t)) (chosen D t) = omega arith in
      record {
        is = e;
        holds = entry-holds (length (shortest D t)) (row_length D (chosen D t)) (chosen D t) (filled D A (chosen D t)) (F.short (chosen D t) r) (let m = F.few in omega arith) (entry D t) e;
      }

  module _ (text work : List ℕ) (k : KnownText D text) (i : ℕ) (E : AreEntries D text work i) where
    pub gives_at : (j : ℕ) → i ≤ j → j < length text → Gives (drop j text) (get_or work j 0)
    gives_at j h l = rw (E j h l) (entry_gives (drop j text) (known-drop D j text k) (omega (arith, length-drop j text)))

    -- the counts that are read are those of the shortest codes
    pub counts_are : (j : ℕ) → i ≤ j → count_from work (length text) j ≡ length (shortest D (drop j text))
    counts_are j h = ⊎_elim
        (λ l. sym (count-inside work (length text) j l) ∙ (gives_at j h l).holds.count)
        (λ l. sym (count-beyond work (length text) j l) ∙ sym (ap length (ap (shortest D) (drop_of_length-le text l) ∙ shortest-nil D)))
        (lt_or_ge j (length text))
