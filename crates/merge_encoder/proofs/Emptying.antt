-- The queue of a row, from its newest entry to its end: then no place has the row as its key, and the row's pass is made. Assumes nothing.
use mathlib.Core.Path.{◌≡◌, refl, sym, ap, subst, ◌∙◌}
use mathlib.Core.Logic.{inl, inr, ⊎_elim}
use mathlib.Core.List.{List, [], ◌∷◌}
use mathlib.Core.Bool.{Bool, true, false}
use Prim.Native.Nat.{ℕ, zero, suc, ◌+◌, ◌-◌, ◌/◌, ◌%◌, ◌≤◌, ◌<◌}
use native.Mathlib.Omega.{arith}
use lib.ListN.{length, get_or}
use Rattle.bitfield.specs.Bits.{is_set}
use Rattle.theory.specs.Dictionary.{Dictionary}
use Rattle.theory.specs.Paper.{pass, listed}
use Rattle.theory.proofs.Lists.{bool_cases}
use Rattle.theory.proofs.Pass.{pass_miss}
use Rattle.built_tables.specs.Built.{dictionary_of, Built}
use Rattle.merge_encoder.specs.Encoding.{WhenBuilt}
use Rattle.merge_encoder.specs.declared.joins.Joins.{Joins}
use Rattle.merge_encoder.specs.Live.{kept, live}
use Rattle.merge_encoder.specs.Steps.{JoinKey, KeyIs, Keyed, State, Waiting, During, Ran, RowJoined}
use Rattle.merge_encoder.proofs.Queueing.{queued-cases, queued-none}
use Rattle.tables.specs.Tables.{PairTables, with_prefixes}

-- codes none of whose keys is row: the pass of row leaves them as they are
module _ (P : PairTables) (n len : ℕ) (words work keys : List ℕ) (K : Keyed P n len words work keys) (row : ℕ) (below : row < n)
    (other : (i : ℕ) → i < 4096 → get_or keys i 0 ≡ row → ⊥) (prefixes : List ℕ) (B : Built (with_prefixes P prefixes) n) where
  open P use {file}

  abbrev D : Dictionary
  D = dictionary_of file

  left_alone : (k i : ℕ) → i + k ≡ len → pass row (listed (dictionary_of file) row) (live (is_set words) work k i) ≡ live (is_set words) work k i
  left_alone zero i e = refl
  left_alone (suc k) i e = go (is_set words i) (live (is_set words) work k (suc i)) keyed (left_alone k (suc i) (omega arith))
    where
      here : i < 4096
      here = omega (arith, K.codes_ready.few)

      keyed : KeyIs (JoinKey P n) (is_set words i) (get_or work i 0) (live (is_set words) work k (suc i)) (get_or keys i 0)
      keyed =
          let a : len - suc i ≡ k = omega arith in
          subst (λ (j : ℕ). KeyIs (JoinKey P n) (is_set words i) (get_or work i 0) (live (is_set words) work j (suc i)) (get_or keys i 0)) a (K.key i here)

      go : (b : Bool) (S : List ℕ) → KeyIs (JoinKey P n) b (get_or work i 0) S (get_or keys i 0) → pass row (listed (dictionary_of file) row) S ≡ S
          → pass row (listed (dictionary_of file) row) (kept b (get_or work i 0) S) ≡ kept b (get_or work i 0) S
      go false S q h = h
      go true [] q h = refl
      go true (y ∷ t) q h =
          let m : listed D row (get_or work i 0) y ≡ false = bool_cases (listed D row (get_or work i 0) y) (λ f. absurd (other i here ((q.built prefixes B).only row below f))) (λ f. f) in
          pass_miss row (listed D row) (get_or work i 0) y t m ∙ ap {B = List ℕ} (λ l. get_or work i 0 ∷ l) h

-- the entries of row's queue before `entry` are worked through
pub record Emptying (P : PairTables) (n len : ℕ) (S₀ : Joins) (work₀ : List ℕ) (row : ℕ) (S : Joins) (work : List ℕ) (entry : ℕ) : Type 0 where
  pub state : State P n len S work
  pub known : entry < S.count
  pub work_length : length work ≡ length work₀
  pub during : WhenBuilt P n (λ D. Waiting S₀ row → During (is_set S.live.words) S row entry 4096)
  pub same : WhenBuilt P n (λ D. pass row (listed D row) (live (is_set S.live.words) work len 0) ≡ pass row (listed D row) (live (is_set S₀.live.words) work₀ len 0))

module _ (P : PairTables) (n len : ℕ) (S₀ : Joins) (work₀ : List ℕ) (row : ℕ) (below : row < n) where
  module _ (S : Joins) (work : List ℕ) (entry : ℕ) (E : Emptying P n len S₀ work₀ row S work entry) where
    older : get_or S.pool entry 0 / 4096 ≤ entry - 1
    older = S.queues.older entry E.known

    module _ (some : 0 < entry) where
      pub emptying_less : get_or S.pool entry 0 / 4096 < entry
      emptying_less = omega (arith, older)

      -- the entry's place comes out of the queue
      taken : (bits : ℕ → Bool) → During bits S row entry 4096
          → During bits S row (get_or S.pool entry 0 / 4096) (get_or S.pool entry 0 % 4096)
      taken bits R = record {
        least = R.least;
        queued = R.queued;
        due = λ i h e. ⊎_elim
            (λ z. absurd (omega arith))
            (λ w. ⊎_elim (λ q. ⊎_elim (λ z. inl z) (λ z. inr (inl z)) (queued-cases S.pool entry i q)) (λ z. inr (inr z)) w)
            (R.due i h e);
      }

      pub emptying_more : (S' : Joins) (work' : List ℕ) → Ran P n len S work row (get_or S.pool entry 0 % 4096) S' work'
          → Emptying P n len S₀ work₀ row S' work' (get_or S.pool entry 0 / 4096)
      emptying_more S' work' R = record {
        state = R.state;
        known = omega (arith, emptying_less, E.known, R.least);
        work_length = R.work_length ∙ E.work_length;
        during = λ prefixes B W. R.during prefixes B (get_or S.pool entry 0 / 4096) (omega (arith, emptying_less, E.known)) (taken (is_set S.live.words) (E.during prefixes B W));
        same = λ prefixes B. R.same prefixes B ∙ E.same prefixes B;
      }

    module _ (none_left : entry ≤ 0) where
      -- the leftmost place with the key row would have another one before it
      no_more : During (is_set S.live.words) S row entry 4096 → (m i : ℕ) → i < m → i < 4096 → get_or S.keys i 0 ≡ row → ⊥
      no_more R zero i l h e = omega arith
      no_more R (suc m) i l h e = ⊎_elim
          (λ z. omega arith)
          (λ w. ⊎_elim
          (λ q. let z : entry ≡ 0 = omega arith in queued-none S.heads S.pool S.count S.queues i (rw z at q))
          (λ b. no_more R m b.place (omega (arith, b.before)) (omega (arith, b.before)) b.key)
          w)
          (R.due i h e)

      pub emptying_end : RowJoined P n len S₀ work₀ row S work
      emptying_end = record {
        state = E.state;
        work_length = E.work_length;
        waiting = λ prefixes B W.
            let R = E.during prefixes B W in
            let above : (i : ℕ) → i < 4096 → row < get_or S.keys i 0 = λ i h. higher i h (R.least i h) (no_more R 4096 i h h) in
            record { least = λ i h. above i h; queued = λ i h s. R.queued i h (above i h) s };
        is = λ prefixes B W.
            let R = E.during prefixes B W in
            sym (left_alone P n len S.live.words work S.keys E.state.keyed row below (λ i h. no_more R 4096 i h h) prefixes B len 0 (omega arith))
            ∙ E.same prefixes B;
      }
        where
          higher : (i : ℕ) → i < 4096 → row ≤ get_or S.keys i 0 → (get_or S.keys i 0 ≡ row → ⊥) → row < get_or S.keys i 0
          higher i h l s = omega arith
