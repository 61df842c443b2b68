-- The first keys, of codes that are all live, one after the other. Assumes nothing.
use mathlib.Core.Path.{◌≡◌, ap, ◌∙◌}
use mathlib.Core.Logic.{⊎_elim}
use mathlib.Core.List.{List}
use mathlib.Core.Bool.{Bool}
use Prim.Native.Nat.{ℕ, suc, ◌+◌, ◌-◌, ◌≤◌, ◌<◌}
use native.Mathlib.Decide.{ℕ_discrete}
use native.Mathlib.Omega.{arith}
use lib.ListN.{get_or}
use Rattle.bitfield.specs.Bits.{is_set, all_set}
use Rattle.bitfield.proofs.Sets.{all-below}
use Rattle.theory.specs.Dictionary.{none}
use Rattle.theory.proofs.Lists.{lt_or_ge}
use Rattle.merge_encoder.specs.Live.{live}
use Rattle.merge_encoder.specs.declared.joins.Joins.{Joins}
use Rattle.merge_encoder.specs.Queues.{Queued}
use Rattle.merge_encoder.specs.Steps.{JoinKey, NextKey, FillReady, Renewed, FirstKeys}
use Rattle.merge_encoder.proofs.Living.{live-set, live-few}
use Rattle.tables.specs.Tables.{PairTables}

-- the keys of the places before next - 1 are found; the others have none
pub record Keying (P : PairTables) (n len : ℕ) (work : List ℕ) (Q : Joins) (next : ℕ) : Type 0 where
  pub low : 0 < next
  pub high : next ≤ len - 1 + 1
  pub few : Q.count ≤ next
  pub found : (i : ℕ) → suc i < next → JoinKey P n (get_or work i 0) (get_or work (suc i) 0) (get_or Q.keys i 0)
  pub rest : (i : ℕ) → i < 4096 → next ≤ suc i → get_or Q.keys i 0 ≡ none
  pub queued : (i : ℕ) → i < 4096 → (get_or Q.keys i 0 ≡ none → ⊥) → Queued Q.pool (get_or Q.heads (get_or Q.keys i 0) 0) i
  pub all_live : is_set Q.live.words ≡ all_set

module _ (P : PairTables) (n len : ℕ) (work : List ℕ) (Q₀ : Joins) (R : FillReady P n len work Q₀) where
  module _ (Q : Joins) (next : ℕ) (K : Keying P n len work Q next) where
    module _ (l : next < len) where
      module _ (Q' : Joins) (N : Renewed P n len work Q (next - 1) next Q') where
        key_below : (i : ℕ) → i < 4096 → (get_or Q.keys i 0 ≡ none → ⊥) → get_or Q.keys i 0 < 4096
        key_below i h s = ⊎_elim
            (λ m. ⊎_elim (λ e. absurd (s e)) (λ w. omega (arith, R.tables.rows_ready.places_ready.placed.few)) (K.found i m).bound)
            (λ m. absurd (s (K.rest i h m)))
            (lt_or_ge (suc i) next)

        queued' : (i : ℕ) → i < 4096 → Dec (i ≡ next - 1) → (get_or Q'.keys i 0 ≡ none → ⊥) → Queued Q'.pool (get_or Q'.heads (get_or Q'.keys i 0) 0) i
        queued' i h (yes z) s = rw z (N.fresh (λ w. s (ap (λ (j : ℕ). get_or Q'.keys j 0) z ∙ w)))
        queued' i h (no z) s =
            let e : get_or Q'.keys i 0 ≡ get_or Q.keys i 0 = N.others i z in
            let t : get_or Q.keys i 0 ≡ none → ⊥ = λ w. s (e ∙ w) in
            rw e (N.longer.moved (get_or Q.keys i 0) i (key_below i h t) (K.queued i h t))

        pub keying_more : Keying P n len work Q' (next + 1)
        keying_more = record {
          low = omega arith;
          high = omega arith;
          few = omega (arith, N.few, K.few);
          found = λ i h. ⊎_elim
              (λ m. rw (N.others i (λ z. omega arith)) (K.found i m))
              (λ m.
              let e : next ≡ suc i = omega arith in
              let b : suc i - 1 ≡ i = omega arith in
              rw (e, b) at (N.here l))
              (lt_or_ge (suc i) next);
          rest = λ i h m. N.others i (λ z. omega (arith, K.low)) ∙ K.rest i h (omega arith);
          queued = λ i h s. queued' i h (ℕ_discrete i (next - 1)) s;
          all_live = rw N.same_live K.all_live;
        }

    pub keying_end : len ≤ next → FirstKeys P n len work Q
    keying_end l = record {
      state = record {
        tables = R.tables;
        keyed = record {
          codes_ready = R.codes_ready;
          key = λ i h. rw (ap (λ (f : ℕ → Bool). f i) K.all_live ∙ all-below i (omega arith), K.all_live) (⊎_elim (λ m. here i m) (λ m. end i h m) (lt_or_ge (suc i) len));
        };
        entries = omega (arith, K.few, K.high, live-few (is_set Q.live.words) work len 0);
      };
      waiting = record { least = λ i h. omega arith; queued = K.queued };
      all_live = K.all_live;
    }
      where
        here : (i : ℕ) → suc i < len → NextKey (JoinKey P n) (get_or work i 0) (live all_set work (len - suc i) (suc i)) (get_or Q.keys i 0)
        here i m =
            let e : len - suc i ≡ suc (len - suc (suc i)) = omega arith in
            rw (e, live-set all_set work (len - suc (suc i)) (suc i) (all-below (suc i) (omega (arith, R.codes_ready.few)))) (K.found i (omega arith))

        end : (i : ℕ) → i < 4096 → len ≤ suc i → NextKey (JoinKey P n) (get_or work i 0) (live all_set work (len - suc i) (suc i)) (get_or Q.keys i 0)
        end i h m = let e : len - suc i ≡ 0 = omega arith in rw e (K.rest i h (omega (arith, K.high)))
