-- The queues: what an entry leads to, and one entry more. Assumes nothing.
use mathlib.Core.Path.{◌≡◌, refl, sym, ap, subst, ◌∙◌}
use mathlib.Core.Logic.{◌⊎◌, inl, inr}
use mathlib.Core.List.{List}
use Prim.Native.Nat.{ℕ, zero, suc, ◌+◌, ◌*◌, ◌/◌, ◌%◌, ◌<◌}
use native.Mathlib.Decide.{ℕ_discrete}
use native.Mathlib.Omega.{arith}
use lib.ListN.{length-replicate, get_or-replicate, replicate, get_or, set}
use lib.Seq.{get_or-set_same, get_or-set_other}
use Rattle.theory.specs.Dictionary.{none}
use Rattle.merge_encoder.specs.declared.joins.Joins.{Joins}
use Rattle.merge_encoder.specs.Queues.{steps, Queued, Queues}
use Rattle.merge_encoder.specs.Pushing.{Longer, PushReady, Pushed}

-- queues without entries
pub queues-start : Queues (replicate 4096 0) (replicate 12289 0) 1
queues-start = record {
  heads_room = length-replicate {A = ℕ} 4096 0;
  pool_room = length-replicate {A = ℕ} 12289 0;
  some = omega arith;
  newest = λ r h. omega (arith, get_or-replicate {A = ℕ} 4096 r 0 0 h);
  older = λ e h. omega (arith, get_or-replicate {A = ℕ} 12289 e 0 0 (omega arith));
}

-- the queue from an entry on: its place, and the queue from the older entry on
pub queued-cases : (pool : List ℕ) (e p : ℕ) → Queued pool e p → (p ≡ get_or pool e 0 % 4096) ⊎ Queued pool (get_or pool e 0 / 4096) p
queued-cases pool e p Q = go Q.step Q.some Q.is
  where
    go : (k : ℕ) → 0 < steps pool k e → get_or pool (steps pool k e) 0 % 4096 ≡ p → (p ≡ get_or pool e 0 % 4096) ⊎ Queued pool (get_or pool e 0 / 4096) p
    go zero s i = inl (omega arith)
    go (suc k) s i = inr (record { step = k; some = s; is = i })

module _ (heads pool : List ℕ) (count : ℕ) (Q : Queues heads pool count) where
  steps-end : (k : ℕ) → steps pool k 0 ≡ 0
  steps-end zero = refl
  steps-end (suc k) = let e : get_or pool 0 0 / 4096 ≡ 0 = omega (arith, Q.older 0 Q.some) in ap (steps pool k) e ∙ steps-end k

  -- nothing is queued from entry 0 on
  pub queued-none : (p : ℕ) → Queued pool 0 p → ⊥
  queued-none p q = omega (arith, q.some, steps-end q.step)

  module _ (pool' : List ℕ) (same : (e : ℕ) → e < count → get_or pool' e 0 ≡ get_or pool e 0) where
    steps-same : (k e : ℕ) → e < count → (steps pool' k e ≡ steps pool k e) × (steps pool k e < count)
    steps-same zero e h = (refl, h)
    steps-same (suc k) e h =
        let r = steps-same k (get_or pool e 0 / 4096) (omega (arith, Q.older e h)) in
        (ap (λ (v : ℕ). steps pool' k (v / 4096)) (same e h) ∙ r.0, r.1)

    queued-same : (e p : ℕ) → e < count → Queued pool e p → Queued pool' e p
    queued-same e p h q =
        let s = steps-same q.step e h in
        record {
          step = q.step;
          some = omega (arith, s.0, q.some);
          is = ap (λ (v : ℕ). get_or pool' v 0 % 4096) s.0 ∙ ap (λ (v : ℕ). v % 4096) (same (steps pool q.step e) s.1) ∙ q.is;
        }

  -- one entry more
  module _ (row place v : ℕ) (below : row < 4096) (room : count < 12289) (placed : place < 4096) (is : v ≡ get_or heads row 0 * 4096 + place) where
    abbrev pool' : List ℕ
    pool' = set pool count v

    abbrev heads' : List ℕ
    heads' = set heads row count

    same : (e : ℕ) → e < count → get_or (set pool count v) e 0 ≡ get_or pool e 0
    same e h = get_or-set_other pool count e v 0 (λ z. omega arith)

    new : get_or (set pool count v) count 0 ≡ v
    new = get_or-set_same pool count v 0 (omega (arith, Q.pool_room))

    head : get_or (set heads row count) row 0 ≡ count
    head = get_or-set_same heads row count 0 (omega (arith, Q.heads_room))

    kept' : (e p : ℕ) → e < count → Queued pool e p → Queued (set pool count v) e p
    kept' = queued-same pool' same

    moved' : (r p : ℕ) → r < 4096 → Dec (r ≡ row) → Queued pool (get_or heads r 0) p → Queued (set pool count v) (get_or (set heads row count) r 0) p
    moved' r p h (yes z) q =
        let w = queued-same pool' same (get_or heads r 0) p (Q.newest r h) q in
        let f : get_or pool' (get_or heads' r 0) 0 / 4096 ≡ get_or heads r 0 = rw (z, head, new) (omega arith) in
        record {
          step = suc w.step;
          some = subst (λ (e : ℕ). 0 < steps pool' w.step e) (sym f) w.some;
          is = subst (λ (e : ℕ). get_or pool' (steps pool' w.step e) 0 % 4096 ≡ p) (sym f) w.is;
        }
    moved' r p h (no z) q = rw (get_or-set_other heads row r count 0 z) (queued-same pool' same (get_or heads r 0) p (Q.newest r h) q)

    queued-new : Queued (set pool count v) (get_or (set heads row count) row 0) place
    queued-new = rw head (record { step = 0; some = Q.some; is = rw new (omega arith) })

-- no entry more
pub longer_same : (Q Q' : Joins) → Q'.heads ≡ Q.heads → Q'.pool ≡ Q.pool → Q'.count ≡ Q.count → Longer Q Q'
longer_same Q Q' h p c = record { least = omega arith; kept = λ _ _ _ q. rw p q; moved = λ _ _ _ q. rw (p, h) q }

pub longer_trans : (Q R S : Joins) → Longer Q R → Longer R S → Longer Q S
longer_trans Q R S L M = record {
  least = omega (arith, L.least, M.least);
  kept = λ e p h q. M.kept e p (omega (arith, L.least)) (L.kept e p h q);
  moved = λ r p h q. M.moved r p h (L.moved r p h q);
}

module _ (Q : Joins) (place row : ℕ) (R : PushReady Q place row) (Q' : Joins) (on : Q'.live ≡ Q.live) (keys : Q'.keys ≡ set Q.keys place row) where
  pub pushed_none : row ≡ none → Q'.heads ≡ Q.heads → Q'.pool ≡ Q.pool → Q'.count ≡ Q.count → Pushed Q place row Q'
  pushed_none e h p c = record {
    is = keys;
    live = on;
    longer = longer_same Q Q' h p c;
    few = omega arith;
    fresh = λ z. absurd (z e);
  }

  pub pushed-some : (v : ℕ) → (row ≡ none → ⊥) → v ≡ get_or Q.heads row 0 * 4096 + place
      → Q'.heads ≡ set Q.heads row Q.count → Q'.pool ≡ set Q.pool Q.count v → Q'.count ≡ Q.count + 1 → Pushed Q place row Q'
  pushed-some v s is h p c =
      let below : row < 4096 = R.row_below s in
      record {
        is = keys;
        live = on;
        longer = record {
          least = omega arith;
          kept = λ e i l q. rw p (kept' Q.heads Q.pool Q.count Q.queues row place v below R.room R.place_below is e i l q);
          moved = λ r i l q. rw (p, h) (moved' Q.heads Q.pool Q.count Q.queues row place v below R.room R.place_below is r i l (ℕ_discrete r row) q);
        };
        few = omega arith;
        fresh = λ _. rw (p, h) (queued-new Q.heads Q.pool Q.count Q.queues row place v below R.room R.place_below is);
      }
