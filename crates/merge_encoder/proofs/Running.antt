-- The joins to a row, one after the other: what is still due after each of them. Assumes nothing.
use mathlib.Core.Path.{◌≡◌, sym, ap, ◌∙◌}
use mathlib.Core.Logic.{◌⊎◌, inl, inr, ⊎_elim}
use mathlib.Core.List.{List, [], ◌∷◌}
use mathlib.Core.Bool.{Bool, true, false}
use Prim.Native.Nat.{ℕ, suc, ◌-◌, ◌≤◌, ◌<◌}
use native.Mathlib.Decide.{ℕ_discrete}
use native.Mathlib.Omega.{arith}
use lib.ListN.{length, get_or}
use Rattle.bitfield.specs.Bits.{is_set}
use Rattle.bitfield.proofs.Without.{without-same, without_other}
use Rattle.theory.specs.Dictionary.{none}
use Rattle.theory.specs.Paper.{pass, listed}
use Rattle.theory.proofs.Lists.{lt_or_ge, true-false}
use Rattle.built_tables.specs.Built.{Built}
use Rattle.merge_encoder.specs.Encoding.{JoinsReady, WhenBuilt}
use Rattle.merge_encoder.specs.Live.{live, NextLive, LastLive}
use Rattle.merge_encoder.specs.declared.joins.Joins.{Joins}
use Rattle.merge_encoder.specs.Queues.{Queued}
use Rattle.merge_encoder.specs.Steps.{JoinKey, KeyIs, Keyed, State, Later, Around, Turned, Behind, During, Ran}
use Rattle.merge_encoder.proofs.Joining.{here_on, here-below, here-next}
use Rattle.tables.specs.Tables.{PairTables, with_prefixes}

-- a key is a row or none
pub key_below : (P : PairTables) (n len : ℕ) (words work keys : List ℕ) → Keyed P n len words work keys
    → (i : ℕ) → i < 4096 → (get_or keys i 0 ≡ none → ⊥) → get_or keys i 0 < n
key_below P n len words work keys K i h s = go (is_set words i) (live (is_set words) work (len - suc i) (suc i)) (K.key i h)
  where
    go : (b : Bool) (S : List ℕ) → KeyIs (JoinKey P n) b (get_or work i 0) S (get_or keys i 0) → get_or keys i 0 < n
    go false S q = absurd (s q)
    go true [] q = absurd (s q)
    go true (y ∷ t) q = ⊎_elim (λ e. absurd (s e)) (λ l. l) q.bound

-- no place is at work any more, where the place at is no longer due by itself
closed : (bits : ℕ → Bool) (Q : Joins) (row entry at : ℕ) → (at < 4096 → get_or Q.keys at 0 ≡ row → Behind bits Q.keys row at)
    → During bits Q row entry at → During bits Q row entry 4096
closed bits Q row entry at f R = record {
  least = R.least;
  queued = R.queued;
  due = λ i h e. ⊎_elim
      (λ z. inr (inr (rw z (f (omega arith) (ap (λ (j : ℕ). get_or Q.keys j 0) (sym z) ∙ e)))))
      (λ z. inr z)
      (R.due i h e);
}

module _ (P : PairTables) (n len : ℕ)
    (S : Joins) (work : List ℕ) (row last at next after : ℕ)
    (I : State P n len S work) (A : Around (is_set S.live.words) S.keys n len row last at next after)
    (S' : Joins) (work' : List ℕ) (J : Turned P n len S work row last at next S' work') where
  T : JoinsReady P n
  T = I.tables

  few : n ≤ 4096
  few = T.rows_ready.places_ready.placed.few

  -- which place it is
  cases : {H : Type 0} (i : ℕ) → (i ≡ at → H) → (i ≡ next → H) → (last < at → i ≡ last → H) → ((i ≡ at → ⊥) → (i ≡ next → ⊥) → (last < at → i ≡ last → ⊥) → H) → H
  cases {H} i a b c d = go (ℕ_discrete i at) (ℕ_discrete i next) (ℕ_discrete i last)
    where
      go : Dec (i ≡ at) → Dec (i ≡ next) → Dec (i ≡ last) → H
      go (yes z) y x = a z
      go (no z) (yes y) x = b y
      go (no z) (no y) (yes x) = ⊎_elim (λ l. c l x) (λ l. d z y (λ m w. omega arith)) (lt_or_ge last at)
      go (no z) (no y) (no x) = d z y (λ m w. x w)

  gone : is_set S'.live.words next ≡ false
  gone = ap (λ (f : ℕ → Bool). f next) J.cleared ∙ without-same (is_set S.live.words) next

  same : (p : ℕ) → (p ≡ next → ⊥) → is_set S'.live.words p ≡ is_set S.live.words p
  same p h = ap (λ (f : ℕ → Bool). f p) J.cleared ∙ without_other (is_set S.live.words) next p h

  -- a place that was not live is not live now
  clear' : (p : ℕ) → is_set S.live.words p ≡ false → is_set S'.live.words p ≡ false
  clear' p e = go (ℕ_discrete p next)
    where
      go : Dec (p ≡ next) → is_set S'.live.words p ≡ false
      go (yes z) = rw z gone
      go (no z) = same p z ∙ e

  module _ (prefixes : List ℕ) (B : Built (with_prefixes P prefixes) n) (entry : ℕ) (known : entry < S.count) (R : During (is_set S.live.words) S row entry at) where
    not_none : row ≡ none → ⊥
    not_none e = omega (arith, A.below, few)

    behind : (i : ℕ) → i < 4096 → get_or S.keys i 0 ≡ row → (i ≡ next → ⊥) → Behind (is_set S.live.words) S.keys row i → (i ≡ after) ⊎ (Queued S'.pool entry i ⊎ Behind (is_set S'.live.words) S'.keys row i)
    behind i h e ne b = cases j
        (λ z. ⊎_elim
        (λ l. absurd (true-false (sym on ∙ A.next_is.clear i (omega (arith, z, b.before)) l)))
        (λ l. absurd (true-false (sym (A.next_is.here inside) ∙ b.clear next (omega (arith, z, A.next_is.after)) (strict l))))
        (lt_or_ge i next))
        (λ z. ⊎_elim
        (λ l. absurd (true-false (sym on ∙ A.after_is.clear i (omega (arith, z, b.before)) l)))
        (λ l. at_after z l (ℕ_discrete i after))
        (lt_or_ge i after))
        (λ l z. absurd (A.first l (ap (λ (p : ℕ). get_or S.keys p 0) (sym z) ∙ b.key)))
        (λ x y z. inr (inr (record { place = j; before = b.before; clear = λ p f g. clear' p (b.clear p f g); key = J.others j x y z ∙ b.key })))
      where
        j : ℕ
        j = b.place

        on : is_set S.live.words i ≡ true
        on = here_on P n len S.live.words work S.keys T I.keyed row i A.below h e

        low : i < len
        low = here-below P n len S.live.words work S.keys T I.keyed row i A.below h e

        inside : next < len
        inside = here-next P n len S.live.words work S.keys T I.keyed row at A.below A.at_below A.here next A.next_is

        strict : next ≤ i → next < i
        strict l = ⊎_elim (λ m. m) (λ m. absurd (ne (omega arith))) (lt_or_ge next i)

        at_after : j ≡ next → after ≤ i → Dec (i ≡ after) → (i ≡ after) ⊎ (Queued S'.pool entry i ⊎ Behind (is_set S'.live.words) S'.keys row i)
        at_after z l (yes w) = inl w
        at_after z l (no w) =
            let m : after < i = ⊎_elim (λ m. m) (λ m. absurd (w (omega arith))) (lt_or_ge after i) in
            absurd (true-false (sym (A.after_is.here (omega (arith, low))) ∙ b.clear after (omega (arith, z, A.after_is.after)) m))

    least' : (i : ℕ) → i < 4096 → row ≤ get_or S'.keys i 0
    least' i h = cases i
        (λ z. rw z (omega (arith, J.higher_at prefixes B)))
        (λ z. rw z (omega (arith, J.gone, A.below, few)))
        (λ l z. rw z (omega (arith, J.higher_last l prefixes B)))
        (λ x y z. omega (arith, J.others i x y z, R.least i h))

    queued' : (i : ℕ) → i < 4096 → row < get_or S'.keys i 0 → (get_or S'.keys i 0 ≡ none → ⊥) → Queued S'.pool (get_or S'.heads (get_or S'.keys i 0) 0) i
    queued' i h g s = cases i
        (λ z. rw z (J.fresh_at (λ w. s (ap (λ (j : ℕ). get_or S'.keys j 0) z ∙ w))))
        (λ z. absurd (s (ap (λ (j : ℕ). get_or S'.keys j 0) z ∙ J.gone)))
        (λ l z. rw z (J.fresh_last l (λ w. s (ap (λ (j : ℕ). get_or S'.keys j 0) z ∙ w))))
        (λ x y z.
        let e : get_or S'.keys i 0 ≡ get_or S.keys i 0 = J.others i x y z in
        let t : get_or S.keys i 0 ≡ none → ⊥ = λ w. s (e ∙ w) in
        let b : get_or S.keys i 0 < n = key_below P n len S.live.words work S.keys I.keyed i h t in
        rw e (J.longer.moved (get_or S.keys i 0) i (omega (arith, few)) (R.queued i h (omega arith) t)))

    due' : (i : ℕ) → i < 4096 → get_or S'.keys i 0 ≡ row → (i ≡ after) ⊎ (Queued S'.pool entry i ⊎ Behind (is_set S'.live.words) S'.keys row i)
    due' i h e = cases i
        (λ z. absurd (let w = rw z at e in omega (arith, J.higher_at prefixes B)))
        (λ z. absurd (let w = rw z at e in not_none (sym w ∙ J.gone)))
        (λ l z. absurd (let w = rw z at e in omega (arith, J.higher_last l prefixes B)))
        (λ x y z.
        let f : get_or S.keys i 0 ≡ row = sym (J.others i x y z) ∙ e in
        ⊎_elim
        (λ w. absurd (x w))
        (λ w. ⊎_elim (λ q. inr (inl (J.longer.kept entry i known q))) (λ b. behind i h f y b) w)
        (R.due i h f))

    during' : During (is_set S'.live.words) S' row entry after
    during' = record { least = least'; queued = queued'; due = due' }

-- joins to row were made, and the next one may be at the place at
pub record Running (P : PairTables) (n len : ℕ) (S₀ : Joins) (work₀ : List ℕ) (row first : ℕ) (S : Joins) (work : List ℕ) (at : ℕ) : Type 0 where
  pub state : State P n len S work
  pub placed : at < 4096
  pub work_length : length work ≡ length work₀
  pub least : S₀.count ≤ S.count
  pub during : WhenBuilt P n (λ D. (entry : ℕ) → entry < S₀.count → During (is_set S₀.live.words) S₀ row entry first → During (is_set S.live.words) S row entry at)
  pub same : WhenBuilt P n (λ D. pass row (listed D row) (live (is_set S.live.words) work len 0) ≡ pass row (listed D row) (live (is_set S₀.live.words) work₀ len 0))

module _ (P : PairTables) (n len : ℕ) (S₀ : Joins) (work₀ : List ℕ) (row first : ℕ) (below : row < n) where
  module _ (S : Joins) (work : List ℕ) (at : ℕ) (R : Running P n len S₀ work₀ row first S work at) where
    ran : (at < 4096 → get_or S.keys at 0 ≡ row → Behind (is_set S.live.words) S.keys row at) → Ran P n len S₀ work₀ row first S work
    ran f = record {
      state = R.state;
      work_length = R.work_length;
      least = R.least;
      during = λ prefixes B entry l Q. closed (is_set S.live.words) S row entry at f (R.during prefixes B entry l Q);
      same = R.same;
    }

    -- the place has another key
    pub running-other : (get_or S.keys at 0 ≡ row → ⊥) → Ran P n len S₀ work₀ row first S work
    running-other s = ran (λ h e. absurd (s e))

    module _ (here : get_or S.keys at 0 ≡ row) where
      pub running-next : (next : ℕ) → NextLive (is_set S.live.words) at len next → next < len
      running-next next N = here-next P n len S.live.words work S.keys R.state.tables R.state.keyed row at below R.placed here next N

      module _ (last : ℕ) (L : LastLive (is_set S.live.words) at last) (b : Bool) (F : Later S.keys last at row b) where
        -- the live place before it goes first
        pub running-later : b ≡ true → Ran P n len S₀ work₀ row first S work
        running-later e = ran (λ h z. record { place = last; before = (F.yes e).0; clear = λ p f g. L.clear p g (λ _. f); key = (F.yes e).1 })

        module _ (e : b ≡ false) (next : ℕ) (N : NextLive (is_set S.live.words) at len next) (after : ℕ) (M : NextLive (is_set S.live.words) next len after) where
          pub around : Around (is_set S.live.words) S.keys n len row last at next after
          around = record { below = below; at_below = R.placed; here = here; first = F.no e; last_is = L; next_is = N; after_is = M }

          module _ (S' : Joins) (work' : List ℕ) (J : Turned P n len S work row last at next S' work') where
            during-after : WhenBuilt P n (λ D. (entry : ℕ) → entry < S₀.count → During (is_set S₀.live.words) S₀ row entry first → During (is_set S'.live.words) S' row entry after)
            during-after prefixes B entry l Q =
                during' P n len S work row last at next after R.state around S' work' J prefixes B entry
                (omega (arith, R.least)) (R.during prefixes B entry l Q)

            pub running_more : after < len → Running P n len S₀ work₀ row first S' work' after
            running_more h = record {
              state = J.state;
              placed = omega (arith, R.state.keyed.codes_ready.few);
              work_length = J.work_length ∙ R.work_length;
              least = omega (arith, R.least, J.longer.least);
              during = during-after;
              same = λ prefixes B. J.same prefixes B ∙ R.same prefixes B;
            }

            -- nothing is live after it
            pub running-end : after ≡ len → Ran P n len S₀ work₀ row first S' work'
            running-end h = record {
              state = J.state;
              work_length = J.work_length ∙ R.work_length;
              least = omega (arith, R.least, J.longer.least);
              during = λ prefixes B entry l Q. closed (is_set S'.live.words) S' row entry after
                  (λ p z. absurd (let w = here-below P n len S'.live.words work' S'.keys J.state.tables J.state.keyed row after below p z in omega (arith, h)))
                  (during-after prefixes B entry l Q);
              same = λ prefixes B. J.same prefixes B ∙ R.same prefixes B;
            }
