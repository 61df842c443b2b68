-- The join at one place: two codes made one, and the keys of the places around it found anew. Assumes nothing.
use mathlib.Core.Path.{◌≡◌, refl, sym, ap, ◌∙◌}
use mathlib.Core.Logic.{⊎_elim}
use mathlib.Core.List.{List, [], ◌∷◌, ◌++◌}
use mathlib.Core.Bool.{Bool, true, false}
use Prim.Native.Nat.{ℕ, suc, ◌+◌, ◌-◌, ◌≤◌, ◌<◌}
use native.Mathlib.Decide.{ℕ_discrete}
use native.Mathlib.Omega.{arith}
use lib.ListN.{length, length-append, length-set, get_or, set}
use lib.Seq.{get_or-set_same, get_or-set_other}
use Rattle.bitfield.specs.Bits.{is_set, without}
use Rattle.bitfield.proofs.Without.{without-same, without_other}
use Rattle.theory.specs.Dictionary.{Dictionary, none}
use Rattle.theory.specs.Lists.{last_or}
use Rattle.theory.specs.Paper.{pass, listed}
use Rattle.theory.proofs.Lists.{lt_or_ge, nil-cons, bool_cases, last_or_append}
use Rattle.theory.proofs.Stage.{listed-is, apart}
use Rattle.built_tables.specs.Built.{dictionary_of, Built}
use Rattle.built_tables.proofs.Rows.{lawful-is}
use Rattle.merge_encoder.specs.Encoding.{JoinsReady, WhenBuilt, Codes}
use Rattle.merge_encoder.specs.Live.{live, NextLive, LastLive}
use Rattle.bitfield.specs.declared.BitField.{BitField}
use Rattle.merge_encoder.specs.declared.joins.Joins.{Joins}
use Rattle.merge_encoder.specs.Queues.{Queued}
use Rattle.merge_encoder.specs.Pushing.{Longer}
use Rattle.merge_encoder.specs.Steps.{JoinKey, NextKey, KeyIs, CodesReady, RenewReady, Renewed, Keyed, State, Around, Turned}
use Rattle.merge_encoder.proofs.Living.{live-none}
use Rattle.merge_encoder.proofs.Turning.{parted, next-some, next-none, joined, next-after, next_last, keys_after}
use Rattle.merge_encoder.proofs.Queueing.{longer_trans}
use Rattle.merge_encoder.proofs.Passing.{pass-joined}
use Rattle.tables.specs.Tables.{PairTables, with_prefixes}

-- the codes before a place, up to the last live one
module _ (bits : ℕ → Bool) (work : List ℕ) (at last : ℕ) (L : LastLive bits at last) where
  last_none : at ≤ last → live bits work at 0 ≡ []
  last_none h = live-none bits work at 0 (λ p a b. L.clear p (omega arith) (λ l. absurd (omega arith)))

  last_some : last < at → live bits work at 0 ≡ live bits work last 0 ++ get_or work last 0 ∷ []
  last_some l =
      let a : at - 0 ≡ at = omega arith in
      let b : last - 0 ≡ last = omega arith in
      let c : live bits work (at - suc last) (suc last) ≡ [] = live-none bits work (at - suc last) (suc last) (λ p e f. L.clear p (omega arith) (λ _. e)) in
      (rw (a, b) at (parted bits work at last 0 (omega arith) l (L.here l))) ∙ ap (λ (s : List ℕ). live bits work last 0 ++ get_or work last 0 ∷ s) c

  next_is : (len : ℕ) → at < len → bits at ≡ true → last < at → NextLive bits last len at
  next_is len h e l = record { after = l; most = omega arith; clear = λ p a b. L.clear p b (λ _. a); here = λ _. e }

module _ (P : PairTables) (n : ℕ) where
  open P use {file}

  -- the key found anew is that of the codes from the place on
  renewed-key : (bits : ℕ → Bool) (len : ℕ) (work : List ℕ) (Q : Joins) (at next : ℕ) (Q' : Joins) → NextLive bits at len next
      → Renewed P n len work Q at next Q'
      → NextKey (JoinKey P n) (get_or work at 0) (live bits work (len - suc at) (suc at)) (get_or Q'.keys at 0)
  renewed-key bits len work Q at next Q' N R = ⊎_elim
      (λ l. rw (next-some bits work len at next N l) (R.here l))
      (λ l. let e : next ≡ len = omega (arith, N.most) in rw (next-none bits work len at next N e) (R.last e))
      (lt_or_ge next len)

  -- a row is above its parts
  module _ (few : n ≤ 4096) (x y k : ℕ) (hx : x < n) (hy : y < n) (J : JoinKey P n x y k) (prefixes : List ℕ) (B : Built (with_prefixes P prefixes) n) where
    above-left : x < k
    above-left = go (ℕ_discrete k none)
      where
        go : Dec (k ≡ none) → x < k
        go (yes e) = omega (arith, few)
        go (no s) =
            let h = listed-is (dictionary_of file) k x y ((J.built prefixes B).is s) in
            omega (arith, h.left, (lawful-is (with_prefixes P prefixes) n B).laws.left_below k h.long)

    above-right : y < k
    above-right = go (ℕ_discrete k none)
      where
        go : Dec (k ≡ none) → y < k
        go (yes e) = omega (arith, few)
        go (no s) =
            let h = listed-is (dictionary_of file) k x y ((J.built prefixes B).is s) in
            omega (arith, h.right, (lawful-is (with_prefixes P prefixes) n B).laws.right_below k h.long)

module _ (P : PairTables) (n len : ℕ) (words work keys : List ℕ) (T : JoinsReady P n) (K : Keyed P n len words work keys)
    (row at : ℕ) (below : row < n) (placed : at < 4096) (here : get_or keys at 0 ≡ row) where
  few : n ≤ 4096
  few = T.rows_ready.places_ready.placed.few

  -- a place that has a row as its key is live, and so is one after it
  record Here : Type 0 where
    on : is_set words at ≡ true
    first : ℕ
    others : List ℕ
    rest : live (is_set words) work (len - suc at) (suc at) ≡ first ∷ others
    key : NextKey (JoinKey P n) (get_or work at 0) (live (is_set words) work (len - suc at) (suc at)) row

  H : Here
  H = go (is_set words at) refl (live (is_set words) work (len - suc at) (suc at)) refl (K.key at placed)
    where
      go : (b : Bool) → is_set words at ≡ b → (S : List ℕ) → live (is_set words) work (len - suc at) (suc at) ≡ S → KeyIs (JoinKey P n) b (get_or work at 0) S (get_or keys at 0) → Here
      go false e S f q = absurd (omega (arith, q, here, few))
      go true e [] f q = absurd (omega (arith, q, here, few))
      go true e (y ∷ t) f q = record { on = e; first = y; others = t; rest = f; key = rw (f, ← here) q }

  pub here_on : is_set words at ≡ true
  here_on = H.on

  pub here-below : at < len
  here-below = ⊎_elim (λ l. l) (λ l. let z : len - suc at ≡ 0 = omega arith in absurd (nil-cons (rw z at H.rest))) (lt_or_ge at len)

  module _ (next : ℕ) (N : NextLive (is_set words) at len next) where
    pub here-next : next < len
    here-next = ⊎_elim (λ l. l) (λ l. absurd (nil-cons (sym (next-none (is_set words) work len at next N (omega (arith, N.most))) ∙ H.rest))) (lt_or_ge next len)

    pub here-key : JoinKey P n (get_or work at 0) (get_or work next 0) row
    here-key = rw (next-some (is_set words) work len at next N here-next) at H.key

module _ (P : PairTables) (n len : ℕ) (S : Joins) (work : List ℕ) (row last at next after : ℕ)
    (I : State P n len S work)
    (A : Around (is_set S.live.words) S.keys n len row last at next after) where
  open P use {file}

  T : JoinsReady P n
  T = I.tables

  abbrev bits : ℕ → Bool
  bits = is_set S.live.words

  K : Keyed P n len S.live.words work S.keys
  K = I.keyed

  N : NextLive (is_set S.live.words) at len next
  N = A.next_is

  small : n ≤ 4096
  small = T.rows_ready.places_ready.placed.few

  on : is_set S.live.words at ≡ true
  on = here_on P n len S.live.words work S.keys T K row at A.below A.at_below A.here

  pub at_below : at < len
  at_below = here-below P n len S.live.words work S.keys T K row at A.below A.at_below A.here

  pub next_below : next < len
  next_below = here-next P n len S.live.words work S.keys T K row at A.below A.at_below A.here next N

  at_key : JoinKey P n (get_or work at 0) (get_or work next 0) row
  at_key = here-key P n len S.live.words work S.keys T K row at A.below A.at_below A.here next N

  pub at_room : at < length work
  at_room = omega (arith, K.codes_ready.room, at_below)

  abbrev front : List ℕ
  front = live (is_set S.live.words) work at 0

  abbrev back : List ℕ
  back = live (is_set S.live.words) work (len - suc next) (suc next)

  whole : live (is_set S.live.words) work len 0 ≡ live (is_set S.live.words) work at 0 ++ get_or work at 0 ∷ get_or work next 0 ∷ live (is_set S.live.words) work (len - suc next) (suc next)
  whole =
      let a : len - 0 ≡ len = omega arith in
      let b : at - 0 ≡ at = omega arith in
      (rw (a, b) at (parted bits work len at 0 (omega arith) at_below on)) ∙ ap (λ (s : List ℕ). front ++ get_or work at 0 ∷ s) (next-some bits work len at next N next_below)

  pub two : 2 ≤ length (live (is_set S.live.words) work len 0)
  two = omega (arith, ap length whole, length-append front (get_or work at 0 ∷ get_or work next 0 ∷ back))

  codes' : Codes len (set work at row) n
  codes' i h = ⊎_elim
      (λ l. rw (get_or-set_other work at i row 0 (λ z. omega arith)) (K.codes_ready.codes i h))
      (λ l. ⊎_elim
      (λ m. rw (get_or-set_other work at i row 0 (λ z. omega arith)) (K.codes_ready.codes i h))
      (λ m. let e : i ≡ at = omega arith in rw (e, get_or-set_same work at row 0 at_room) A.below)
      (lt_or_ge at i))
      (lt_or_ge i at)

  ready' : CodesReady n len (set work at row)
  ready' = record { few = K.codes_ready.few; room = omega (arith, K.codes_ready.room, length-set work at row); codes = codes' }

  -- what the first key found anew needs
  pub first-ready : (Q : Joins) → Q.count ≡ S.count → RenewReady P n len (set work at row) Q at after
  first-ready Q e = record {
    tables = T;
    codes_ready = ready';
    room = omega (arith, I.entries, two, K.codes_ready.few, e);
    at_below = at_below;
    next_below = A.after_is.most;
  }

  -- the code at the place before does not meet the one at the place
  module _ (prefixes : List ℕ) (B : Built (with_prefixes P prefixes) n) where
    abbrev D : Dictionary
    D = dictionary_of file

    apart-right : (x : ℕ) → listed (dictionary_of file) row x row ≡ false
    apart-right x = bool_cases (listed D row x row)
        (λ e. let h = listed-is D row x row e in absurd (omega (arith, h.right, (lawful-is (with_prefixes P prefixes) n B).laws.right_below row h.long)))
        (λ e. e)

    last-key : last < at → JoinKey P n (get_or work last 0) (get_or work at 0) (get_or S.keys last 0)
    last-key l =
        let M = next_is bits work at last A.last_is len at_below on l in
        rw (A.last_is.here l, next-some bits work len last at M at_below) at (K.key last (omega (arith, A.at_below)))

    apart-last : listed (dictionary_of file) row (last_or row (live (is_set S.live.words) work at 0)) (get_or work at 0) ≡ false
    apart-last = ⊎_elim
        (λ l.
        let e : last_or row front ≡ get_or work last 0 = ap (last_or row) (last_some bits work at last A.last_is l) ∙ last_or_append row row (live bits work last 0) (get_or work last 0 ∷ []) (λ z. nil-cons (sym z)) in
        rw e (bool_cases (listed D row (get_or work last 0) (get_or work at 0)) (λ f. absurd (A.first l (((last-key l).built prefixes B).only row A.below f))) (λ f. f)))
        (λ l. rw (last_none bits work at last A.last_is l) (apart D (lawful-is (with_prefixes P prefixes) n B).laws row (get_or work at 0)))
        (lt_or_ge last at)

    pass_same : pass row (listed (dictionary_of file) row) (live (is_set S.live.words) work at 0 ++ row ∷ live (is_set S.live.words) work (len - suc next) (suc next))
        ≡ pass row (listed (dictionary_of file) row) (live (is_set S.live.words) work len 0)
    pass_same =
        pass-joined row (listed D row) (apart D (lawful-is (with_prefixes P prefixes) n B).laws row) apart-right (get_or work at 0) (get_or work next 0)
        ((at_key.built prefixes B).is (λ z. omega (arith, A.below, small))) back front apart-last
        ∙ ap (pass row (listed D row)) (sym whole)

  module _ (L : BitField) (cleared : is_set L.words ≡ without (is_set S.live.words) next) where
    abbrev bits' : ℕ → Bool
    bits' = is_set L.words

    gone : is_set L.words next ≡ false
    gone = ap (λ (f : ℕ → Bool). f next) cleared ∙ without-same (is_set S.live.words) next

    same : (p : ℕ) → (p ≡ next → ⊥) → is_set L.words p ≡ is_set S.live.words p
    same p h = ap (λ (f : ℕ → Bool). f p) cleared ∙ without_other (is_set S.live.words) next p h

    after-at : NextLive (is_set L.words) at len after
    after-at = next-after bits bits' work len at next row at_room on N next_below same gone after A.after_is

    at_last : last < at → NextLive (is_set L.words) last len at
    at_last l = next_last bits bits' work len at next row at_room on N next_below same gone last A.last_is l

    made : live (is_set L.words) (set work at row) len 0 ≡ live (is_set S.live.words) work at 0 ++ row ∷ live (is_set S.live.words) work (len - suc next) (suc next)
    made =
        let x : len - 0 ≡ len = omega arith in
        let y : at - 0 ≡ at = omega arith in
        rw (x, y) at (joined bits bits' work len at next row at_room on N next_below same gone 0 (omega arith))

    fewer : suc (length (live (is_set L.words) (set work at row) len 0)) ≡ length (live (is_set S.live.words) work len 0)
    fewer = omega (arith, ap length made, ap length whole, length-append front (row ∷ back), length-append front (get_or work at 0 ∷ get_or work next 0 ∷ back))

    -- what the two keys found anew make of it
    turned : (Q : Joins) → Q.live ≡ L → Longer S Q → Q.count ≤ S.count + 2
        → NextKey (JoinKey P n) row (live (is_set L.words) (set work at row) (len - suc at) (suc at)) (get_or Q.keys at 0)
        → get_or Q.keys next 0 ≡ none
        → (last < at → NextKey (JoinKey P n) (get_or work last 0) (live (is_set L.words) (set work at row) (len - suc last) (suc last)) (get_or Q.keys last 0))
        → ((i : ℕ) → (i ≡ at → ⊥) → (i ≡ next → ⊥) → (last < at → i ≡ last → ⊥) → get_or Q.keys i 0 ≡ get_or S.keys i 0)
        → ((get_or Q.keys at 0 ≡ none → ⊥) → Queued Q.pool (get_or Q.heads (get_or Q.keys at 0) 0) at)
        → (last < at → (get_or Q.keys last 0 ≡ none → ⊥) → Queued Q.pool (get_or Q.heads (get_or Q.keys last 0) 0) last)
        → WhenBuilt P n (λ D. row < get_or Q.keys at 0)
        → (last < at → WhenBuilt P n (λ D. row < get_or Q.keys last 0))
        → Turned P n len S work row last at next Q (set work at row)
    turned Q z g l a b c d e f u v = record {
      state = record {
        tables = I.tables;
        keyed = record {
          codes_ready = ready';
          key = rw z (keys_after bits bits' work len at next row at_room on N next_below same gone
              (JoinKey P n) K.codes_ready.few (λ i. get_or S.keys i 0) (λ i. get_or Q.keys i 0) K.key last A.last_is a b c d);
        };
        entries = rw z (omega (arith, I.entries, fewer));
      };
      work_length = length-set work at row;
      less = rw z fewer;
      longer = g;
      cleared = rw z cleared;
      gone = b;
      others = d;
      fresh_at = e;
      fresh_last = f;
      higher_at = u;
      higher_last = v;
      same = λ prefixes B. rw z (ap (pass row (listed (dictionary_of file) row)) made ∙ pass_same prefixes B);
    }

    module _ (Q1 Q2 : Joins) (on1 : Q1.live ≡ L) (start : Q1.keys ≡ set S.keys next none) (longer1 : Longer S Q1) (count1 : Q1.count ≡ S.count)
        (R : Renewed P n len (set work at row) Q1 at after Q2) where
      at_code : get_or (set work at row) at 0 ≡ row
      at_code = get_or-set_same work at row 0 at_room

      next-room : next < length S.keys
      next-room = omega (arith, S.keys_room, next_below, K.codes_ready.few)

      next-key : get_or Q2.keys next 0 ≡ none
      next-key = R.others next (λ z. omega (arith, N.after)) ∙ rw start (get_or-set_same S.keys next none 0 next-room)

      key2 : NextKey (JoinKey P n) row (live (is_set L.words) (set work at row) (len - suc at) (suc at)) (get_or Q2.keys at 0)
      key2 = rw at_code at (renewed-key P n bits' len (set work at row) Q1 at after Q2 after-at R)

      higher2 : WhenBuilt P n (λ D. row < get_or Q2.keys at 0)
      higher2 prefixes B = ⊎_elim
          (λ l. above-left P n small row (get_or (set work at row) after 0) (get_or Q2.keys at 0) A.below (codes' after l) (rw at_code at (R.here l)) prefixes B)
          (λ l. omega (arith, R.last (omega (arith, A.after_is.most)), A.below, small))
          (lt_or_ge after len)

      others2 : (i : ℕ) → (i ≡ at → ⊥) → (i ≡ next → ⊥) → get_or Q2.keys i 0 ≡ get_or S.keys i 0
      others2 i a b = R.others i a ∙ rw start (get_or-set_other S.keys next i none 0 b)

      on2 : Q2.live ≡ L
      on2 = R.same_live ∙ on1

      longer2 : Longer S Q2
      longer2 = longer_trans S Q1 Q2 longer1 R.longer

      pub turned-first : last ≡ at → Turned P n len S work row last at next Q2 (set work at row)
      turned-first e = turned Q2 on2 longer2 (omega (arith, R.few, count1)) key2 next-key
          (λ l. absurd (omega arith)) (λ i a b c. others2 i a b) R.fresh (λ l. absurd (omega arith)) higher2 (λ l. absurd (omega arith))

      module _ (before : last < at) where
        -- what the second one needs
        pub second-ready : RenewReady P n len (set work at row) Q2 last at
        second-ready = record {
          tables = T;
          codes_ready = ready';
          room = omega (arith, I.entries, two, K.codes_ready.few, R.few, count1);
          at_below = omega (arith, at_below, before);
          next_below = omega (arith, at_below);
        }

        module _ (Q3 : Joins) (Z : Renewed P n len (set work at row) Q2 last at Q3) where
          last_code_lem : get_or (set work at row) last 0 ≡ get_or work last 0
          last_code_lem = get_or-set_other work at last row 0 (λ z. omega arith)

          at_same : get_or Q3.keys at 0 ≡ get_or Q2.keys at 0
          at_same = Z.others at (λ z. omega arith)

          fresh3 : (get_or Q3.keys at 0 ≡ none → ⊥) → Queued Q3.pool (get_or Q3.heads (get_or Q3.keys at 0) 0) at
          fresh3 s =
              let t : get_or Q2.keys at 0 ≡ none → ⊥ = λ z. s (at_same ∙ z) in
              rw at_same (Z.longer.moved (get_or Q2.keys at 0) at (below2 t) (R.fresh t))
            where
              below2 : (get_or Q2.keys at 0 ≡ none → ⊥) → get_or Q2.keys at 0 < 4096
              below2 t = ⊎_elim
                  (λ l. ⊎_elim (λ e. absurd (t e)) (λ m. omega (arith, small)) (R.here l).bound)
                  (λ l. absurd (t (R.last (omega (arith, A.after_is.most)))))
                  (lt_or_ge after len)

          higher3 : WhenBuilt P n (λ D. row < get_or Q3.keys last 0)
          higher3 prefixes B =
              above-right P n small (get_or (set work at row) last 0) row (get_or Q3.keys last 0) (codes' last (omega (arith, at_below, before))) A.below
              (rw at_code at (Z.here at_below)) prefixes B

          pub turned-last : Turned P n len S work row last at next Q3 (set work at row)
          turned-last = turned Q3 (Z.same_live ∙ on2) (longer_trans S Q2 Q3 longer2 Z.longer) (omega (arith, R.few, Z.few, count1))
              (rw at_same key2)
              (Z.others next (λ z. omega (arith, N.after, before)) ∙ next-key)
              (λ l. rw last_code_lem at (renewed-key P n bits' len (set work at row) Q2 last at Q3 (at_last l) Z))
              (λ i a b c. Z.others i (c before) ∙ others2 i a b)
              fresh3
              (λ l. Z.fresh)
              (λ prefixes B. rw at_same (higher2 prefixes B))
              (λ l. higher3)
