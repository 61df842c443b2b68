-- Backtracking gives the merge procedure's codes, takes back no code from an empty stack, and ends. Each state on the way meets Going.
use mathlib.Core.Path.{◌≡◌, refl, sym, ap, ◌∙◌}
use mathlib.Core.Logic.{◌⊎◌, inl, inr}
use mathlib.Core.List.{List, [], ◌∷◌, ◌++◌, append-nil, append_assoc}
use mathlib.Core.Option.{Option, none, some}
use mathlib.Core.Bool.{Bool, true, false, not, ◌&&◌, ◌||◌}
use Prim.Native.Nat.{ℕ, zero, suc, ◌+◌, ◌-◌, ◌*◌, ◌≤◌, ◌<◌}
use native.Mathlib.Omega.{arith}
use lib.ListN.{length, length-append, length-drop, take, drop}
use lib.Seq.{take_at, drop_at}
use lib.Dec.{eqb}
use borrow.Author.Tests.{not-true}
use Rattle.theory.specs.Lists.{last_or, In}
use Rattle.theory.specs.Dictionary.{Dictionary, spell, AllRows, KnownText}
use Rattle.theory.specs.Merge.{encode}
use Rattle.theory.specs.PairCheck.{passes, AllPass}
use Rattle.theory.specs.Parts.{rows_at, prefixes}
use Rattle.theory.specs.Backtracking.{State, mark, codes, place, follows, first_fit, take_back, add, step, start, is_nil, finished, run, backtrack}
use Rattle.theory.proofs.Lists.{nil-cons, true-false, last_or_append, bool_cases, and_both}
use Rattle.theory.proofs.Stage as St
use Rattle.theory.proofs.PairCheck.{Lawful}
use Rattle.theory.proofs.Neighbours.{spell_snoc}
use Rattle.theory.proofs.Encode.{encode-passes, encode-spells, encode-rows, encode-nil, encode-parts, encode-append}
use Rattle.theory.proofs.RowsAt.{different, Beginning, rows_in, rows-every, rows-some, filled}
use Rattle.theory.proofs.Candidates.{in_append, in_mid, fits, First, first_some, first-none, Chain, chain-after, chain-rows}
use Rattle.theory.proofs.Places.{mark-other, AllLive, alive-mark, steps_left, steps_left-le, added-falls, taken-falls}

module _ (D : Dictionary) (t : List ℕ) where
  -- a row begins the text behind the codes of K
  abbrev pub Behind : List ℕ → ℕ → Type 0
  Behind K c = Beginning D (length (drop (place D K) t)) (drop (place D K) t) c

  -- each row that begins the text behind K and is not one of these fails with the last code of K or ends at a dead place
  abbrev pub Tried : List ℕ → (ℕ → Bool) → List ℕ → Type 0
  Tried K dead cs = (c : ℕ) → Behind K c → (In c cs → ⊥) → fits D K dead c ≡ false

  -- the same where each code of a stack was added, of what is tried there once it is taken back
  abbrev pub AllTried : List ℕ → (ℕ → Bool) → Type 0
  AllTried [] dead = Unit {0}
  AllTried (c ∷ K) dead = Tried K dead (c ∷ prefixes D c) × AllTried K dead

  -- a state on the way
  pub record Going (s : State) : Type 0 where
    -- (B1) the codes so far are rows, the merge procedure's for what they spell, and that begins the text
    pub rows : AllRows D s.stack
    pub own : encode D (spell D (codes s.stack)) ≡ codes s.stack
    pub text : t ≡ spell D (codes s.stack) ++ drop (place D s.stack) t
    -- (B2) no code so far ends at a dead place, and no code of the text does
    pub alive : AllLive D s.stack s.dead
    pub cuts : (X Y : List ℕ) → encode D t ≡ X ++ Y → s.dead (length (spell D X)) ≡ false
    -- there is a next row but at the text's end: one row and then its prefixes, and all of them begin what is left of the text
    pub end : s.next ≡ [] → place D s.stack ≡ length t
    pub chain : Chain D s.next
    pub begin : (c : ℕ) → In c s.next → Behind s.stack c
    -- (B3) the other rows fail here, and where each code was added
    pub tried : Tried s.stack s.dead s.next
    pub before : AllTried s.stack s.dead

  pub step-add : (s : State) (c : ℕ) → first_fit D s.stack s.dead s.next ≡ some c → step D t s ≡ add D t c s.stack s.dead
  step-add s c e = rw (e, step)

  pub step_back : (s : State) → first_fit D s.stack s.dead s.next ≡ none → step D t s ≡ take_back D s.stack s.dead
  step_back s e = rw (e, step)

pub codes_length : (K : List ℕ) → length (codes K) ≡ length K
codes_length [] = refl
codes_length (c ∷ K) = omega (arith, length-append (codes K) (c ∷ []), codes_length K)

module _ (D : Dictionary) where
  pub place_is : (K : List ℕ) → length (spell D (codes K)) ≡ place D K
  place_is [] = refl
  place_is (c ∷ K) = ap length (spell_snoc D (codes K) c) ∙ length-append (spell D (codes K)) (D.bytes c) ∙ ap (λ (z : ℕ). z + length (D.bytes c)) (place_is K)

  rows_mid : (X : List ℕ) (c : ℕ) (Y : List ℕ) → AllRows D (X ++ c ∷ Y) → c < D.count
  rows_mid [] c Y a = a.0
  rows_mid (x ∷ X) c Y a = rows_mid X c Y a.1

  passes_mid : (X : List ℕ) (x c : ℕ) (Y : List ℕ) → AllPass D (X ++ x ∷ c ∷ Y) → passes D D.count x c ≡ true
  passes_mid [] x c Y a = a.1
  passes_mid (z ∷ []) x c Y a = passes_mid [] x c Y a.2
  passes_mid (z ∷ z' ∷ X) x c Y a = passes_mid (z' ∷ X) x c Y a.2

  follows_mid : (K : List ℕ) (c : ℕ) (Y : List ℕ) → AllPass D (codes K ++ c ∷ Y) → follows D K c ≡ true
  follows_mid [] c Y a = refl
  follows_mid (x ∷ K) c Y a = passes_mid (codes K) x c Y (rw append_assoc at a)

  follows-last : (K : List ℕ) (c : ℕ) → encode D (spell D (codes K)) ≡ codes K → follows D K c ≡ true
      → (spell D (codes K) ≡ []) ⊎ (passes D D.count (last_or c (encode D (spell D (codes K)))) c ≡ true)
  follows-last [] c e f = inl refl
  follows-last (x ∷ K) c e f = inr (rw (e, last_or_append c c (codes K) (x ∷ []) (λ z. nil-cons (sym z))) f)

  pub known-parts : (a b : List ℕ) → KnownText D (a ++ b) → KnownText D a × KnownText D b
  known-parts [] b k = (tt, k)
  known-parts (x ∷ a) b k = let q = known-parts a b k.1 in ((k.0, q.0), q.1)

  fails-mark : (a b c : Bool) → a && not c ≡ false → a && not (b || c) ≡ false
  fails-mark false b c e = refl
  fails-mark true true c e = refl
  fails-mark true false c e = e

  module _ (t : List ℕ) where
    behind : (K : List ℕ) (c : ℕ) (r : List ℕ) → c < D.count → drop (place D K) t ≡ D.bytes c ++ r → Behind D t K c
    behind K c r h e = record { known = h; short = omega (arith, ap length e, length-append (D.bytes c) r); rest = r; begins = e }

    rest-is : (K r : List ℕ) → t ≡ spell D (codes K) ++ r → drop (place D K) t ≡ r
    rest-is K r e = ap (drop (place D K)) e ∙ drop_at (spell D (codes K)) r (place D K) (place_is K)

    text-here : (K r : List ℕ) → t ≡ spell D (codes K) ++ r → t ≡ spell D (codes K) ++ drop (place D K) t
    text-here K r e = e ∙ ap (λ (l : List ℕ). spell D (codes K) ++ l) (sym (rest-is K r e))

    text-more : (K : List ℕ) (c : ℕ) (r : List ℕ) → t ≡ spell D (codes K) ++ drop (place D K) t → drop (place D K) t ≡ D.bytes c ++ r → t ≡ spell D (codes (c ∷ K)) ++ r
    text-more K c r e f = e
        ∙ ap (λ (l : List ℕ). spell D (codes K) ++ l) f
        ∙ sym (append_assoc (spell D (codes K)) (D.bytes c) r)
        ∙ ap (λ (l : List ℕ). l ++ r) (sym (spell_snoc D (codes K) c))

    text-less : (K : List ℕ) (c : ℕ) (r : List ℕ) → t ≡ spell D (codes (c ∷ K)) ++ r → t ≡ spell D (codes K) ++ (D.bytes c ++ r)
    text-less K c r e = e ∙ ap (λ (l : List ℕ). l ++ r) (spell_snoc D (codes K) c) ∙ append_assoc (spell D (codes K)) (D.bytes c) r

    -- more dead places: what failed fails
    tried-mark : (i : ℕ) (dead : ℕ → Bool) (K cs : List ℕ) → Tried D t K dead cs → Tried D t K (mark dead i) cs
    tried-mark i dead K cs h c b n = fails-mark (follows D K c) (eqb (place D (c ∷ K)) i) (dead (place D (c ∷ K))) (h c b n)

    all_tried_mark : (i : ℕ) (dead : ℕ → Bool) (K : List ℕ) → AllTried D t K dead → AllTried D t K (mark dead i)
    all_tried_mark i dead [] h = tt
    all_tried_mark i dead (c ∷ K) h = (tried-mark i dead K (c ∷ prefixes D c) h.0, all_tried_mark i dead K h.1)

    -- the place of a state is in the text
    pub going_place : (s : State) → Going D t s → place D s.stack ≤ length t
    going_place s g = omega (arith, ap length g.text, length-append (spell D (codes s.stack)) (drop (place D s.stack) t), place_is s.stack)

    -- a finished state has the text's codes
    pub going_end : (s : State) → Going D t s → finished D t s ≡ true → codes s.stack ≡ encode D t
    going_end s g e = sym g.own ∙ ap (encode D) (sym whole)
      where
        empty : (cs : List ℕ) → is_nil D t cs ≡ true → cs ≡ []
        empty [] f = refl
        empty (c ∷ cs) f = absurd (true-false (sym f))

        none_left : (l : List ℕ) → length l ≡ 0 → l ≡ []
        none_left [] h = refl
        none_left (x ∷ l) h = absurd (omega arith)

        whole : t ≡ spell D (codes s.stack)
        whole = g.text
            ∙ ap (λ (l : List ℕ). spell D (codes s.stack) ++ l) (none_left (drop (place D s.stack) t) (omega (arith, length-drop (place D s.stack) t, g.end (empty s.next e))))
            ∙ append-nil (spell D (codes s.stack))

module _ (D : Dictionary) (A : Lawful D) (t : List ℕ) where
  -- a state that is not finished has text left
  pub going_left : (s : State) → Going D t s → finished D t s ≡ false → place D s.stack < length t
  going_left s g e = go s.next g.begin e
    where
      go : (cs : List ℕ) → ((c : ℕ) → In c cs → Behind D t s.stack c) → is_nil D t cs ≡ false → place D s.stack < length t
      go [] b f = absurd (true-false f)
      go (c ∷ cs) b f = let q = b c (inl refl) in omega (arith, q.short, filled D A c, length-drop (place D s.stack) t)

  -- with all rows next, there are no others
  fresh : (K : List ℕ) (dead : ℕ → Bool) → Tried D t K dead (rows_at D (drop (place D K) t))
  fresh K dead c b n = absurd (n (rows-every D (different D A) (length (drop (place D K) t)) (drop (place D K) t) c b.rest b.known b.begins b.short))

  -- behind the first that fits stand its prefixes, and the rows before it do not fit
  tried-more : (K : List ℕ) (dead : ℕ → Bool) (cs : List ℕ) (c : ℕ) → Chain D cs → First D K dead cs c → Tried D t K dead cs → Tried D t K dead (c ∷ prefixes D c)
  tried-more K dead cs c ch q h d b n = bool_cases (fits D K dead d)
      (λ f. absurd (true-false (sym f ∙ h d b (λ m. other f (in_append d q.before (c ∷ q.after) (rw q.split at m))))))
      (λ f. f)
    where
      after : q.after ≡ prefixes D c
      after = chain-after D A q.before c q.after (rw q.split at ch)

      other : fits D K dead d ≡ true → In d q.before ⊎ In d (c ∷ q.after) → ⊥
      other f (inl m) = true-false (sym f ∙ q.skipped d m)
      other f (inr m) = n (rw after at m)

  module _ (k : KnownText D t) where
    parts-known : (K : List ℕ) → t ≡ spell D (codes K) ++ drop (place D K) t → KnownText D (spell D (codes K)) × KnownText D (drop (place D K) t)
    parts-known K e = known-parts D (spell D (codes K)) (drop (place D K) t) (rw e at k)

    rows_end : (K : List ℕ) → t ≡ spell D (codes K) ++ drop (place D K) t → rows_at D (drop (place D K) t) ≡ [] → place D K ≡ length t
    rows_end K e f = go (drop (place D K) t) e (parts-known K e).1 f
      where
        go : (r : List ℕ) → t ≡ spell D (codes K) ++ r → KnownText D r → rows_at D r ≡ [] → place D K ≡ length t
        go [] e' h f' = omega (arith, ap length e', length-append (spell D (codes K)) [], place_is D K)
        go (b ∷ r) e' h f' = let m : In (D.code b) [] = rw f' at (rows-some D A b r h.0) in absurd m

    pub going_start : Going D t (start D t)
    going_start = record {
      rows = tt;
      own = encode-nil D A;
      text = refl;
      alive = tt;
      cuts = λ X Y e. refl;
      end = rows_end [] refl;
      chain = chain-rows D A t;
      begin = rows_in D (length t) t;
      tried = fresh [] (λ _. false);
      before = tt;
    }

    -- the first row that fits is added
    going_add : (s : State) (c : ℕ) → Going D t s → First D s.stack s.dead s.next c → Going D t (add D t c s.stack s.dead)
    going_add s c g q = record {
      rows = (b.known, g.rows);
      own = ap (encode D) (spell_snoc D (codes s.stack) c)
          ∙ encode-append D A (spell D (codes s.stack)) c (parts-known s.stack g.text).0 b.known (follows-last D s.stack c g.own f.0)
          ∙ ap (λ (l : List ℕ). l ++ c ∷ []) g.own;
      text = longer;
      alive = (not-true (s.dead (place D (c ∷ s.stack))) f.1, g.alive);
      cuts = g.cuts;
      end = rows_end (c ∷ s.stack) longer;
      chain = chain-rows D A (drop (place D (c ∷ s.stack)) t);
      begin = rows_in D (length (drop (place D (c ∷ s.stack)) t)) (drop (place D (c ∷ s.stack)) t);
      tried = fresh (c ∷ s.stack) s.dead;
      before = (tried-more s.stack s.dead s.next c g.chain q g.tried, g.before);
    }
      where
        b : Behind D t s.stack c
        b = g.begin c (rw q.split (in_mid q.before c q.after))

        f : (follows D s.stack c ≡ true) × (not (s.dead (place D (c ∷ s.stack))) ≡ true)
        f = and_both (follows D s.stack c) (not (s.dead (place D (c ∷ s.stack)))) q.fit

        longer : t ≡ spell D (codes (c ∷ s.stack)) ++ drop (place D (c ∷ s.stack)) t
        longer = text-here D t (c ∷ s.stack) b.rest (text-more D t s.stack c b.rest g.text b.begins)

    -- where nothing fits, no code of the text ends
    no_cut : (s : State) → Going D t s → finished D t s ≡ false → first_fit D s.stack s.dead s.next ≡ none
        → (X Y : List ℕ) → encode D t ≡ X ++ Y → length (spell D X) ≡ place D s.stack → ⊥
    no_cut s g u n X Y e h = go Y e
      where
        text : (Y : List ℕ) → encode D t ≡ X ++ Y → t ≡ spell D X ++ spell D Y
        text Y e = sym (encode-spells D A t) ∙ ap (spell D) e ∙ St.spell-append D X Y

        same : spell D X ≡ spell D (codes s.stack)
        same = sym (take_at (spell D X) (spell D Y) (place D s.stack) h)
            ∙ ap (take (place D s.stack)) (sym (text Y e) ∙ g.text)
            ∙ take_at (spell D (codes s.stack)) (drop (place D s.stack) t) (place D s.stack) (place_is D s.stack)

        is : X ≡ codes s.stack
        is = sym (encode-parts D A t X Y e).0 ∙ ap (encode D) same ∙ g.own

        go : (Y : List ℕ) → encode D t ≡ X ++ Y → ⊥
        go [] e = omega (arith, ap length (text [] e), length-append (spell D X) [], going_left s g u)
        go (c ∷ Y) e =
            let hc : c < D.count = rows_mid D X c Y (rw e at (encode-rows D A t k)) in
            let p : AllPass D (encode D t) = encode-passes D A t k in
            let f : follows D s.stack c ≡ true = follows_mid D s.stack c Y (rw (e, is) at p) in
            let z : length (spell D (X ++ c ∷ [])) ≡ place D (c ∷ s.stack) =
            ap length (spell_snoc D X c) ∙ length-append (spell D X) (D.bytes c) ∙ ap (λ (z : ℕ). z + length (D.bytes c)) h in
            let l : s.dead (place D (c ∷ s.stack)) ≡ false = ap s.dead (sym z) ∙ g.cuts (X ++ c ∷ []) Y (e ∙ sym (append_assoc X (c ∷ []) Y)) in
            let fit : fits D s.stack s.dead c ≡ true = rw (f, l) in
            let r : drop (place D s.stack) t ≡ D.bytes c ++ spell D Y = ap (drop (place D s.stack)) (text (c ∷ Y) e) ∙ drop_at (spell D X) (spell D (c ∷ Y)) (place D s.stack) h in
            true-false (sym fit ∙ g.tried c (behind D t s.stack c (spell D Y) hc r) (λ m. true-false (sym fit ∙ first-none D s.stack s.dead s.next n c m)))

    -- so the stack is not empty there
    pub going_filled : (s : State) → Going D t s → finished D t s ≡ false → first_fit D s.stack s.dead s.next ≡ none → s.stack ≡ [] → ⊥
    going_filled s g u n e = no_cut s g u n [] (encode D t) refl (sym (ap (place D) e))

    -- the place is marked dead and the last code taken back
    going_back : (s : State) (c : ℕ) (K : List ℕ) → s.stack ≡ c ∷ K → Going D t s
        → ((X Y : List ℕ) → encode D t ≡ X ++ Y → length (spell D X) ≡ place D s.stack → ⊥) → Going D t (take_back D (c ∷ K) s.dead)
    going_back s c K e g n = record {
      rows = (rw e at g.rows).1;
      own = (encode-parts D A (spell D (codes (c ∷ K))) (codes K) (c ∷ []) (rw e at g.own)).0;
      text = text-here D t K (D.bytes c ++ r) less;
      alive = alive-mark D (place D (c ∷ K)) s.dead K (omega (arith, filled D A c)) (rw e at g.alive).1;
      cuts = λ X Y f. mark-other s.dead (place D (c ∷ K)) (length (spell D X)) (λ h. n X Y f (h ∙ ap (place D) (sym e))) ∙ g.cuts X Y f;
      end = λ z. absurd (nil-cons (sym z));
      chain = refl;
      begin = begin;
      tried = tried-mark D t (place D (c ∷ K)) s.dead K (c ∷ prefixes D c) (rw e at g.before).0;
      before = all_tried_mark D t (place D (c ∷ K)) s.dead K (rw e at g.before).1;
    }
      where
        r : List ℕ
        r = drop (place D (c ∷ K)) t

        less : t ≡ spell D (codes K) ++ (D.bytes c ++ r)
        less = text-less D t K c r (rw e at g.text)

        rest : drop (place D K) t ≡ D.bytes c ++ r
        rest = rest-is D t K (D.bytes c ++ r) less

        begin : (d : ℕ) → In d (c ∷ prefixes D c) → Behind D t K d
        begin d (inl f) = rw f (behind D t K c r (rw e at g.rows).0 rest)
        begin d (inr m) =
            let b = rows_in D (length (D.bytes c) - 1) (D.bytes c) d m in
            behind D t K d (b.rest ++ r) b.known (rest ∙ ap (λ (l : List ℕ). l ++ r) b.begins ∙ append_assoc (D.bytes d) b.rest r)

    -- what a step does to a state on the way: it adds a code that is found, or takes back the last one
    stepped : (s : State) → Going D t s → finished D t s ≡ false → (P : State → Type 0)
        → ((c : ℕ) → First D s.stack s.dead s.next c → P (add D t c s.stack s.dead))
        → ((c : ℕ) (K : List ℕ) → s.stack ≡ c ∷ K → first_fit D s.stack s.dead s.next ≡ none → P (take_back D (c ∷ K) s.dead))
        → P (step D t s)
    stepped s g u P a b = go (first_fit D s.stack s.dead s.next) refl s.stack refl
      where
        go : (o : Option ℕ) → first_fit D s.stack s.dead s.next ≡ o → (K : List ℕ) → s.stack ≡ K → P (step D t s)
        go (some c) e K f = rw (step-add D t s c e) (a c (first_some D s.stack s.dead s.next c e))
        go none e [] f = absurd (going_filled s g u e f)
        go none e (c ∷ K) f = rw (step_back D t s e, f) (b c K f e)

    -- a step leads to another state on the way
    pub going_step : (s : State) → Going D t s → finished D t s ≡ false → Going D t (step D t s)
    going_step s g u = stepped s g u (Going D t) (λ c q. going_add s c g q) (λ c K f e. going_back s c K f g (no_cut s g u e))

    -- and leaves one step less
    pub going_falls : (s : State) → Going D t s → finished D t s ≡ false → suc (steps_left D t (step D t s).stack (step D t s).dead) ≡ steps_left D t s.stack s.dead
    going_falls s g u = stepped s g u (λ r. suc (steps_left D t r.stack r.dead) ≡ steps_left D t s.stack s.dead)
        (λ c q. let h = going_add s c g q in added-falls D (filled D A) t c s.stack s.dead h.alive (going_place D t (add D t c s.stack s.dead) h))
        (λ c K f e. rw f (taken-falls D (filled D A) t c K s.dead (rw f at g.alive) (rw f at (going_place D t s g))))

    -- every state that is reached is on the way
    pub going_run : (j : ℕ) (s : State) → Going D t s → Going D t (run D t j s)
    going_run zero s g = g
    going_run (suc j) s g = go (finished D t s) refl (going_run j (step D t s))
      where
        go : (b : Bool) → finished D t s ≡ b → (Going D t (step D t s) → Going D t (run D t j (step D t s))) → Going D t (run D t (suc j) s)
        go true e ih = rw (e, run) g
        go false e ih = rw (e, run) (ih (going_step s g e))

    -- no step takes back a code from an empty stack
    pub never-empty : (j : ℕ) → finished D t (run D t j (start D t)) ≡ false
        → first_fit D (run D t j (start D t)).stack (run D t j (start D t)).dead (run D t j (start D t)).next ≡ none → (run D t j (start D t)).stack ≡ [] → ⊥
    never-empty j = going_filled (run D t j (start D t)) (going_run j (start D t) going_start)

    -- the steps that are left are enough
    pub run_ends : (f : ℕ) (s : State) → Going D t s → steps_left D t s.stack s.dead ≤ f → finished D t (run D t f s) ≡ true
    run_ends zero s g h = bool_cases (finished D t s) (λ e. e) (λ e. absurd (omega (arith, going_falls s g e)))
    run_ends (suc f) s g h = go (finished D t s) refl (run_ends f (step D t s))
      where
        go : (b : Bool) → finished D t s ≡ b
            → (Going D t (step D t s) → steps_left D t (step D t s).stack (step D t s).dead ≤ f → finished D t (run D t f (step D t s)) ≡ true) → finished D t (run D t (suc f) s) ≡ true
        go true e ih = rw (e, run) e
        go false e ih = rw (e, run) (ih (going_step s g e) (omega (arith, going_falls s g e)))

    -- twice as many steps as bytes are enough, and more change nothing
    pub run-finished : (f : ℕ) → 2 * length t ≤ f → finished D t (run D t f (start D t)) ≡ true
    run-finished f h = run_ends f (start D t) going_start (omega (arith, steps_left-le D t [] (λ _. false)))

    pub run-codes : (f : ℕ) → 2 * length t ≤ f → codes (run D t f (start D t)).stack ≡ encode D t
    run-codes f h = going_end D t (run D t f (start D t)) (going_run f (start D t) going_start) (run-finished f h)

    -- backtracking gives the merge procedure's codes
    pub backtrack-is : backtrack D t ≡ encode D t
    unfolding backtrack
    backtrack-is = run-codes (2 * length t) (omega arith)
