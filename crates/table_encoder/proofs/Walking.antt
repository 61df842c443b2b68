-- The walk from the end of a table of rows: its codes one by one, and the codes that are counted and written. Assumes nothing.
use mathlib.Core.Path.{◌≡◌, refl, sym, ap, ◌∙◌}
use mathlib.Core.Logic.{⊎_elim}
use mathlib.Core.List.{List, [], ◌∷◌, ◌++◌, append_assoc, append-nil}
use Prim.Native.Nat.{ℕ, zero, suc, ◌+◌, ◌-◌, ◌≤◌, ◌<◌}
use native.Mathlib.Nat.{eq-or-lt_of_le}
use native.Mathlib.Omega.{arith}
use lib.ListN.{length, length-append, get_or, set, take, get_or-append}
use lib.Seq.{length-take-le, take-suc, take-length, get_or_at, set_at}
use Rattle.theory.specs.Dictionary.{Dictionary, none, Octets}
use Rattle.theory.specs.Merge.{encode}
use Rattle.theory.specs.Table.{walk_back}
use Rattle.theory.proofs.Table.{walk_back-codes}
use Rattle.built_tables.specs.Built.{dictionary_of, Built}
use Rattle.built_tables.proofs.Rows.{lawful-is, known}
use Rattle.end_code.specs.Tables.{RowReady, RowsTo}
use Rattle.table_encoder.specs.LastCodes.{LastCodesTo}
use Rattle.table_encoder.specs.Walk.{walked, WalkReady, WriteReady}
use Rattle.end_code.proofs.Sizes.{row-some}
use Rattle.std.proofs.lemmas.List.{get_or_default}
use Rattle.tables.specs.Tables.{Tables}

module _ (file places : List ℕ) (n : ℕ) (table : List ℕ) (R : WalkReady file places n table) where
  abbrev D : Dictionary
  D = dictionary_of file

  abbrev m : ℕ
  m = length table

  entry : (e : ℕ) → e < m → get_or table e none ≡ get_or table e 0
  entry e h = get_or_default table e none 0 h

  pub walk-row : (e : ℕ) → e < m → RowReady file places n (get_or table e 0)
  walk-row e h = record { places_ready = R.places_ready; row = R.rows e h }

  -- fuel of one for each byte is enough
  same-walk : (k k' e : ℕ) → e ≤ k → e ≤ k' → e ≤ m → walk_back D k table e ≡ walk_back D k' table e
  same-walk zero zero e h h' l = refl
  same-walk zero (suc k') zero h h' l = refl
  same-walk zero (suc k') (suc e) h h' l = absurd (omega arith)
  same-walk (suc k) zero zero h h' l = refl
  same-walk (suc k) zero (suc e) h h' l = absurd (omega arith)
  same-walk (suc k) (suc k') zero h h' l = refl
  same-walk (suc k) (suc k') (suc e) h h' l =
      let c : ℕ = get_or table e none in
      let some : 0 < length (D.bytes c) = rw (entry e l) (row-some file places n (get_or table e 0) (walk-row e l)) in
      ap (λ (L : List ℕ). L ++ c ∷ []) (same-walk k k' (suc e - length (D.bytes c)) (omega arith) (omega arith) (omega arith))

  -- the codes of the first pos bytes
  abbrev pub front : ℕ → List ℕ
  front pos = walk_back D pos table pos

  -- one step of the walk
  pub record Step (pos c next : ℕ) : Type 0 where
    pub falls : next < pos
    pub codes : front pos ≡ front next ++ c ∷ []

  pub walked_step : (pos next : ℕ) → 0 < pos → pos ≤ m → next ≡ pos - length (D.bytes (get_or table (pos - 1) 0)) → Step pos (get_or table (pos - 1) 0) next
  walked_step zero next h l e = absurd (omega arith)
  walked_step (suc p) next h l e =
      let z : suc p - 1 ≡ p = omega arith in
      let c : ℕ = get_or table p 0 in
      let e' : next ≡ suc p - length (D.bytes c) = rw z at e in
      let some = row-some file places n c (walk-row p l) in
      record {
        falls = omega arith;
        codes = rw (entry p l, z, e') (ap (λ (L : List ℕ). L ++ c ∷ []) (same-walk p (suc p - length (D.bytes c)) (suc p - length (D.bytes c)) (omega arith) (omega arith) (omega arith)));
      }

  -- there are no more codes than bytes, and each is a row
  back-few : (k e : ℕ) → length (walk_back D k table e) ≤ k
  back-few zero e = omega arith
  back-few (suc k) zero = omega arith
  back-few (suc k) (suc e) =
      let c : ℕ = get_or table e none in
      let h = back-few k (suc e - length (D.bytes c)) in
      omega (arith, length-append (walk_back D k table (suc e - length (D.bytes c))) (c ∷ []))

  pub walked-few : length (walked file table) ≤ m
  unfolding walked
  walked-few = back-few m m

  row_last : (L : List ℕ) (c : ℕ) → RowsTo n L (length L) → c < n → RowsTo n (L ++ c ∷ []) (length (L ++ c ∷ []))
  row_last L c below here j h = ⊎_elim
      (λ e. let z : j ≡ length L = omega (arith, length-append L (c ∷ [])) in rw (z, get_or_at L c [] 0 (length L) refl) here)
      (λ l. let b : j < length L = omega (arith, length-append L (c ∷ [])) in rw (get_or-append L (c ∷ []) 0 j b) (below j b))
      (eq-or-lt_of_le h)

  back-rows : (k e : ℕ) → e ≤ m → RowsTo n (walk_back D k table e) (length (walk_back D k table e))
  back-rows zero e l = λ j h. absurd (omega arith)
  back-rows (suc k) zero l = λ j h. absurd (omega arith)
  back-rows (suc k) (suc e) l =
      let c : ℕ = get_or table e none in
      row_last (walk_back D k table (suc e - length (D.bytes c))) c (back-rows k (suc e - length (D.bytes c)) (omega arith)) (rw (entry e l) (R.rows e l))

  pub walked-rows : RowsTo n (walked file table) (length (walked file table))
  unfolding walked
  walked-rows = back-rows m m (omega arith)

module _ (file places : List ℕ) (n : ℕ) (table : List ℕ) where
  -- `count` codes are behind pos
  pub record Counting (count pos : ℕ) : Type 0 where
    pub ready : WalkReady file places n table
    pub within : pos ≤ length table
    pub total : count + length (front file places n table ready pos) ≡ length (walked file table)

  pub counting-start : WalkReady file places n table → Counting 0 (length table)
  unfolding walked
  counting-start R = record { ready = R; within = omega arith; total = omega arith }

  module _ (count pos : ℕ) (C : Counting count pos) where
    pub counting-fits : count ≤ length table
    counting-fits = omega (arith, C.total, walked-few file places n table C.ready)

    pub counting-end : pos ≤ 0 → count ≡ length (walked file table)
    counting-end h =
        let e : pos ≡ 0 = omega arith in
        omega (arith, C.total, ap (λ (p : ℕ). length (front file places n table C.ready p)) e)

    pub counting_more : (next : ℕ) → 0 < pos → next ≡ pos - length ((dictionary_of file).bytes (get_or table (pos - 1) 0)) → (next < pos) × Counting (count + 1) next
    counting_more next h e =
        let s = walked_step file places n table C.ready pos next h C.within e in
        let f = s.falls in (
          f,
          record {
            ready = C.ready;
            within = omega (arith, C.within);
            total = omega (arith, C.total, ap length s.codes, length-append (front file places n table C.ready next) (get_or table (pos - 1) 0 ∷ []));
          },
        )

  module _ (out₀ : List ℕ) where
    -- the codes behind pos are written, from `at` on
    pub record Writing (at pos : ℕ) (out : List ℕ) : Type 0 where
      pub ready : WriteReady file places n table out₀
      pub within : pos ≤ length table
      pub at_is : at ≡ length (front file places n table ready.walk pos)
      pub rest : List ℕ
      pub whole : walked file table ≡ front file places n table ready.walk pos ++ rest
      pub is : out ≡ take at out₀ ++ rest

    pub writing_start : WriteReady file places n table out₀ → Writing (length out₀) (length table) out₀
    unfolding walked
    writing_start Q = record {
      ready = Q;
      within = omega arith;
      at_is = Q.count_is;
      rest = [];
      whole = sym (append-nil (walked file table));
      is = sym (append-nil (take (length out₀) out₀) ∙ take-length out₀);
    }

    module _ (at pos : ℕ) (out : List ℕ) (S : Writing at pos out) where
      abbrev before : ℕ → List ℕ
      before = front file places n table S.ready.walk

      sizes : at + length S.rest ≡ length out₀
      sizes = omega (arith, S.at_is, S.ready.count_is, ap length S.whole, length-append (before pos) S.rest)

      pub writing_length : length out ≡ length out₀
      writing_length =
          let z = sizes in
          ap length S.is ∙ simp (length-append, length-take-le at out₀ (omega arith)) (omega arith)

      pub writing_end : pos ≤ 0 → out ≡ walked file table
      writing_end h =
          let e : pos ≡ 0 = omega arith in
          let none_left : before pos ≡ [] = ap before e in
          let z : at ≡ 0 = S.at_is ∙ ap length none_left in
          let all : walked file table ≡ S.rest = S.whole ∙ ap (λ (L : List ℕ). L ++ S.rest) none_left in
          S.is ∙ rw (z, all)

      module _ (h : 0 < pos) where
        abbrev code : ℕ
        code = get_or table (pos - 1) 0

        abbrev next_pos : ℕ
        next_pos = pos - length ((dictionary_of file).bytes code)

        step : Step file places n table S.ready.walk pos code next_pos
        step = walked_step file places n table S.ready.walk pos next_pos h S.within refl

        -- one place is left for the code, in the output
        pub writing_place : (at ≡ length (before next_pos) + 1) × (at ≤ length out)
        writing_place = (
          omega (arith, S.at_is, ap length step.codes, length-append (before next_pos) (code ∷ [])),
          omega (arith, sizes, writing_length),
        )

        pub writing_more : (next : ℕ) → next ≡ next_pos → (next < pos) × Writing (at - 1) next (set out (at - 1) code)
        writing_more next e =
            let f = step.falls in
            let w = writing_place in
            let l = writing_length in
            let z : suc (at - 1) ≡ at = omega arith in
            let old : ℕ = get_or out₀ (at - 1) 0 in
            let front_is : take at out₀ ≡ take (at - 1) out₀ ++ old ∷ [] = rw z at (take-suc out₀ (at - 1) 0 (omega arith)) in
            let split : out ≡ take (at - 1) out₀ ++ old ∷ S.rest = S.is ∙ ap (λ (L : List ℕ). L ++ S.rest) front_is ∙ append_assoc (take (at - 1) out₀) (old ∷ []) S.rest in (
              omega arith,
              record {
                ready = S.ready;
                within = omega (arith, S.within);
                at_is = rw e (omega arith);
                rest = code ∷ S.rest;
                whole = rw e (S.whole ∙ ap (λ (L : List ℕ). L ++ S.rest) step.codes ∙ append_assoc (before next_pos) (code ∷ []) S.rest);
                is = ap (λ (L : List ℕ). set L (at - 1) code) split ∙ set_at (take (at - 1) out₀) old S.rest code (at - 1) (length-take-le (at - 1) out₀ (omega arith));
              },
            )

-- behind true last codes the walk gives the codes of the merge procedure
pub walked-codes : (T : Tables) (n : ℕ) (text table : List ℕ) → Built T n → Octets text
    → length table ≡ length text → LastCodesTo T.file text table (length text) → walked T.file table ≡ encode (dictionary_of T.file) text
unfolding walked
walked-codes T n text table B o size agree =
    rw size (walk_back-codes (dictionary_of T.file) (lawful-is T n B) text (known T n B text o) (length text) (length text) table (omega arith) (omega arith)
    (λ j h. get_or_default table j none 0 (omega (arith, size)) ∙ agree j h))
    ∙ ap (encode (dictionary_of T.file)) (take-length text)
