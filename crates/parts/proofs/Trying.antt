-- The rows that begin a row are tried, longest first: what each of them gives, and what is left. Assumes nothing.
use mathlib.Core.Path.{◌≡◌, sym, ap, ap₂, ◌∙◌}
use mathlib.Core.Logic.{◌⊎◌, inl, inr, ⊎_elim}
use mathlib.Core.List.{List, [], ◌∷◌, ◌++◌}
use mathlib.Core.Bool.{Bool, true, false}
use mathlib.Core.Option.{Option, some}
use Prim.Native.Nat.{ℕ, ◌-◌, ◌≤◌, ◌<◌}
use native.Mathlib.Omega.{arith}
use lib.ListN.{length, length-append, length-drop, get_or, take, drop}
use lib.Seq.{take_all}
use lib.Dec.{ltb}
use borrow.Author.Tests.{lt-ltb, le-ltb, ltb-true}
use Rattle.theory.specs.Dictionary.{Dictionary, none}
use Rattle.theory.specs.Parts.{Parts, part_or, bytes_of, with_parts, rest_of, are_parts_of, first_parts, parts_of, parts_below, prefixes}
use Rattle.theory.proofs.Lists.{bool_cases, lt_or_ge}
use Rattle.theory.proofs.Merge.{row_below-is}
use Rattle.theory.proofs.RowsAt.{row-found}
use Rattle.theory.proofs.Accepted.{parts_at}
use Rattle.phrase_file.specs.Form.{rows}
use Rattle.placed_rows.specs.Rows.{row}
use Rattle.placed_rows.specs.Texts.{Begins}
use Rattle.placed_rows.proofs.Beginning.{begins-length, through, whole, beyond}
use Rattle.tables.specs.Tables.{PairTables, pair_tables}
use Rattle.tables.specs.Ready.{PartsReady}
use Rattle.search_area.specs.Answers.{Found}
use Rattle.pair_check.specs.Pair.{Tells, PairReady, PairIs}
use Rattle.std.specs.Bool.{then_some}
use Rattle.parts.specs.Found.{RightPart}
use Rattle.parts.specs.Parts.{parts_in, PrefixesFound, RowParts, NoParts, Looking, Beginner, Fails, Passes}
use Rattle.parts.proofs.Prefixes.{bytes_are, row-bytes, different, prefix_cases}

-- a one-byte row has itself twice
parts-single : (rs : List (List ℕ)) (w : ℕ) → length (bytes_of rs w) ≤ 1 → parts_in rs w ≡ some (record { left = w; right = w })
parts-single rs w h = rw (le-ltb 1 (length (bytes_of rs w)) h, parts_of)

-- for a longer row, the rows that begin it are tried
parts-longer : (rs : List (List ℕ)) (w : ℕ) → 1 < length (bytes_of rs w) → parts_in rs w ≡ first_parts rs (parts_below rs w) w (prefixes (with_parts rs (parts_below rs w)) w)
parts-longer rs w h = rw (lt-ltb 1 (length (bytes_of rs w)) h, parts_of)

-- parts that are the same have the same left and the same right one
parts_same : (p q : Parts) → some p ≡ some q → (p.left ≡ q.left) × (p.right ≡ q.right)
parts_same p q e = (ap (part_or (λ x. x.left) 0) e, ap (part_or (λ x. x.right) 0) e)

module _ (P : PairTables) (n w : ℕ) (L : Looking P n w) where
  open P use {file, places, lefts, rights, area}

  abbrev known : List (Option Parts)
  known = parts_below (rows file) w

  abbrev D : Dictionary
  D = with_parts (rows file) known

  own : (c : ℕ) → c < n → bytes_of (rows file) c ≡ get_or (rows file) c []
  own = bytes_are file places n L.rows_found.places_ready

  given : (c : ℕ) → c < n → row file places n c ≡ get_or (rows file) c []
  given = L.rows_found.places_ready.rows_are

  read : (c : ℕ) → c < n → row file places n c ≡ bytes_of (rows file) c
  read = row-bytes file places n L.rows_found.places_ready

  -- the tables have the parts of the rows before row w: they may be read, and tell them
  parts_ready : PartsReady file lefts rights w
  parts_ready = record {
    left_room = L.known.left_room;
    right_room = L.known.right_room;
    single = λ c h e.
        parts_same (record { left = get_or lefts c 0; right = get_or rights c 0 }) (record { left = c; right = c })
        (sym (L.known.parts c h).are ∙ parts-single (rows file) c (omega (arith, ap length (own c (let k = L.row_below in omega arith)))));
    lower = λ c h e.
        let j = (L.known.parts c h).longer e in
        record { left = j.left_below; right = j.right_below; sizes = sym (length-append (get_or (rows file) (get_or lefts c 0) []) (get_or (rows file) (get_or rights c 0) [])) ∙ ap length j.joined };
  }

  left_is : (c : ℕ) → c < w → get_or lefts c 0 ≡ D.left c
  left_is c h = sym (ap (part_or (λ p. p.left) c) (parts_at (rows file) w c h ∙ (L.known.parts c h).are))

  right_is : (c : ℕ) → c < w → get_or rights c 0 ≡ D.right c
  right_is c h = sym (ap (part_or (λ p. p.right) c) (parts_at (rows file) w c h ∙ (L.known.parts c h).are))

  tells : Tells D file lefts rights w
  tells =
      let k = L.row_below in
      record {
        bytes = λ c h. own c (omega arith);
        long = λ c h. ap (λ (l : List ℕ). ltb 1 (length l)) (own c (omega arith));
        left = left_is;
        right = right_is;
        joined = λ c h e.
            let j = (L.known.parts c h).longer (ltb-true 1 _ (sym (ap (λ (l : List ℕ). ltb 1 (length l)) (own c (omega arith))) ∙ e)) in
            ap₂ (λ (x y : ℕ). bytes_of (rows file) x ++ bytes_of (rows file) y) (sym (left_is c h)) (sym (right_is c h))
            ∙ ap₂ (λ (x y : List ℕ). x ++ y) (own (get_or lefts c 0) (omega (arith, j.left_below))) (own (get_or rights c 0) (omega (arith, j.right_below)))
            ∙ j.joined ∙ sym (own c (omega arith));
      }

  -- row c begins row w, and find answers r for the rest
  module _ (c r : ℕ) (B : Beginner file places n w c) where
    abbrev rest : List ℕ
    rest = drop (length (bytes_of (rows file) c)) (bytes_of (rows file) w)

    -- the rest, as code cuts it out of the row
    module _ (from : ℕ) (bytes : List ℕ) (e : bytes ≡ row file places n w) (f : from ≡ length (row file places n c)) where
      pub inside : from ≤ length bytes
      inside = rw (e, f) (begins-length (row file places n c) (row file places n w) B.begins)

      pub found-rest : Found file places n area (take (length bytes - from) (drop from bytes)) r → Found file places n area (drop (length (bytes_of (rows file) c)) (bytes_of (rows file) w)) r
      found-rest = rw (
        take_all (length bytes - from) (drop from bytes) (omega (arith, length-drop from bytes)),
        f ∙ ap length (read c B.row_below),
        e ∙ read w L.row_below,
      ) (λ F. F)

    module _ (F : Found file places n area rest r) where
      -- a row is found where the rest is one
      rest-is : r < n → rest_of (rows file) known w c ≡ r
      rest-is h =
          let i = (F.found L.rows_found.finds).is (λ z. let f = L.rows_found.places_ready.placed.few in omega arith) in
          row-found D (different file places n L.rows_found.places_ready L.rows_found.distinct known) r rest (let e = L.rows_found.places_ready.count in omega arith) (sym (read r h) ∙ i.1)

      rest-found : rest_of (rows file) known w c < w → rest_of (rows file) known w c ≡ r
      rest-found h =
          let k = L.row_below in
          let e = L.rows_found.places_ready.count in
          let m : rest_of (rows file) known w c < n = omega arith in
          let b : row file places n (rest_of (rows file) known w c) ≡ rest = read (rest_of (rows file) known w c) m ∙ row_below-is D (length (rows file)) rest (omega arith) in
          ⊎_elim (λ z. absurd ((F.found L.rows_found.finds).all z (rest_of (rows file) known w c) m b)) rest-is F.bound

      pub fails-left : w ≤ c → Fails file w c
      fails-left h = record { not_parts = rw (le-ltb c w h) }

      pub fails-right : w ≤ r → Fails file w c
      fails-right h =
          let k : w ≤ rest_of (rows file) known w c = ⊎_elim (λ m. absurd (omega (arith, rest-found m))) (λ g. g) (lt_or_ge (rest_of (rows file) known w c) w) in
          record { not_parts = bool_cases (ltb c w) (λ e. rw (e, le-ltb (rest_of (rows file) known w c) w k)) (λ e. rw e) }

      -- both are below row w
      module _ (cb : c < w) (rb : r < w) where
        pub pair-ready : PairReady P n w c r
        pair-ready = record {
          places_ready = L.rows_found.places_ready;
          parts_ready = parts_ready;
          area_room = L.rows_found.area_room;
          few = let k = L.row_below in omega arith;
          left_below = cb;
          right_below = rb;
        }

        r-below : r < n
        r-below = let k = L.row_below in omega arith

        checked : (b : Bool) → PairIs P n w c r b → are_parts_of (rows file) known w c ≡ b
        checked b p = rw (lt-ltb c w cb, rest-is r-below, lt-ltb r w rb) (sym (p.passes_is D tells L.rows_found.distinct L.rows_found.finds L.known.pairs_marked))

        join : row file places n c ++ row file places n r ≡ row file places n w
        join =
            let i = (F.found L.rows_found.finds).is (λ z. let f = L.rows_found.places_ready.placed.few in omega arith) in
            ap (λ (x : List ℕ). row file places n c ++ x)
            (i.1 ∙ ap₂ drop (ap length (sym (read c B.row_below))) (sym (read w L.row_below)) ∙ beyond (row file places n c) (row file places n w) B.begins)
            ∙ sym B.begins.split

        -- the pair check decides
        pub right-is : (b : Bool) → PairIs P n w c r b → RightPart file w c (then_some b r)
        right-is false p = record { not_parts = checked false p }
        right-is true p = record {
          rest = sym (rest-is r-below);
          are_parts = checked true p;
          joined = record {
            left_below = cb;
            right_below = rb;
            joined = sym (ap₂ (λ (x y : List ℕ). x ++ y) (given c B.row_below) (given r r-below)) ∙ join ∙ given w L.row_below;
          };
        }

-- row c is the next to try for row w
pub record Tried (file places : List ℕ) (n w c : ℕ) : Type 0 where
  pub beginner : Beginner file places n w c
  pub is : parts_in (rows file) w ≡ first_parts (rows file) (parts_below (rows file) w) w (c ∷ prefixes (with_parts (rows file) (parts_below (rows file) w)) c)

-- c is the next row to try, or none where nothing is left to try
abbrev pub Trying : List ℕ → List ℕ → ℕ → ℕ → ℕ → Type 0
Trying file places n w c = ((c ≡ none) × (parts_in (rows file) w ≡ Option.none)) ⊎ Tried file places n w c

module _ (file places lefts rights prefixTable area : List ℕ) (n w : ℕ) (L : Looking (pair_tables file places lefts rights area) n w) where
  -- the length of row w as it is read
  module _ (size : ℕ) (f : size ≡ length (row file places n w)) where
    sized : size ≡ length (bytes_of (rows file) w)
    sized = f ∙ ap length (row-bytes file places n L.rows_found.places_ready w L.row_below)

    -- a one-byte row
    pub found-single : size ≡ 1 → RowParts file w w w
    found-single e = record {
      are = parts-single (rows file) w (omega (arith, sized));
      longer = λ h. absurd (omega (arith, sized, ap length (bytes_are file places n L.rows_found.places_ready w L.row_below)));
    }

    longer : (size ≡ 1 → ⊥) → 1 < length (bytes_of (rows file) w)
    longer d =
        omega (arith, sized, ap length (bytes_are file places n L.rows_found.places_ready w L.row_below), L.rows_found.places_ready.filled w L.row_below)

  -- a left part that is a lower row has fewer bytes
  pub left-shorter : (l r : ℕ) → RowParts file w l r → l < w → length (get_or (rows file) l []) < length (get_or (rows file) w [])
  left-shorter l r p b = ⊎_elim
      (λ h.
      let j = p.longer (omega (arith, ap length (bytes_are file places n L.rows_found.places_ready w L.row_below))) in
      let f = L.rows_found.places_ready.filled r (omega (arith, j.right_below, L.row_below)) in
      omega (arith, ap length j.joined, length-append (get_or (rows file) l []) (get_or (rows file) r [])))
      (λ h. absurd (let e = (parts_same (record { left = l; right = r }) (record { left = w; right = w }) (sym p.are ∙ parts-single (rows file) w h)).0 in omega arith))
      (lt_or_ge 1 (length (bytes_of (rows file) w)))

  few : n ≤ 4096
  few = L.rows_found.places_ready.placed.few

  pub next_row : (c : ℕ) → Trying file places n w c → (c ≡ none → ⊥) → Tried file places n w c
  next_row c t d = ⊎_elim (λ z. absurd (d z.0)) (λ z. z) t

  pub none_left : (c : ℕ) → Trying file places n w c → c ≡ none → NoParts file w
  none_left c t e = record { are = ⊎_elim (λ z. z.1) (λ z. absurd (omega (arith, few, z.beginner.row_below))) t }

  -- row c was tried, and right_part answered r
  pub found-parts : (c r : ℕ) → Tried file places n w c → Passes file w c r → RowParts file w c r
  found-parts c r t p = record { are = t.is ∙ (rw (p.are_parts, ← p.rest, first_parts)); longer = λ h. p.joined }

  module _ (X : PrefixesFound file places prefixTable n) where
    along : (c : ℕ) → c < n → Begins (row file places n c) (row file places n w)
        → parts_in (rows file) w ≡ first_parts (rows file) (parts_below (rows file) w) w (prefixes (with_parts (rows file) (parts_below (rows file) w)) c)
        → Trying file places n w (get_or prefixTable c 0)
    along c h b e =
        let x = X.are c h in
        ⊎_elim
        (λ z. inl (z.0, e ∙ ap (first_parts (rows file) (parts_below (rows file) w) w) z.1))
        (λ z. inr (record {
          beginner = record {
            row_below = z.row_below;
            begins = through (row file places n (get_or prefixTable c 0)) (row file places n c) (row file places n w) x.begins b;
          };
          is = e ∙ ap (first_parts (rows file) (parts_below (rows file) w) w) z.tried;
        }))
        (prefix_cases file places n L.rows_found.places_ready L.rows_found.distinct (parts_below (rows file) w) c (get_or prefixTable c 0) h x)

    -- a longer row: its prefix is the first to try
    pub try_first : (size : ℕ) → size ≡ length (row file places n w) → (size ≡ 1 → ⊥) → Trying file places n w (get_or prefixTable w 0)
    try_first size f d = along w L.row_below (whole (row file places n w)) (parts-longer (rows file) w (longer size f d))

    module _ (c : ℕ) (t : Tried file places n w c) where
      pub try_next : Fails file w c → Trying file places n w (get_or prefixTable c 0)
      try_next f = along c t.beginner.row_below t.beginner.begins (t.is ∙ (rw (f.not_parts, first_parts)))

      pub try_less : length (row file places n (get_or prefixTable c 0)) < length (row file places n c)
      try_less = (X.are c t.beginner.row_below).shorter
