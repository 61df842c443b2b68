-- What the lookups answer over tables that an accepting build left, in terms of its dictionary. Assumes nothing.
use mathlib.Core.Path.{◌≡◌, refl, sym, ap, ap₂, ◌∙◌}
use mathlib.Core.Logic.{◌⊎◌, inl, inr, ⊎_elim}
use mathlib.Core.List.{List, [], ◌∷◌, ◌++◌}
use Prim.Native.Nat.{ℕ, ◌-◌, ◌≤◌, ◌<◌}
use native.Mathlib.Omega.{arith}
use lib.ListN.{length, length-append, get_or, drop}
use Rattle.placed_rows.specs.Rows.{row}
use Rattle.placed_rows.specs.Texts.{Begins}
use Rattle.placed_rows.specs.Longest.{Below, Longest}
use Rattle.theory.specs.Lists.{first_or}
use Rattle.theory.specs.Dictionary.{Dictionary, Octets, KnownText, none}
use Rattle.theory.specs.Parts.{rows_at, prefixes, prefix, longest_at}
use Rattle.theory.proofs.PairCheck.{Lawful}
use Rattle.theory.proofs.RowsAt.{LongestUpTo, different, filled, first-is, rows_in, rows-chain}
use Rattle.theory.proofs.Longest.{rows-front, longest-at}
use Rattle.search_area.specs.Answers.{NextMatch, Found}
use Rattle.built_tables.specs.Built.{dictionary_of, Built}
use Rattle.built_tables.proofs.Rows.{count_is, row-bytes, places_ready, lawful-is, known}
use Rattle.tables.specs.Tables.{Tables}

module _ (T : Tables) (n : ℕ) (B : Built T n) where
  open T use {file, places as placeTable, prefixes as prefixTable, area}

  abbrev D : Dictionary
  D = dictionary_of file

  L : Lawful D
  L = lawful-is T n B

  counted : D.count ≡ n
  counted = count_is T n B

  bytes : (c : ℕ) → c < n → row file placeTable n c ≡ D.bytes c
  bytes = row-bytes T n B

  few : n ≤ 4096
  few = (places_ready T n B).placed.few

  -- the longest row at the front of a text
  pub record NextIs (t : List ℕ) (r l : ℕ) : Type 0 where
    pub row : r < n
    pub size : l ≡ length (D.bytes r)
    pub some : 0 < l
    pub fits : l ≤ length t
    pub is : r ≡ longest_at D t
    -- the rows to try at this place, longest first
    pub tried : rows_at D t ≡ r ∷ prefixes D r

  not_none : (r : ℕ) → r < n → r ≡ none → ⊥
  not_none r h e = let f = few in omega arith

  pub next-none : (t : List ℕ) (r l : ℕ) → NextMatch file placeTable n area t r l → length t ≡ 0 → (r ≡ none) × (rows_at D t ≡ [])
  next-none [] r l m e = (⊎_elim (λ a. a.0) (λ a. absurd (let z = m.room in omega (arith, a.1))) m.bound, refl)
  next-none (b ∷ t) r l m e = absurd (omega arith)

  module _ (t : List ℕ) (o : Octets t) (h : 0 < length t) (r l : ℕ) (m : NextMatch file placeTable n area t r l) where
    found : Longest (row file placeTable n) (Below n) t r × (l ≡ length (row file placeTable n r))
    found = m.longest B.finds

    k : KnownText D t
    k = known T n B t o

    own : longest_at D t < n
    own = let e = (longest-at D L t k h).known in omega (arith, counted)

    begins-own : Begins (row file placeTable n (longest_at D t)) t
    begins-own = record { rest = drop (length (D.bytes (longest_at D t))) t; split = rw (bytes (longest_at D t) own) (longest-at D L t k h).begins }

    some-row : r < n
    some-row = ⊎_elim
        (λ a. absurd (let z = found.0.longest (longest_at D t) own begins-own in
        omega (arith, found.1, a.1, ap length (bytes (longest_at D t) own), filled D L (longest_at D t))))
        (λ a. a.0)
        m.bound

    begins-r : Begins (row file placeTable n r) t
    begins-r = found.0.begins

    split-r : t ≡ D.bytes r ++ begins-r.rest
    split-r = begins-r.split ∙ ap (λ (x : List ℕ). x ++ begins-r.rest) (bytes r some-row)

    longest-r : LongestUpTo D (different D L) (length t) t r
    longest-r = record {
      beginning = record { known = omega (arith, counted, some-row); short = omega (arith, ap length split-r, length-append (D.bytes r) begins-r.rest); rest = begins-r.rest; begins = split-r };
      longest = λ d b.
          let hd : d < n = omega (arith, b.known, counted) in
          let z = found.0.longest d hd (record { rest = b.rest; split = rw (bytes d hd) b.begins }) in
          omega (arith, ap length (bytes d hd), ap length (bytes r some-row));
    }

    same : r ≡ longest_at D t
    unfolding longest_at
    same = sym (first-is D (different D L) (length t) t r (omega arith) longest-r)

    pub next_is : NextIs t r l
    next_is = record {
      row = some-row;
      size = found.1 ∙ ap length (bytes r some-row);
      some = ⊎_elim (λ a. absurd (not_none r some-row a.0)) (λ a. a.1) m.bound;
      fits = m.room;
      is = same;
      tried = rows-front D L t k h ∙ ap₂ (λ (x : ℕ) (xs : List ℕ). x ∷ xs) (sym same) (ap (prefixes D) (sym same));
    }

  -- the next prefix of a row: none is left, or it is the next to try
  pub record Next (c p : ℕ) : Type 0 where
    pub row : p < n
    pub shorter : length (D.bytes p) < length (D.bytes c)
    pub tried : prefixes D c ≡ p ∷ prefixes D p

  pub prefix_cases : (c : ℕ) → c < n → ((get_or prefixTable c 0 ≡ none) × (prefixes D c ≡ [])) ⊎ Next c (get_or prefixTable c 0)
  unfolding prefix
  prefix_cases c h = go (prefixes D c) refl
    where
      entry : get_or prefixTable c 0 ≡ prefix D c
      entry = B.prefixes_are c h

      first : prefix D c ≡ first_or none (prefixes D c)
      first = refl

      go : (cs : List ℕ) → prefixes D c ≡ cs → ((get_or prefixTable c 0 ≡ none) × (prefixes D c ≡ [])) ⊎ Next c (get_or prefixTable c 0)
      go [] e = inl (entry ∙ first ∙ ap (first_or none) e, e)
      go (p ∷ cs) e =
          let i = rows_in D (length (D.bytes c) - 1) (D.bytes c) p (rw e (inl refl)) in
          let q : get_or prefixTable c 0 ≡ p = entry ∙ first ∙ ap (first_or none) e in
          inr (rw q (record {
            row = omega (arith, i.known, counted);
            shorter = omega (arith, i.short, filled D L c);
            tried = e ∙ ap (λ (xs : List ℕ). p ∷ xs) (rows-chain D (length (D.bytes c) - 1) (D.bytes c) p cs (omega arith) e);
          }))

  -- the join of two rows, or none
  pub join-some : (x y w : ℕ) → x < n → y < n → Found file placeTable n area (row file placeTable n x ++ row file placeTable n y) w → (w ≡ none → ⊥) → (w < n) × (D.bytes w ≡ D.bytes x ++ D.bytes y)
  join-some x y w hx hy f s =
      let i = (f.found B.finds).is s in
      (i.0, sym (bytes w i.0) ∙ i.1 ∙ ap₂ (λ (a b : List ℕ). a ++ b) (bytes x hx) (bytes y hy))

  pub join-none : (x y w : ℕ) → x < n → y < n → Found file placeTable n area (row file placeTable n x ++ row file placeTable n y) w → w ≡ none → (v : ℕ) → v < n → D.bytes v ≡ D.bytes x ++ D.bytes y → ⊥
  join-none x y w hx hy f z v hv e =
      (f.found B.finds).all z v hv (bytes v hv ∙ e ∙ sym (ap₂ (λ (a b : List ℕ). a ++ b) (bytes x hx) (bytes y hy)))
