-- Interval tables in form: the passes over their entries, and what they say. Assumes nothing.
use mathlib.Core.Path.{◌≡◌, refl, sym, ap, ◌∙◌}
use mathlib.Core.List.{List}
use mathlib.Core.Bool.{Bool, true, false, and-false, ◌&&◌}
use Prim.Native.Nat.{ℕ, ◌+◌, ◌≤◌, ◌<◌}
use native.Mathlib.Numerals.{add-one}
use native.Mathlib.Omega.{arith}
use lib.ListN.{length, get_or}
use lib.Dec.{ltb, leb}
use borrow.Author.Tests.{lt-ltb, le-ltb, le-leb, lt-leb, leb-true}
use Rattle.placed_rows.proofs.Beginning.{and_both, iff}
use Rattle.tables.specs.InForm.{all_below}
use Rattle.tables.proofs.Sweeps.{all_more, all-each, all_done, all-fails}
use Rattle.built_tables.specs.IntervalTables.{codes_in_form, tree_in_form, interval_in_form}

-- each last code is below n
abbrev below_n : ℕ → List ℕ → ℕ → Bool
below_n n codes i = ltb (get_or codes i 0) n

-- no entry of a tree table exceeds the text's length + 1
abbrev fits : List ℕ → List ℕ → ℕ → Bool
fits text table i = leb (get_or table i 0) (length text + 1)

-- of two numbers the greater one decides whether both are at most m
both-leb : (a b m : ℕ) → a ≤ b → leb a m && leb b m ≡ leb b m
both-leb a b m l = iff (leb a m && leb b m) (leb b m) (λ e. (and_both (leb a m) (leb b m) e).1) (λ e. let f = leb-true b m e in rw (le-leb a m (omega arith)) e)

and-swap : (p q : Bool) → p && q ≡ q && p
and-swap true true = refl
and-swap true false = refl
and-swap false true = refl
and-swap false false = refl

module _ (n : ℕ) (text codes : List ℕ) where
  pub codes-short : length codes < length text → false ≡ codes_in_form n text codes
  unfolding codes_in_form
  codes-short h = rw (lt-leb (length text) (length codes) h)

  -- the first i last codes are below n
  pub record Sweeping (i : ℕ) : Type 0 where
    pub room : length text ≤ length codes
    pub within : i ≤ length text
    pub passed : all_below i (below_n n codes) ≡ true

  pub sweeping_start : length text ≤ length codes → Sweeping 0
  unfolding all_below
  sweeping_start h = record { room = h; within = omega arith; passed = refl }

  module _ (i : ℕ) (S : Sweeping i) where
    pub sweeping_end : length text ≤ i → true ≡ codes_in_form n text codes
    unfolding codes_in_form
    sweeping_end h = rw (le-leb (length text) (length codes) S.room) (all_done (below_n n codes) (length text) i S.within h S.passed)

    module _ (h : i < length text) (x : ℕ) (e : x ≡ get_or codes i 0) where
      pub sweeping_fails : n ≤ x → false ≡ codes_in_form n text codes
      unfolding codes_in_form
      sweeping_fails l = rw (← all-fails (below_n n codes) (length text) i h (le-ltb (get_or codes i 0) n (omega arith)), and-false)

      pub sweeping_more : x < n → Sweeping (i + 1)
      sweeping_more l = record { room = S.room; within = omega arith; passed = all_more (below_n n codes) i S.passed (lt-ltb (get_or codes i 0) n (omega arith)) }

module _ (text table : List ℕ) where
  pub tree_short : length table ≤ length text → false ≡ tree_in_form text table
  unfolding tree_in_form
  tree_short h = rw (lt-leb (length text + 1) (length table) (omega arith))

  -- the first i entries fit exactly if the highest of them does
  pub record Fitting (i highest : ℕ) : Type 0 where
    pub room : length text < length table
    pub within : i ≤ length text + 1
    pub passed : all_below i (fits text table) ≡ leb highest (length text + 1)

  pub fitting_start : length text < length table → Fitting 0 0
  unfolding all_below
  fitting_start h = record { room = h; within = omega arith; passed = sym (le-leb 0 (length text + 1) (omega arith)) }

  module _ (i highest : ℕ) (S : Fitting i highest) where
    whole : length text + 1 ≤ i → all_below (length text + 1) (fits text table) ≡ leb highest (length text + 1)
    whole h = let w = S.within in let z : length text + 1 ≡ i = omega arith in ap (λ (k : ℕ). all_below k (fits text table)) z ∙ S.passed

    pub fitting_end : length text + 1 ≤ i → highest ≤ length text + 1 → true ≡ tree_in_form text table
    unfolding tree_in_form
    fitting_end h l = rw (le-leb (length text + 1) (length table) (omega (arith, S.room))) (sym (whole h ∙ le-leb highest (length text + 1) l))

    pub fitting_fails : length text + 1 ≤ i → length text + 1 < highest → false ≡ tree_in_form text table
    unfolding tree_in_form
    fitting_fails h l = rw (le-leb (length text + 1) (length table) (omega (arith, S.room))) (sym (whole h ∙ lt-leb highest (length text + 1) l))

    module _ (h : i < length text + 1) where
      longer : (r : Bool) → leb highest (length text + 1) && fits text table i ≡ r → all_below (i + 1) (fits text table) ≡ r
      unfolding all_below
      longer r e = rw add-one (rw S.passed e)

      pub fitting_higher : highest < get_or table i 0 → Fitting (i + 1) (get_or table i 0)
      fitting_higher l = record {
        room = S.room;
        within = omega arith;
        passed = longer (leb (get_or table i 0) (length text + 1)) (both-leb highest (get_or table i 0) (length text + 1) (omega arith));
      }

      pub fitting_lower : get_or table i 0 ≤ highest → Fitting (i + 1) highest
      fitting_lower l = record {
        room = S.room;
        within = omega arith;
        passed = longer (leb highest (length text + 1)) (and-swap (leb highest (length text + 1)) (leb (get_or table i 0) (length text + 1)) ∙ both-leb (get_or table i 0) highest (length text + 1) l);
      }

module _ (n : ℕ) (text codes numbers ends depths : List ℕ) where
  pub codes_out : codes_in_form n text codes ≡ false → false ≡ interval_in_form n text codes numbers ends depths
  unfolding interval_in_form
  codes_out e = rw e

  module _ (a : codes_in_form n text codes ≡ true) where
    pub numbers_out : tree_in_form text numbers ≡ false → false ≡ interval_in_form n text codes numbers ends depths
    unfolding interval_in_form
    numbers_out e = rw (a, e)

    module _ (b : tree_in_form text numbers ≡ true) where
      pub ends_out : tree_in_form text ends ≡ false → false ≡ interval_in_form n text codes numbers ends depths
      unfolding interval_in_form
      ends_out e = rw (a, b, e)

      pub depths_decide : tree_in_form text ends ≡ true → (r : Bool) → r ≡ tree_in_form text depths → r ≡ interval_in_form n text codes numbers ends depths
      unfolding interval_in_form
      depths_decide c r e = rw (a, b, c) e

  -- the entries that the count reads are there, and the depths are few
  pub record Entries : Type 0 where
    pub codes_room : length text ≤ length codes
    pub numbers_room : length text < length numbers
    pub ends_room : length text < length ends
    pub depths_room : length text < length depths
    pub depths_few : (i : ℕ) → i ≤ length text → get_or depths i 0 ≤ length text + 1

  tree_room : (table : List ℕ) → tree_in_form text table ≡ true → length text < length table
  unfolding tree_in_form
  tree_room table e = omega (arith, leb-true (length text + 1) (length table) (and_both (leb (length text + 1) (length table)) _ e).0)

  tree_few : (table : List ℕ) → tree_in_form text table ≡ true → (i : ℕ) → i ≤ length text → get_or table i 0 ≤ length text + 1
  unfolding tree_in_form
  tree_few table e i h =
      leb-true (get_or table i 0) (length text + 1)
      (all-each (fits text table) (length text + 1) (and_both (leb (length text + 1) (length table)) _ e).1 i (omega arith))

  pub entries : interval_in_form n text codes numbers ends depths ≡ true → Entries
  unfolding interval_in_form codes_in_form
  entries e =
      let a = and_both (codes_in_form n text codes) _ e in
      let b = and_both (tree_in_form text numbers) _ a.1 in
      let c = and_both (tree_in_form text ends) (tree_in_form text depths) b.1 in
      record {
        codes_room = leb-true (length text) (length codes) (and_both (leb (length text) (length codes)) _ a.0).0;
        numbers_room = tree_room numbers b.0;
        ends_room = tree_room ends c.0;
        depths_room = tree_room depths c.1;
        depths_few = tree_few depths c.1;
      }
