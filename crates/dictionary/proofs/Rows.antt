-- The rows of a file that passes the checks, once their places are in a table. Assumes nothing.
use mathlib.Core.Path.{◌≡◌, sym, ap, ◌∙◌}
use mathlib.Core.Logic.{⊎_elim}
use mathlib.Core.List.{List, [], ◌∷◌, ◌++◌}
use mathlib.Core.Bool.{Bool}
use Prim.Native.Nat.{ℕ, ◌≤◌, ◌<◌}
use native.Mathlib.Decide.{dec_lt}
use native.Mathlib.Omega.{arith}
use lib.ListN.{length, length-append, length-drop, get_or, take, drop, get_or-eq_default}
use lib.Seq.{take_at, drop_at}
use Rattle.std.specs.Prelude.{Ok}
use Rattle.phrase_file.specs.Form.{places, rows}
use Rattle.phrase_file.specs.Checks.{check_of}
use Rattle.phrase_file.specs.Post.{PlacesFit}
use Rattle.phrase_file.proofs.Checks.{Accepted, accepted}
use Rattle.placed_rows.specs.Rows.{row}
use Rattle.placed_rows.proofs.Placing.{row-none}
use Rattle.tables.specs.Ready.{PlacesReady}
use Rattle.tables.proofs.Placing as Placing
use Rattle.pair_check.specs.Pair.{Distinct}
use Rattle.clashes.specs.Clashes.{first_with, shares_hash}
use Rattle.clashes.proofs.Laws.{apart}
use Rattle.search_area.specs.Area.{Whole}
use Rattle.search_fill.specs.Filled.{Fillable}
use Rattle.theory.proofs.Lists.{lt_or_ge}
use Rattle.dictionary.specs.Build.{bytes_at}
use Rattle.dictionary.specs.Steps.{shared_hash}

module _ (file : List ℕ) (n : ℕ) (passed : check_of file ≡ Ok n) where
  checked : Accepted file n
  checked = accepted file n passed

  -- a table of n entries has room for the places
  pub places_fit : (table : List ℕ) → n ≤ length table → PlacesFit file table
  places_fit table h = record { short = checked.short; room = omega (arith, checked.count_places) }

  -- the table after the places were written
  module _ (table table' : List ℕ) (e : table' ≡ places file ++ drop (length (places file)) table) where
    pub places-written : take n table' ≡ places file
    places-written = ap (take n) e ∙ take_at (places file) (drop (length (places file)) table) n (sym checked.count_places)

    pub places_beyond : drop n table' ≡ drop n table
    places_beyond = ap (drop n) e ∙ drop_at (places file) (drop (length (places file)) table) n (sym checked.count_places) ∙ ap (λ (k : ℕ). drop k table) (sym checked.count_places)

    pub places_length : n ≤ length table → length table' ≡ length table
    places_length h =
        ap length e ∙ length-append (places file) (drop (length (places file)) table) ∙ omega (arith, length-drop (length (places file)) table, checked.count_places)

  module _ (table : List ℕ) (written : take n table ≡ places file) where
    pub places_ready : PlacesReady file table n
    places_ready = Placing.places_ready file table n passed written

    -- a row as it is read, also from n on
    row_read : (c : ℕ) → row file table n c ≡ get_or (rows file) c []
    row_read c = ⊎_elim
        (places_ready.rows_are c)
        (λ h. row-none file table n c h ∙ sym (get_or-eq_default (rows file) [] {n = c} (let e = checked.count in omega arith)))
        (lt_or_ge c n)

    -- the row of a byte
    byte_row : (b : ℕ) → Dec (b < 256) → ℕ
    byte_row b (yes h) = (checked.byte_row b h).row
    byte_row b (no _) = 0

    byte_below : (b : ℕ) → b < 256 → (d : Dec (b < 256)) → byte_row b d < n
    unfolding byte_row
    byte_below b _ (yes h) = omega (arith, checked.count, (checked.byte_row b h).below)
    byte_below b h (no k) = absurd (k h)

    byte_is : (b : ℕ) → b < 256 → (d : Dec (b < 256)) → row file table n (byte_row b d) ≡ b ∷ []
    unfolding byte_row
    byte_is b _ (yes h) = let r = checked.byte_row b h in row_read r.row ∙ r.is
    byte_is b h (no k) = absurd (k h)

    whole : Whole (row file table n) n
    whole = record {
      byte = λ b. byte_row b (dec_lt b 256);
      byte_below = λ b h. byte_below b h (dec_lt b 256);
      byte_is = λ b h. byte_is b h (dec_lt b 256);
      short = λ c h. let f = places_ready.short c h in omega (arith, ap length (row_read c));
    }

    -- the lowest row that passes a test with an earlier one, of the rows as they are read
    pub first-is : (test : (ℕ → List ℕ) → ℕ → ℕ → Bool)
        → first_with (test (row file table n)) n ≡ first_with (test (bytes_at file)) (length (rows file))
    first-is test =
        ap (λ (bytes : ℕ → List ℕ). first_with (test bytes) n) (λ k i. row_read i k) ∙ ap (first_with (test (bytes_at file))) checked.count

    -- where no row has the hash of an earlier row, rows differ
    module _ (factor : ℕ) (none : n ≤ shared_hash file factor) where
      differ : (c d : ℕ) → c < n → d < n → row file table n c ≡ row file table n d → c ≡ d
      unfolding shared_hash
      differ = apart (row file table n) factor n (omega (arith, first-is (λ bytes. shares_hash bytes factor)))

      pub distinct : Distinct file
      distinct u v hu hv e = let k = checked.count in differ u v (omega arith) (omega arith) (row_read u ∙ e ∙ sym (row_read v))

      pub fillable : Fillable (row file table n) n
      fillable = record {
        filled = λ c h. let f = places_ready.filled c h in omega (arith, ap length (row_read c));
        whole = whole;
        distinct = differ;
      }
