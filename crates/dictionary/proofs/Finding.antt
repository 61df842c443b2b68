-- What the searches of build find: the prefixes, the parts, and tables that are built. Assumes nothing.
use mathlib.Core.Path.{◌≡◌, refl, sym, ap, ◌∙◌}
use mathlib.Core.List.{List, [], ◌∷◌}
use mathlib.Core.Bool.{Bool, true, false}
use mathlib.Core.Option.{Option, some}
use Prim.Native.Nat.{ℕ, zero, suc, ◌≤◌, ◌<◌}
use native.Mathlib.Omega.{arith}
use lib.ListN.{length, get_or, take}
use Rattle.std.specs.Prelude.{Ok}
use Rattle.phrase_file.specs.Form.{places, rows}
use Rattle.phrase_file.specs.Checks.{check_of}
use Rattle.phrase_file.proofs.Checks.{accepted}
use Rattle.theory.specs.Lists.{equal}
use Rattle.theory.specs.Parts.{part_or, find, with_parts, parts_below, dictionary, Accepted}
use Rattle.theory.proofs.Lists.{true-false, equal_refl}
use Rattle.theory.proofs.Accepted.{parts_at}
use Rattle.theory.proofs.RowsAt.{Different}
use Rattle.search_fill.specs.Filled.{Filled}
use Rattle.parts.specs.Parts.{is_some, RowsFound, PartsFilled}
use Rattle.parts.proofs.Prefixes.{different, prefix-is}
use Rattle.parts.proofs.Marking.{still-found}
use Rattle.built_tables.specs.Built.{dictionary_of, Built}
use Rattle.tables.specs.Tables.{tables}
use Rattle.dictionary.specs.Steps.{shared_hash, Searched}
use Rattle.dictionary.proofs.Rows.{places_ready, distinct, fillable}

-- a row with these bytes is no lower than the first one
find-low : (rs : List (List ℕ)) (b : List ℕ) (i : ℕ) → i < length rs → get_or rs i [] ≡ b → find rs b ≤ i
find-low [] b i h e = absurd (omega arith)
find-low (r ∷ rs) b zero h e = rw (ap (λ (l : List ℕ). equal l b) e ∙ equal_refl b, find) (omega arith)
find-low (r ∷ rs) b (suc i) h e = go (equal r b) refl (find-low rs b i (omega arith) e)
  where
    go : (c : Bool) → equal r b ≡ c → find rs b ≤ i → find (r ∷ rs) b ≤ suc i
    go true f ih = rw (f, find) (omega arith)
    go false f ih = rw (f, find) (omega arith)

-- the search area and the prefixes are filled for rows that differ
module _ (file table prefixes area prefixes' area' : List ℕ) (factor n : ℕ)
    (passed : check_of file ≡ Ok n) (written : take n table ≡ places file) (none : n ≤ shared_hash file factor)
    (prefixes_room : n ≤ length prefixes) (area_room : 16384 ≤ length area) (F : Filled file table n prefixes area prefixes' area') where
  rows_found : RowsFound file table area' n
  rows_found = record {
    places_ready = places_ready file n passed table written;
    distinct = distinct file n passed table written factor none;
    area_room = omega (arith, F.area_filled.area_length);
    finds = F.area_filled.finds (fillable file n passed table written factor none);
  }

  pub searched : Searched file table prefixes' area' n
  searched = record {
    rows_found = rows_found;
    prefixes_found = record { room = omega (arith, F.prefixes_filled.prefixes_length); are = F.prefixes_filled.prefix rows_found.finds };
  }

-- all rows have parts
module _ (file table prefixes area lefts rights lefts' rights' area' : List ℕ) (n without : ℕ)
    (passed : check_of file ≡ Ok n) (written : take n table ≡ places file) (S : Searched file table prefixes area n) (P : PartsFilled file lefts rights area lefts' rights' area' n without) (all : n ≤ without) where
  count : n ≡ length (rows file)
  count = S.rows_found.places_ready.count

  parts_are : (c : ℕ) → c < n → get_or (parts_below (rows file) (length (rows file))) c Option.none ≡ some (record { left = get_or lefts' c 0; right = get_or rights' c 0 })
  parts_are c h = parts_at (rows file) (length (rows file)) c (let e = count in omega arith) ∙ (P.known.parts c (omega arith)).are

  differ : Different (with_parts (rows file) [])
  differ = different file table n S.rows_found.places_ready S.rows_found.distinct []

  rows-accepted : Accepted (rows file)
  rows-accepted = record {
    filled = differ.filled;
    distinct = differ.distinct;
    bytes = λ b h. let r = (accepted file n passed).byte_row b h in omega (arith, r.below, find-low (rows file) (b ∷ []) r.row r.below r.is);
    parts = λ w h e. true-false (sym (ap is_some (sym e ∙ parts_are w (let k = count in omega arith))));
  }

  -- the marks of pairs leave the rows found
  still : RowsFound file table area' n
  still = still-found file table area area' n S.rows_found P.area_kept

  pub is-built : Built (tables file table lefts' rights' prefixes area') n
  unfolding dictionary_of dictionary
  is-built = record {
    passed = passed;
    accepted = rows-accepted;
    places_are = written;
    lefts_room = omega (arith, P.known.left_room);
    lefts_are = λ c h. sym (ap (part_or (λ p. p.left) c) (parts_are c h));
    rights_room = omega (arith, P.known.right_room);
    rights_are = λ c h. sym (ap (part_or (λ p. p.right) c) (parts_are c h));
    prefixes_room = S.prefixes_found.room;
    prefixes_are = λ c h.
        prefix-is file table n S.rows_found.places_ready S.rows_found.distinct (parts_below (rows file) (length (rows file))) c (get_or prefixes c 0) h (S.prefixes_found.are c h);
    area_room = still.area_room;
    finds = still.finds;
    pairs_marked = λ c h. P.known.pairs_marked c (omega arith);
    seams_marked = λ c h. P.known.seams_marked c (omega arith);
  }
