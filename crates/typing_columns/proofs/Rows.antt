-- Rows as they are read, in terms of the file's dictionary; this needs no build. Assumes nothing.
use mathlib.Core.Path.{◌≡◌, sym, ◌∙◌}
use mathlib.Core.List.{List, [], ◌∷◌}
use Prim.Native.Nat.{ℕ, ◌-◌, ◌<◌}
use native.Mathlib.Omega.{arith}
use lib.ListN.{length}
use Rattle.phrase_file.specs.Form.{rows}
use Rattle.placed_rows.specs.Rows.{row}
use Rattle.theory.specs.Parts.{dictionary}
use Rattle.tables.specs.Tables.{Tables, without_prefixes}
use Rattle.tables.specs.Ready.{PlacesReady, Ready}
use Rattle.built_tables.specs.Built.{dictionary_of}
use Rattle.end_code.specs.Tables.{PartsInForm}
use Rattle.std.proofs.lemmas.List.{get_or_default}

pub row_count : (file places : List ℕ) (n : ℕ) → PlacesReady file places n → (dictionary_of file).count ≡ n
unfolding dictionary_of dictionary
row_count file places n Q = sym Q.count

-- the bytes read of a row
pub row_read : (file places : List ℕ) (n c : ℕ) (t : List ℕ) → PlacesReady file places n → c < n → t ≡ row file places n c → t ≡ (dictionary_of file).bytes c
unfolding dictionary_of dictionary
row_read file places n c t Q h f =
    let k = Q.count in
    f ∙ Q.rows_are c h ∙ get_or_default (rows file) c [] ((c - length (rows file)) ∷ []) (omega arith)

pub parts_in_form_lem : (T : Tables) (n : ℕ) → Ready T n → PartsInForm (without_prefixes T) n
parts_in_form_lem T n R = record { places_ready = R.places_ready; parts_ready = R.parts_ready; area_room = R.area_room }
