-- The rows and the tables of an accepting build, in terms of its dictionary. Assumes nothing.
use mathlib.Core.Path.{◌≡◌, refl, sym, ap, ◌∙◌}
use mathlib.Core.List.{List, [], ◌∷◌}
use mathlib.Core.Bool.{Bool}
use Prim.Native.Nat.{ℕ, zero, suc, ◌-◌, ◌<◌}
use native.Mathlib.Omega.{arith}
use lib.ListN.{length, get_or}
use lib.Dec.{ltb}
use Rattle.phrase_file.specs.Form.{rows}
use Rattle.phrase_file.proofs.Checks as Checks
use Rattle.placed_rows.specs.Rows.{row}
use Rattle.theory.specs.Dictionary.{Octets, KnownText}
use Rattle.theory.specs.PairCheck.{passes}
use Rattle.theory.specs.Parts.{dictionary}
use Rattle.theory.proofs.PairCheck.{Lawful}
use Rattle.theory.proofs.Accepted.{lawful, known-text}
use Rattle.tables.specs.Tables.{Tables, without_prefixes}
use Rattle.tables.specs.Ready.{PlacesReady}
use Rattle.tables.proofs.Placing as Placing
use Rattle.pair_check.specs.Pair.{Distinct, Tells, PairIs, PassIs}
use Rattle.built_tables.specs.Built.{dictionary_of, Built}

-- a list of numbers below 256 is a text
pub octets : (t : List ℕ) → ((i : ℕ) → get_or t i 0 < 256) → Octets t
octets [] h = tt
octets (b ∷ t) h = (h 0, octets t (λ i. h (suc i)))

default : {A : Type 0} (l : List A) (i : ℕ) (d e : A) → i < length l → get_or l i d ≡ get_or l i e
default [] i d e h = absurd (omega arith)
default (x ∷ l) zero d e h = refl
default (x ∷ l) (suc i) d e h = default l i d e (omega arith)

module _ (T : Tables) (n : ℕ) (B : Built T n) where
  open T use {file, places as placeTable, lefts, rights}

  file-is : Checks.Accepted file n
  file-is = Checks.accepted file n B.passed

  pub count_is : (dictionary_of file).count ≡ n
  unfolding dictionary_of dictionary
  count_is = sym file-is.count

  pub bytes_are : (c : ℕ) → c < n → (dictionary_of file).bytes c ≡ get_or (rows file) c []
  unfolding dictionary_of dictionary
  bytes_are c h = let e = file-is.count in default (rows file) c ((c - length (rows file)) ∷ []) [] (omega arith)

  pub places_ready : PlacesReady file placeTable n
  places_ready = Placing.places_ready file placeTable n B.passed B.places_are

  -- a row as it is read is a row of the dictionary
  pub row-bytes : (c : ℕ) → c < n → row file placeTable n c ≡ (dictionary_of file).bytes c
  row-bytes c h = places_ready.rows_are c h ∙ sym (bytes_are c h)

  pub lawful-is : Lawful (dictionary_of file)
  unfolding dictionary_of
  lawful-is = lawful (rows file) B.accepted

  -- a text of octets has a row for each byte
  pub known : (t : List ℕ) → Octets t → KnownText (dictionary_of file) t
  unfolding dictionary_of
  known t o = known-text (rows file) B.accepted t o

  pub distinct-rows : Distinct file
  distinct-rows u v hu hv e = B.accepted.distinct u v hu hv (default (rows file) u _ [] hu ∙ e ∙ default (rows file) v [] _ hv)

  long-is : (c : ℕ) → c < n → (dictionary_of file).long c ≡ ltb 1 (length (get_or (rows file) c []))
  unfolding dictionary_of dictionary
  long-is c h = let e = file-is.count in ap (λ (l : List ℕ). ltb 1 (length l)) (default (rows file) c ((c - length (rows file)) ∷ []) [] (omega arith))

  pub tells : Tells (dictionary_of file) file lefts rights n
  tells = record {
    bytes = bytes_are;
    long = long-is;
    left = B.lefts_are;
    right = B.rights_are;
    joined = λ c h e. lawful-is.laws.parts c e;
  }

  -- the pair check over the tables is the dictionary's
  pub pair_is : (u v : ℕ) (r : Bool) → PairIs (without_prefixes T) n n u v r → r ≡ passes (dictionary_of file) (dictionary_of file).count u v
  pair_is u v r p = p.passes_is (dictionary_of file) tells distinct-rows B.finds B.pairs_marked ∙ ap (λ (q : ℕ). passes (dictionary_of file) q u v) (sym count_is)

  -- and so is the one that looks at the seam first
  pub pass-is : (u v : ℕ) (r : Bool) → PassIs (without_prefixes T) n n u v r → r ≡ passes (dictionary_of file) (dictionary_of file).count u v
  pass-is u v r p = p.passes_is (dictionary_of file) tells distinct-rows B.finds B.pairs_marked B.seams_marked ∙ ap (λ (q : ℕ). passes (dictionary_of file) q u v) (sym count_is)
