-- Buffers that are large enough, case by case. Assumes nothing.
use mathlib.Core.Path.{◌≡◌, refl}
use mathlib.Core.Bool.{Bool, true, false, ◌||◌}
use Prim.Native.Nat.{ℕ, ◌≤◌}
use lib.ListN.{length}
use lib.Dec.{ltb}
use borrow.Author.Tests.{le-ltb, ltb-false}
use Rattle.theory.proofs.Lists.{true-false}
use Rattle.tables.specs.Tables.{Tables}
use Rattle.dictionary.specs.Build.{too_short}

neither : (a b : Bool) → a || b ≡ false → (a ≡ false) × (b ≡ false)
neither true b e = absurd (true-false e)
neither false b e = (refl, e)

-- each table has at least n entries, and the search area at least 16,384
pub record Large (T : Tables) (n : ℕ) : Type 0 where
  pub places_room : n ≤ length T.places
  pub lefts_room : n ≤ length T.lefts
  pub rights_room : n ≤ length T.rights
  pub prefixes_room : n ≤ length T.prefixes
  pub area_room : 16384 ≤ length T.area

module _ (T : Tables) (n : ℕ) where
  pub large : too_short T n ≡ false → Large T n
  unfolding too_short
  large e =
      let p = neither (ltb (length T.places) n) _ e in
      let l = neither (ltb (length T.lefts) n) _ p.1 in
      let r = neither (ltb (length T.rights) n) _ l.1 in
      let x = neither (ltb (length T.prefixes) n) _ r.1 in
      record {
        places_room = ltb-false _ _ p.0;
        lefts_room = ltb-false _ _ l.0;
        rights_room = ltb-false _ _ r.0;
        prefixes_room = ltb-false _ _ x.0;
        area_room = ltb-false _ _ x.1;
      }

  pub not_short : Large T n → too_short T n ≡ false
  unfolding too_short
  not_short l = rw (
    le-ltb _ _ l.places_room,
    le-ltb _ _ l.lefts_room,
    le-ltb _ _ l.rights_room,
    le-ltb _ _ l.prefixes_room,
    le-ltb _ _ l.area_room,
  )
