-- Whether two rows are the parts of a row: what the join of the two says, and what the marks of pairs say. Assumes nothing.
use mathlib.Core.Path.{◌≡◌, refl, sym, ap, ap₂, subst, ◌∙◌}
use mathlib.Core.Logic.{inl, inr}
use mathlib.Core.List.{List, [], ◌++◌}
use mathlib.Core.Bool.{Bool, true, false}
use Prim.Native.Nat.{ℕ, ◌≤◌, ◌<◌}
use native.Mathlib.Decide.{ℕ_discrete, dec_lt}
use native.Mathlib.Omega.{arith}
use lib.ListN.{length, get_or}
use borrow.Author.Tests.{lt-ltb, le-ltb, eq-eqb, ltb-true}
use Rattle.theory.specs.Dictionary.{Dictionary, none}
use Rattle.theory.specs.Paper.{listed}
use Rattle.theory.specs.PairCheck.{listed_below}
use Rattle.theory.proofs.Lists.{true-false}
use Rattle.theory.proofs.Stage.{listed-is}
use Rattle.theory.proofs.PairSteps.{listed-none}
use Rattle.phrase_file.specs.Form.{rows}
use Rattle.placed_rows.specs.Rows.{row}
use Rattle.search_area.specs.Area.{Finds}
use Rattle.search_area.specs.Answers.{Found, RowIs}
use Rattle.marks.specs.Marks.{marked}
use Rattle.pair_check.specs.Pair.{Distinct, Tells, pair_key, PairsMarked, row_below, listed_in, PairReady, JoinIs}
use Rattle.pair_check.proofs.Listing.{Facts, listed-facts, not_listed}
use Rattle.tables.specs.Tables.{PairTables}

-- which rows are longer than a byte
module _ (file lefts rights : List ℕ) (q : ℕ) (D : Dictionary) (T : Tells D file lefts rights q) (c : ℕ) (h : c < q) where
  pub long : 1 < length (get_or (rows file) c []) → D.long c ≡ true
  long l = T.long c h ∙ lt-ltb 1 (length (get_or (rows file) c [])) l

  pub short : length (get_or (rows file) c []) ≡ 1 → D.long c ≡ false
  short e = T.long c h ∙ le-ltb 1 (length (get_or (rows file) c [])) (omega arith)

  pub longer : D.long c ≡ true → 1 < length (get_or (rows file) c [])
  longer e = ltb-true 1 (length (get_or (rows file) c [])) (sym (T.long c h) ∙ e)

module _ (P : PairTables) (n q x y : ℕ) (R : PairReady P n q x y)
    (D : Dictionary) (T : Tells D P.file P.lefts P.rights q) where
  open P use {file, places, lefts, rights, area}

  row_is : (c : ℕ) → c < q → row file places n c ≡ D.bytes c
  row_is c h = let f = R.few in R.places_ready.rows_are c (omega arith) ∙ sym (T.bytes c h)

  -- two rows that are not marked are the parts of no row
  unmarked : (m : ℕ) → m ≤ q → PairsMarked lefts rights area q → marked area 15360 (pair_key x y) ≡ false → listed_below D m x y ≡ false
  unmarked m hm M e = listed-none D m x y (λ v h l.
      let s = listed-is D v x y l in
      let k : v < q = omega arith in
      let a : get_or lefts v 0 ≡ x = T.left v k ∙ sym s.left in
      let b : get_or rights v 0 ≡ y = T.right v k ∙ sym s.right in
      true-false (sym (M v k (R.parts_ready.lower v k (longer file lefts rights q D T v k s.long)).left) ∙ ap₂ (λ (i j : ℕ). marked area 15360 (pair_key i j)) a b ∙ e))

  -- a row that the tables say to have them as its parts is listed with them
  facts-listed : (c m : ℕ) → m ≤ q → Facts lefts rights c m x y → listed D c x y ≡ true
  facts-listed c m hm f =
      let h : c < q = omega (arith, f.below) in
      rw (long file lefts rights q D T c h (size h (ℕ_discrete (length (get_or (rows file) c [])) 1)), eq-eqb x (D.left c) (sym f.left ∙ T.left c h), eq-eqb y (D.right c) (sym f.right ∙ T.right c h))
    where
      size : c < q → Dec (length (get_or (rows file) c []) ≡ 1) → 1 < length (get_or (rows file) c [])
      size h (yes e) = absurd (omega (arith, (R.parts_ready.single c h e).0, f.left, f.longer))
      size h (no e) = let g = R.few in let o = R.places_ready.filled c (omega arith) in omega arith

  -- conversely
  listed_facts_are : (v m : ℕ) → v < m → m ≤ q → listed D v x y ≡ true → Facts lefts rights v m x y
  listed_facts_are v m h hm e =
      let s = listed-is D v x y e in
      let k : v < q = omega arith in
      let l : get_or lefts v 0 ≡ x = T.left v k ∙ sym s.left in
      record {
        below = h;
        left = l;
        longer = omega (arith, (R.parts_ready.lower v k (longer file lefts rights q D T v k s.long)).left);
        right = T.right v k ∙ sym s.right;
      }

  listed-bytes : (v : ℕ) → v < q → listed D v x y ≡ true → D.bytes v ≡ D.bytes x ++ D.bytes y
  listed-bytes v k e =
      let s = listed-is D v x y e in
      sym (T.joined v k s.long) ∙ ap₂ (λ (a b : List ℕ). a ++ b) (ap D.bytes (sym s.left)) (ap D.bytes (sym s.right))

  -- one row is listed with them
  one-listed : Distinct file → (v w : ℕ) → v < q → w < q → listed D v x y ≡ true → listed D w x y ≡ true → v ≡ w
  one-listed distinct v w hv hw e f =
      let g = R.few in
      let c = R.places_ready.count in
      distinct v w (omega arith) (omega arith) (sym (T.bytes v hv) ∙ listed-bytes v hv e ∙ sym (listed-bytes w hw f) ∙ T.bytes w hw)

  -- so none is below m where one from m on is
  none_before : Distinct file → (w m : ℕ) → w < q → m ≤ q → m ≤ w → listed D w x y ≡ true → listed_below D m x y ≡ false
  none_before distinct w m hw hm h f = listed-none D m x y (λ v k e. let z = one-listed distinct v w (omega arith) hw e f in omega arith)

  -- their join is w: any row that is listed with them is it
  module _ (w m : ℕ) (hm : m ≤ q) (distinct : Distinct file) (F : Finds file places n area)
      (J : Found file places n area (row file places n x ++ row file places n y) w) where
    joined : RowIs (row file places n) n (row file places n x ++ row file places n y) w
    joined = J.found F

    one-join : (v : ℕ) → v < m → listed D v x y ≡ true → v ≡ w
    one-join v h e =
        go (ℕ_discrete w none)
        (row_is v (omega arith) ∙ listed-bytes v (omega arith) e ∙ ap₂ (λ (a b : List ℕ). a ++ b) (sym (row_is x R.left_below)) (sym (row_is y R.right_below)))
      where
        go : Dec (w ≡ none) → row file places n v ≡ row file places n x ++ row file places n y → v ≡ w
        go (yes z) b = let g = R.few in absurd (joined.all z v (omega arith) b)
        go (no z) b =
            let Q = R.places_ready in
            let g = R.few in
            let c = Q.count in
            let i = joined.is z in
            distinct v w (omega arith) (omega (arith, i.0)) (sym (Q.rows_are v (omega arith)) ∙ b ∙ sym i.1 ∙ Q.rows_are w i.0)

    unlisted-join : listed_in lefts rights w m x y ≡ false → listed_below D m x y ≡ false
    unlisted-join e = listed-none D m x y (λ v h f.
        let i = one-join v h f in
        not_listed lefts rights w m x y e (subst (λ (z : ℕ). Facts lefts rights z m x y) i (listed_facts_are v m h hm f)))

module _ (P : PairTables) (n q m x y : ℕ) (hm : m ≤ q) where
  open P use {file, places, lefts, rights, area}

  -- a row below m that has them as its parts
  pub joins_listed : (w : ℕ) (b : Bool) → b ≡ listed_in lefts rights w m x y → b ≡ true → JoinIs P n q m x y w
  joins_listed w b e t =
      let f = listed-facts lefts rights w m x y (sym e ∙ t) in
      record {
        bound = inr f.below;
        nothing = λ z R D T d F M. absurd (let c = R.places_ready.placed.few in let k = R.few in let l = f.below in omega arith);
        is = λ _ R D T d F. facts-listed P n q x y R D T w m hm f;
      }

  -- one below q, which is below m or not
  pub joins_hinted : (w : ℕ) (b : Bool) → b ≡ listed_in lefts rights w q x y → b ≡ true → JoinIs P n q m x y (row_below w m)
  unfolding row_below
  joins_hinted w b e t = go (dec_lt w m)
    where
      f : Facts lefts rights w q x y
      f = listed-facts lefts rights w q x y (sym e ∙ t)

      go : Dec (w < m) → JoinIs P n q m x y (row_below w m)
      go (yes h) = rw (lt-ltb w m h, row_below) (record {
        bound = inr h;
        nothing = λ z R D T d F M. absurd (let c = R.places_ready.placed.few in let k = R.few in omega arith);
        is = λ _ R D T d F. facts-listed P n q x y R D T w q (omega arith) f;
      })
      go (no h) = rw (le-ltb w m (omega arith), row_below) (record {
        bound = inl refl;
        nothing = λ _ R D T d F M. none_before P n q x y R D T d w m f.below hm (omega arith) (facts-listed P n q x y R D T w q (omega arith) f);
        is = λ z. absurd (z refl);
      })

  -- the join was looked up, and does not have them as its parts
  pub joins_other : (w : ℕ) (b : Bool) → Found file places n area (row file places n x ++ row file places n y) w → b ≡ listed_in lefts rights w m x y → b ≡ false → JoinIs P n q m x y none
  joins_other w b J e t = record {
    bound = inl refl;
    nothing = λ _ R D T d F M. unlisted-join P n q x y R D T w m hm d F J (sym e ∙ t);
    is = λ z. absurd (z refl);
  }

  -- the two are not marked
  pub joins_unmarked : (k : ℕ) (b : Bool) → k ≡ pair_key x y → b ≡ marked area 15360 k → b ≡ false → JoinIs P n q m x y none
  joins_unmarked k b z f e = record {
    bound = inl refl;
    nothing = λ _ R D T d F M. unmarked P n q x y R D T m hm M (ap (marked area 15360) (sym z) ∙ sym f ∙ e);
    is = λ z. absurd (z refl);
  }
