-- Laws of the byte values that have a row. Assumes nothing.
use mathlib.Core.Path.{◌≡◌, refl, sym, ap, ◌∙◌}
use mathlib.Core.List.{List, [], ◌∷◌, map}
use mathlib.Core.Bool.{Bool, true, false, not, cond, ◌||◌, or-true, or-false}
use mathlib.Core.Logic.{⊎_elim}
use Prim.Native.Nat.{ℕ, zero, suc, ◌+◌, ◌-◌, ◌<◌, ◌≤◌}
use native.Mathlib.Decide.{ℕ_discrete}
use native.Mathlib.Nat.{eq-or-lt_of_le}
use native.Mathlib.Numerals.{add-one}
use native.Mathlib.Omega.{arith}
use lib.ListN.{length, get_or, set, replicate, get_or-replicate, length-take, length-drop}
use lib.Seq.{get_or-set_same, get_or-set_other, drop-cons}
use lib.Dec.{eqb}
use borrow.Author.Tests.{eq-eqb, ne_eqb, eqb-true, ltb-true, ltb-false}
use Rattle.std.specs.Prelude.{Some, None, nat_lt}
use Rattle.std.specs.List.{position, position_or_len}
use Rattle.std.proofs.lemmas.Option.{none-some}
use Rattle.phrase_file.specs.Form.{row_bytes, places_from, places, rows}
use Rattle.phrase_file.specs.Checks.{is_byte, has_byte, first_not}
use Rattle.phrase_file.proofs.Places.{NoRow, Row}

-- a row with some bytes, by its number
pub record HasRow (rows : List (List ℕ)) (bytes : List ℕ) : Type 0 where
  pub row : ℕ
  pub below : row < length rows
  pub is : get_or rows row [] ≡ bytes

one_byte : (b : ℕ) (row : List ℕ) → is_byte b row ≡ true → row ≡ b ∷ []
unfolding is_byte
one_byte b [] e = let z : ◌≡◌ {A = ℕ} 0 1 = cc in absurd (omega arith)
one_byte b (x ∷ []) e = ap (λ (y : ℕ). y ∷ []) (eqb-true x b e)
one_byte b (x ∷ y ∷ rest) e = let z : ◌≡◌ {A = ℕ} 0 1 = cc in absurd (omega arith)

longer : (b : ℕ) (row : List ℕ) → (length row ≡ 1 → ⊥) → is_byte b row ≡ false
unfolding is_byte
longer b [] n = refl
longer b (x ∷ []) n = absurd (n refl)
longer b (x ∷ y ∷ rest) n = refl

-- a byte value that has a row has one with a number
pub has-row : (rows : List (List ℕ)) (b : ℕ) → has_byte rows b ≡ true → HasRow rows (b ∷ [])
unfolding has_byte
has-row [] b e = let z : ◌≡◌ {A = ℕ} 0 1 = cc in absurd (omega arith)
has-row (row ∷ rest) b e = go (is_byte b row) refl e (has-row rest b)
  where
    go : (t : Bool) → is_byte b row ≡ t → t || has_byte rest b ≡ true → (has_byte rest b ≡ true → HasRow rest (b ∷ [])) → HasRow (row ∷ rest) (b ∷ [])
    go true q e ih = record { row = 0; below = omega arith; is = one_byte b row q }
    go false q e ih = let h = ih e in record { row = suc h.row; below = omega (arith, h.below); is = h.is }

-- the bytes marked in seen and those of the rows from an offset on are those of all rows
abbrev pub Seen : List ℕ → List Bool → ℕ → Type 0
Seen file seen at = (b : ℕ) → b < 256 → get_or seen b false || has_byte (map (row_bytes file) (places_from file at)) b ≡ has_byte (rows file) b

pub seen_start : (file : List ℕ) → Seen file (replicate 256 false) 0
unfolding rows places
seen_start file b l = rw (get_or-replicate 256 b false false l)

pub seen_done : (file : List ℕ) (seen : List Bool) (at : ℕ) → NoRow file at → Seen file seen at → (b : ℕ) → b < 256 → get_or seen b false ≡ has_byte (rows file) b
unfolding has_byte
seen_done file seen at n h b l = sym (or-false (get_or seen b false)) ∙ (rw n.places_are at (h b l))

module _ (file : List ℕ) (seen : List Bool) (at m : ℕ) (r : Row file at m) (h : Seen file seen at) where
  bytes-length : length (row_bytes file at) ≡ m
  unfolding row_bytes
  bytes-length = rw (← r.size) (simp (length-take, length-drop) (omega (arith, r.inside)))

  head_byte : m ≡ 1 → row_bytes file at ≡ get_or file (at + 3) 0 ∷ []
  unfolding row_bytes
  head_byte one =
      let l : at + 3 < length file = omega (arith, r.inside) in
      rw (← r.size, one, drop-cons file (at + 3) 0 l)

  split : (b : ℕ) → b < 256 → get_or seen b false || (is_byte b (row_bytes file at) || has_byte (map (row_bytes file) (places_from file (at + 3 + m))) b) ≡ has_byte (rows file) b
  unfolding has_byte
  split b l = rw r.places_are at (h b l)

  pub seen_skip : (m ≡ 1 → ⊥) → Seen file seen (at + 3 + m)
  seen_skip n b l = rw (longer b (row_bytes file at) (λ q. n (sym bytes-length ∙ q))) at (split b l)

  pub seen-mark : m ≡ 1 → get_or file (at + 3) 0 < length seen → Seen file (set seen (get_or file (at + 3) 0) true) (at + 3 + m)
  unfolding is_byte
  seen-mark one l b lb = go (ℕ_discrete (get_or file (at + 3) 0) b) (rw (head_byte one) at (split b lb))
    where
      go : Dec (get_or file (at + 3) 0 ≡ b)
          → get_or seen b false || (eqb (get_or file (at + 3) 0) b || has_byte (map (row_bytes file) (places_from file (at + 3 + m))) b) ≡ has_byte (rows file) b
          → get_or (set seen (get_or file (at + 3) 0) true) b false || has_byte (map (row_bytes file) (places_from file (at + 3 + m))) b ≡ has_byte (rows file) b
      go (yes q) e = rw (← q, get_or-set_same seen (get_or file (at + 3) 0) true false l) (rw (eq-eqb (get_or file (at + 3) 0) b q, or-true, ← q) at e)
      go (no n) e = rw (get_or-set_other seen (get_or file (at + 3) 0) b true false (λ q. n (sym q))) (rw (ne_eqb (get_or file (at + 3) 0) b n) at e)

-- the first number at which a test fails

module _ (test : ℕ → Bool) where
  holds : (k b : ℕ) → test b ≡ true → first_not (suc k) test b ≡ first_not k test (suc b)
  unfolding first_not
  holds k b e = rw (e, first_not)

  fails : (k b : ℕ) → test b ≡ false → first_not (suc k) test b ≡ b
  unfolding first_not
  fails k b e = rw (e, first_not)

  left : (n b : ℕ) → b < n → first_not (n - b) test b ≡ first_not (suc (n - (b + 1))) test b
  left n b h = ap (λ (k : ℕ). first_not k test b) (omega arith)

  pub first-passed : (n b : ℕ) → b < n → test b ≡ true → first_not (n - b) test b ≡ first_not (n - (b + 1)) test (b + 1)
  first-passed n b h e = left n b h ∙ holds (n - (b + 1)) b e ∙ rw add-one

  pub first-here : (n b : ℕ) → b < n → test b ≡ false → first_not (n - b) test b ≡ b
  first-here n b h e = left n b h ∙ fails (n - (b + 1)) b e

  pub first-end : (n b : ℕ) → n ≤ b → first_not (n - b) test b ≡ b
  unfolding first_not
  first-end n b h = let q : n - b ≡ 0 = omega arith in rw q

  -- where none fails, the test holds of all
  pub first-none : (k b : ℕ) → b + k ≤ first_not k test b → (j : ℕ) → b ≤ j → j < b + k → test j ≡ true
  first-none zero b h j l m = absurd (omega arith)
  first-none (suc k) b h j l m = go (test b) refl (first-none k (suc b))
    where
      go : (t : Bool) → test b ≡ t → (suc b + k ≤ first_not k test (suc b) → (j : ℕ) → suc b ≤ j → j < suc b + k → test j ≡ true) → test j ≡ true
      go true e ih =
          ⊎_elim (λ q. rw (← q) e) (λ q. ih (omega (arith, holds k b e)) j q (omega arith)) (eq-or-lt_of_le l)
      go false e ih = absurd (omega (arith, fails k b e))

pub first-same : (f g : ℕ → Bool) (k b : ℕ) → ((j : ℕ) → j < b + k → f j ≡ g j) → first_not k f b ≡ first_not k g b
unfolding first_not
first-same f g zero b h = refl
first-same f g (suc k) b h = go (g b) refl (h b (omega arith)) (first-same f g k (suc b) (λ j l. h j (omega arith)))
  where
    go : (t : Bool) → g b ≡ t → f b ≡ g b → first_not k f (suc b) ≡ first_not k g (suc b) → first_not (suc k) f b ≡ first_not (suc k) g b
    go true e s ih = holds f k b (s ∙ e) ∙ ih ∙ sym (holds g k b e)
    go false e s ih = fails f k b (s ∙ e) ∙ sym (fails g k b e)

-- the lowest byte value that is not marked, as `position` finds it
later : (f : ℕ → Bool) (k b : ℕ) → first_not k f (suc b) ≡ suc (first_not k (λ j. f (suc j)) b)
unfolding first_not
later f zero b = refl
later f (suc k) b = go (f (suc b)) refl (later f k (suc b))
  where
    go : (t : Bool) → f (suc b) ≡ t → first_not k f (suc (suc b)) ≡ suc (first_not k (λ j. f (suc j)) (suc b)) → first_not (suc k) f (suc b) ≡ suc (first_not (suc k) (λ j. f (suc j)) b)
    go true e ih = holds f k (suc b) e ∙ ih ∙ ap suc (sym (holds (λ j. f (suc j)) k b e))
    go false e ih = fails f k (suc b) e ∙ ap suc (sym (fails (λ j. f (suc j)) k b e))

unmarked : (seen : List Bool) → first_not (length seen) (λ (b : ℕ). get_or seen b false) 0 ≡ position_or_len not seen
unfolding first_not
unmarked [] = refl
unmarked (true ∷ seen) = omega (arith, later (λ (b : ℕ). get_or (true ∷ seen) b false) (length seen) 0, unmarked seen)
unmarked (false ∷ seen) = refl

module _ (seen : List Bool) (l : length seen ≡ 256) where
  abbrev lowest : ℕ
  lowest = first_not 256 (λ (b : ℕ). get_or seen b false) 0

  lowest_is : lowest ≡ position_or_len not seen
  lowest_is = ap (λ (k : ℕ). first_not k (λ (b : ℕ). get_or seen b false) 0) (sym l) ∙ unmarked seen

  pub missing_some : (b : ℕ) → Some b ≡ position not seen → (b ≡ lowest) × (b < 256)
  missing_some b e = go (nat_lt (position_or_len not seen) (length seen)) refl e
    where
      go : (t : Bool) → nat_lt (position_or_len not seen) (length seen) ≡ t → Some b ≡ cond t (Some (position_or_len not seen)) None → (b ≡ lowest) × (b < 256)
      go true q f = let same : b ≡ position_or_len not seen = cc in (same ∙ sym lowest_is, omega (arith, ltb-true _ _ q))
      go false q f = absurd (none-some b (sym f))

  pub missing_none : None ≡ position not seen → 256 ≤ lowest
  missing_none e = go (nat_lt (position_or_len not seen) (length seen)) refl e
    where
      go : (t : Bool) → nat_lt (position_or_len not seen) (length seen) ≡ t → None ≡ cond t (Some (position_or_len not seen)) None → 256 ≤ lowest
      go true q f = absurd (none-some (position_or_len not seen) f)
      go false q f = omega (arith, lowest_is, ltb-false _ _ q)
