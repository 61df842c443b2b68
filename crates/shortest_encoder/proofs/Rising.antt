-- The rows that begin a text are met by rising length, from none on, and the last one is the longest. Assumes nothing.
use mathlib.Core.Path.{◌≡◌, refl, sym, ap}
use mathlib.Core.Logic.{◌⊎◌, inl, inr, ⊎_elim}
use mathlib.Core.List.{List, []}
use Prim.Native.Nat.{ℕ, ◌≤◌, ◌<◌}
use native.Mathlib.Omega.{arith}
use lib.ListN.{length}
use Rattle.theory.specs.Dictionary.{none}
use Rattle.placed_rows.specs.Rows.{row, Placed}
use Rattle.placed_rows.specs.Texts.{Begins}
use Rattle.placed_rows.proofs.Placing.{row-none}
use Rattle.placed_rows.proofs.Beginning.{begins-length}
use Rattle.search_area.specs.Area.{Finds}
use Rattle.search_area.specs.Answers.{NextMatch, Reached, Longer, Within, LongerMatch}

-- before any row, and at a longer one
module _ (R : ℕ → List ℕ) (n : ℕ) (t : List ℕ) where
  pub reached-none : R none ≡ [] → Reached R n t none 0
  reached-none root = record { known = inl refl; begins = record { rest = t; split = rw root }; size = sym (ap length root) }

  pub reached-more : (len r l : ℕ) → Longer R n t len r l → r < n → (r ≡ none → ⊥) → Reached R n t r l
  reached-more len r l L h ne = record { known = inr h; begins = (L.is ne).0; size = (L.is ne).1 }

pub none-empty : (file places : List ℕ) (n : ℕ) → Placed file places n → row file places n none ≡ []
none-empty file places n P = row-none file places n none (let f = P.few in omega arith)

-- a longer row is bounded
pub within : (file places : List ℕ) (n : ℕ) (area t : List ℕ) (p len r l : ℕ) → LongerMatch file places n area t p len r l → (r ≡ none → ⊥) → Within n len (length t) r l
within file places n area t p len r l M ne = ⊎_elim (λ z. absurd (ne z)) (λ w. w) M.bound

module _ (file places : List ℕ) (n : ℕ) (area t : List ℕ) where
  -- p is a row that begins t, of len bytes, or none
  abbrev Meets : ℕ → ℕ → Type 0
  Meets p len = Finds file places n area → Reached (row file places n) n t p len

  -- row p is met
  pub record Rising (p len : ℕ) : Type 0 where
    pub below : p < n
    pub some : 0 < len
    pub room : len ≤ length t
    pub meets : Meets p len

  meets-none : Placed file places n → Meets none 0
  meets-none P F = reached-none (row file places n) n t (none-empty file places n P)

  -- row p is the longest where no row is longer
  last : (p len : ℕ) → ((p ≡ none) × (len ≡ 0)) ⊎ ((p < n) × (0 < len)) → len ≤ length t → Meets p len
      → (Finds file places n area → (d : ℕ) → d < n → Begins (row file places n d) t → length (row file places n d) ≤ len) → NextMatch file places n area t p len
  last p len bound room meets all = record {
    bound = bound;
    room = room;
    longest = λ F.
        let Q = meets F in
        (record { known = Q.known; begins = Q.begins; longest = λ d h b. omega (arith, all F d h b, Q.size) }, Q.size);
  }

  -- the next row after p
  module _ (p len : ℕ) (Q : Meets p len) (r l : ℕ) (M : LongerMatch file places n area t p len r l) where
    next : (r ≡ none → ⊥) → Rising r l
    next ne =
        let w = within file places n area t p len r l M ne in
        record {
          below = w.below;
          some = omega (arith, w.longer);
          room = w.room;
          meets = λ F. reached-more (row file places n) n t len r l (M.next F (Q F)) w.below ne;
        }

    no_more : r ≡ none → Finds file places n area → (d : ℕ) → d < n → Begins (row file places n d) t → length (row file places n d) ≤ len
    no_more z F = (M.next F (Q F)).all z

  -- the first row
  module _ (P : Placed file places n) (r l : ℕ) (M : LongerMatch file places n area t none 0 r l) where
    pub rising-first : (r ≡ none → ⊥) → Rising r l
    rising-first = next none 0 (meets-none P) r l M

    pub rising_none : r ≡ none → NextMatch file places n area t none 0
    rising_none z = last none 0 (inl (refl, refl)) (omega arith) (meets-none P) (no_more none 0 (meets-none P) r l M z)

  module _ (p len : ℕ) (S : Rising p len) where
    here : ((p ≡ none) × (len ≡ 0)) ⊎ ((p < n) × (0 < len))
    here = inr (S.below, S.some)

    pub rising-ends : length t ≤ len → NextMatch file places n area t p len
    rising-ends h = last p len here S.room S.meets (λ F d k b. omega (arith, begins-length (row file places n d) t b))

    module _ (r l : ℕ) (M : LongerMatch file places n area t p len r l) where
      pub rising-more : (r ≡ none → ⊥) → Rising r l
      rising-more = next p len S.meets r l M

      pub rising-stops : r ≡ none → NextMatch file places n area t p len
      rising-stops z = last p len here S.room S.meets (no_more p len S.meets r l M z)
