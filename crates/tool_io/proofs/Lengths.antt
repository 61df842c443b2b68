-- The longest row, along the records of a file. Assumes nothing.
use Rattle.std.proofs.Common.{◌≡◌, refl, ℕ, ◌+◌, ◌<◌, ◌≤◌, List, length, map, arith, length-take, drop}
use Rattle.std.specs.Prelude.{All}
use Rattle.std.proofs.lemmas.List.Elements.{All-cons}
use Rattle.phrase_file.specs.Form.{rows, places, row_length, row_bytes, places_from}
use Rattle.phrase_file.proofs.Places.{Row, NoRow, row-found}

-- a row ends inside the file
pub row_fits : (file : List ℕ) (at : ℕ) → (row_length file at ≡ 0 → ⊥) → row_length file at + 3 + at ≤ length file
row_fits file at n =
    let r : Row file at (row_length file at) = row-found file at (row_length file at) refl n in
    omega (arith, r)

-- no row of a list is longer
abbrev pub Within : ℕ → List (List ℕ) → Type 0
Within n ls = All (λ row. length row ≤ n) ls

-- the longest of the rows before a place: a limit of it, and of the rows from the place on, is one of all
pub record Longest (file : List ℕ) (at most : ℕ) : Type 0 where
  pub inside : most ≤ length file
  pub limit : (n : ℕ) → most ≤ n → Within n (map (row_bytes file) (places_from file at)) → Within n (rows file)

pub longest_start : (file : List ℕ) → Longest file 0 0
unfolding rows places
longest_start file = record { inside = omega arith; limit = λ n h w. w }

-- a row has so many bytes at most
length-row_bytes : (file : List ℕ) (at : ℕ) → length (row_bytes file at) ≤ row_length file at
unfolding row_bytes
length-row_bytes file at = omega (arith, length-take (row_length file at) (drop (at + 3) file))

pub longest_on : (file : List ℕ) (at most m most' : ℕ) → Longest file at most → Row file at m
    → most ≤ most' → m ≤ most' → most' ≤ length file → Longest file (at + 3 + m) most'
longest_on file at most m most' l r a b c =
    record {
      inside = c;
      limit = λ (n : ℕ) (h : most' ≤ n) (w : Within n (map (row_bytes file) (places_from file (at + 3 + m)))).
          let e : length (row_bytes file at) ≤ n = omega (arith, length-row_bytes file at, r.size, b, h) in
          l.limit n (omega (arith, a, h))
          (rw r.places_are (All-cons (λ row. length row ≤ n) (row_bytes file at)
          (map (row_bytes file) (places_from file (at + 3 + m))) e w));
    }

pub longest_end : (file : List ℕ) (at most : ℕ) → Longest file at most → NoRow file at → Within most (rows file)
longest_end file at most l n =
    l.limit most (omega arith) (rw n.places_are (λ (k : ℕ) (d : List ℕ) (h : k < 0). absurd (omega (arith, h))))
