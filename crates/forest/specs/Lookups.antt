-- What a lookup in the rows' part answers: on any contents a bounded answer, and where the area lists the rows of a
-- set S, the true one.
use Rattle.std.specs.Prelude.{◌≡◌, List, [], ◌∷◌, ◌++◌, ◌⊎◌, Bool, true, false, ℕ, ◌+◌, ◌-◌, ◌≤◌, ◌<◌, length, get_or, drop}
use Rattle.theory.specs.Dictionary.{none}
use Rattle.placed_rows.specs.Texts.{Begins, begins}
use Rattle.placed_rows.specs.Longest.{Known, Longest}
use Rattle.forest.specs.Words.{word, tag_at, tag_of, more_of, In, Indexed}

-- w is the word of row d, whose prefix is q; where its byte beyond q is the first of rest, the bucket has told that q
-- is p
pub record WordOf (R : ℕ → List ℕ) (n p len : ℕ) (rest : List ℕ) (w d q : ℕ) : Type 0 where
  pub below : d < n
  pub shorter : length (R q) < length (R d)
  pub byte : get_or (R d) (length (R q)) 0 < 256
  pub is : w ≡ word d (tag_at (R d) (length (R q))) (length (R d) - length (R q))
  pub told : get_or (R d) (length (R q)) 0 ≡ get_or rest 0 0 → (q ≡ p) × (length (R q) ≡ len)

-- row d, whose prefix is q, goes on from p, of len bytes, as rest does
pub record GoesOn (R : ℕ → List ℕ) (p len : ℕ) (rest : List ℕ) (d q : ℕ) : Type 0 where
  pub under : q ≡ p
  pub from : length (R q) ≡ len
  pub on : begins (drop len (R d)) rest ≡ true

-- whether the row of word w goes on so
pub record Fits (R : ℕ → List ℕ) (n p len : ℕ) (rest : List ℕ) (w : ℕ) (r : Bool) : Type 0 where
  pub room : r ≡ true → more_of w ≤ length rest
  pub yes : (d q : ℕ) → WordOf R n p len rest w d q → r ≡ true → GoesOn R p len rest d q
  pub no : (d q : ℕ) → WordOf R n p len rest w d q → r ≡ false → GoesOn R p len rest d q → ⊥

-- row d of K is a child of p, of which p is the prefix, and begins p's bytes followed by rest
pub record Child (R : ℕ → List ℕ) (par : ℕ → ℕ) (K : ℕ → Type 0) (p : ℕ) (rest : List ℕ) (d : ℕ) : Type 0 where
  pub in-K : K d
  pub under : par d ≡ p
  pub on : Begins (R d) (R p ++ rest)

-- the area lists the rows of S, and p, of len bytes, is one of them, or none, of no bytes
pub record At (R : ℕ → List ℕ) (n : ℕ) (area : List ℕ) (S : ℕ → Bool) (p len : ℕ) : Type 0 where
  pub index : Indexed R n area S
  pub known : Known (In S) p
  pub size : len ≡ length (R p)

-- row r, of l bytes, is longer than len bytes, by no more than room
pub record Step (n len room r l : ℕ) : Type 0 where
  pub below : r < n
  pub longer : len < l
  pub fits : l ≤ len + room

-- r is the child of p, of len bytes, that goes on as rest does, and l its length; none where there is no such child
pub record ChildIs (R : ℕ → List ℕ) (n : ℕ) (area : List ℕ) (p len : ℕ) (rest : List ℕ) (r l : ℕ) : Type 0 where
  pub bound : (r ≡ none) ⊎ Step n len (length rest) r l
  pub sound : (r ≡ none → ⊥) → (S : ℕ → Bool) (a : At R n area S p len)
      → Child R a.index.par (In S) p rest r × (l ≡ length (R r))
  pub complete : r ≡ none → (S : ℕ → Bool) (a : At R n area S p len) (d : ℕ) → Child R a.index.par (In S) p rest d
      → ⊥

-- w is the word of a row that is one byte longer than its prefix, and this byte is b
pub record OneLonger (w b : ℕ) : Type 0 where
  pub byte : tag_of w ≡ b
  pub one : more_of w ≡ 1

-- r is the row that is the byte b alone, where the area lists such a row
pub record ByteRow (R : ℕ → List ℕ) (n : ℕ) (area : List ℕ) (b r : ℕ) : Type 0 where
  pub bound : (r ≡ none) ⊎ (r < n)
  pub is : (S : ℕ → Bool) → Indexed R n area S → (d : ℕ) → In S d → R d ≡ b ∷ [] → r ≡ d

-- r is the longest row that begins the bytes of from, len of them, followed by text, and l its length
pub record Descent (R : ℕ → List ℕ) (n : ℕ) (area : List ℕ) (from len : ℕ) (text : List ℕ) (r l : ℕ) : Type 0 where
  pub bound : ((r ≡ from) × (l ≡ len)) ⊎ ((r < n) × (len < l))
  pub room : l ≤ len + length text
  pub longest : (S : ℕ → Bool) → At R n area S from len → Longest R (In S) (R from ++ text) r × (l ≡ length (R r))
