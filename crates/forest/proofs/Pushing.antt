-- A area after one word was put at a place, before the word that stood there. Assumes nothing.
use mathlib.Core.Path.{◌≡◌, sym, ◌∙◌}
use mathlib.Core.List.{List}
use Prim.Native.Nat.{ℕ, ◌+◌, ◌/◌, ◌≤◌, ◌<◌}
use native.Mathlib.Omega.{arith}
use lib.ListN.{length, get_or, set, length-set}
use lib.Seq.{get_or-set_same, get_or-set_other}
use borrow.Author.Tests.{lt-ltb, le-ltb}
use Rattle.marks.specs.Marks.{marked}
use Rattle.marks.proofs.Laws.{marked-same}
use Rattle.forest.specs.Words.{row_of, marks_from}
use Rattle.forest.specs.Growth.{place_of, put}

-- the place of a bucket that has a word, and of an empty one
pub place_in : (area : List ℕ) (n h : ℕ) → row_of (get_or area h 0) < n → place_of area n h ≡ 8448 + row_of (get_or area h 0)
unfolding place_of
place_in area n h l = rw (lt-ltb (row_of (get_or area h 0)) n l, place_of)

pub place_out : (area : List ℕ) (n h : ℕ) → n ≤ row_of (get_or area h 0) → place_of area n h ≡ h
unfolding place_of
place_out area n h l = rw (le-ltb (row_of (get_or area h 0)) n l, place_of)

pub length-put : (area : List ℕ) (a c w : ℕ) → length (put area a c w) ≡ length area
unfolding put
length-put area a c w = length-set (set area (8448 + c) (get_or area a 0)) a w ∙ length-set area (8448 + c) (get_or area a 0)

-- a is a head or a link of the area, and not the link of row c
pub record Place (area : List ℕ) (a c : ℕ) : Type 0 where
  pub below : a < 12544
  pub no_mark : 4352 ≤ a → 8448 ≤ a
  pub apart : a ≡ 8448 + c → ⊥
  pub row : c < 4096
  pub room : 12544 ≤ length area

module _ (area : List ℕ) (a c w : ℕ) (P : Place area a c) where
  pub put-at : get_or (put area a c w) a 0 ≡ w
  unfolding put
  put-at = get_or-set_same (set area (8448 + c) (get_or area a 0)) a w 0 (omega (arith, P.below, P.room, length-set area (8448 + c) (get_or area a 0)))

  pub put-link : get_or (put area a c w) (8448 + c) 0 ≡ get_or area a 0
  unfolding put
  put-link =
      get_or-set_other (set area (8448 + c) (get_or area a 0)) a (8448 + c) w 0 (λ z. P.apart (sym z))
      ∙ get_or-set_same area (8448 + c) (get_or area a 0) 0 (omega (arith, P.row, P.room))

  pub put_other : (x : ℕ) → (x ≡ a → ⊥) → (x ≡ 8448 + c → ⊥) → get_or (put area a c w) x 0 ≡ get_or area x 0
  unfolding put
  put_other x e f = get_or-set_other (set area (8448 + c) (get_or area a 0)) a x w 0 e ∙ get_or-set_other area (8448 + c) x (get_or area a 0) 0 f

  -- the marks stay
  pub marks-keep : (k : ℕ) → k < 4194304 → marked (put area a c w) marks_from k ≡ marked area marks_from k
  marks-keep k l = marked-same area marks_from (put area a c w) k (kept (marks_from + k / 1024) (omega arith) (omega arith))
    where
      kept : (i : ℕ) → 4352 ≤ i → i < 8448 → get_or (put area a c w) i 0 ≡ get_or area i 0
      kept i l h = put_other i (λ z. omega (arith, P.no_mark (omega arith))) (λ z. omega arith)
