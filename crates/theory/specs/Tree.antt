-- The tree of a text's prefixes, and the count of an interval. A prefix is given by its length.
use Rattle.std.specs.Prelude.{List, Bool, true, false, ◌&&◌, ◌||◌, ℕ, zero, suc, ◌+◌, ◌-◌, length, take, drop, eqb, ltb}
use Rattle.theory.specs.Dictionary.{Dictionary}
use Rattle.theory.specs.Merge.{encode}
use Rattle.theory.specs.Table.{last_code}

-- a tree of the numbers from 0 to m, given by the parent of each but 0; a parent is lower than its child
module _ (parent : ℕ → ℕ) where
  -- p is i or one of its ancestors, k of which are looked at
  abbrev pub above_in : ℕ → ℕ → ℕ → Bool
  above_in zero p i = eqb p i
  above_in (suc k) p i = eqb p i || (ltb 0 i && above_in k p (parent i))

  abbrev pub above : ℕ → ℕ → Bool
  above p i = above_in i p i

  abbrev pub one : Bool → ℕ
  one true = 1
  one false = 0

  -- how many of the numbers below e are p or below it
  abbrev pub size_below : ℕ → ℕ → ℕ
  size_below p zero = 0
  size_below p (suc i) = size_below p i + one (above p i)

  module _ (m : ℕ) where
    -- p and all below it
    abbrev pub size : ℕ → ℕ
    size p = size_below p (suc m)

    -- the sizes of the children of q below i, by rising number
    abbrev pub children_below : ℕ → ℕ → ℕ
    children_below q zero = 0
    children_below q (suc i) = children_below q i + elim (ltb 0 i && eqb (parent i) q) [ true ↦ size i | false ↦ 0 ]

    -- "The empty prefix has number 0; each prefix and all below it take consecutive numbers, itself first, then its
    -- children by rising length"; k levels at most
    abbrev pub number_in : ℕ → ℕ → ℕ
    number_in zero i = 0
    number_in (suc k) zero = 0
    number_in (suc k) (suc i) = number_in k (parent (suc i)) + 1 + children_below (parent (suc i)) (suc i)

    abbrev pub number : ℕ → ℕ
    number i = number_in i i

    -- "Its end is one past the last of them"
    abbrev pub end : ℕ → ℕ
    end p = number p + size p

module _ (D : Dictionary) (t : List ℕ) where
  -- "A prefix's parent is the prefix without its last code"
  unfoldable pub parent_of : ℕ → ℕ
  parent_of i = i - length (D.bytes (last_code D (take i t)))

  -- tree number and tree end of a prefix
  unfoldable pub tree_number : ℕ → ℕ
  tree_number i = number parent_of (length t) i

  unfoldable pub tree_end : ℕ → ℕ
  tree_end i = end parent_of (length t) i

  -- "its depth its count of codes"
  unfoldable pub depth : ℕ → ℕ
  depth i = length (encode D (take i t))

  -- the count of an interval, "the byte at the end not included"
  unfoldable pub interval_count : ℕ → ℕ → ℕ
  interval_count from to = length (encode D (take (to - from) (drop from t)))
