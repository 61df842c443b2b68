-- The arrangement of the scratch: 4,096 heads of buckets, then the link of each row, then the hash of each row.
-- A row stands in the bucket of its hash modulo 4,096. A head and a link are a row, or none.
use Rattle.std.specs.Prelude.{List, ◌++◌, Bool, true, false, not, ◌&&◌, ◌||◌, ℕ, zero, suc, ◌+◌, ◌%◌, get_or, set, drop, replicate, eqb}
use Rattle.theory.specs.Dictionary.{none}
use Rattle.theory.specs.Lists.{equal}
use Rattle.clashes.specs.Clashes.{is_equal, shares_hash}

-- the scratch with its first i heads emptied
unfoldable pub emptied : List ℕ → ℕ → List ℕ
emptied area i = replicate i none ++ drop i area

-- the first row in the bucket of hash h, the row after row c, the hash of row c
abbrev pub head : List ℕ → ℕ → ℕ
head area h = get_or area (h % 4096) 0

abbrev pub link : List ℕ → ℕ → ℕ
link area c = get_or area (4096 + c) 0

abbrev pub stored : List ℕ → ℕ → ℕ
stored area c = get_or area (8192 + c) 0

-- whether a row that passes the test is met from row x on along the links, over rows below k: a link goes to a lower
-- row
unfoldable pub listed : List ℕ → (ℕ → Bool) → ℕ → ℕ → Bool
listed area test zero x = false
listed area test (suc k) x = elim (eqb x k) [
  | true ↦ test k || listed area test k (link area k)
  | false ↦ listed area test k x
]

-- the scratch after row c with hash h was put at the front of its bucket
unfoldable pub pushed : List ℕ → ℕ → ℕ → List ℕ
pushed area c h = set (set (set area (8192 + c) h) (4096 + c) (head area h)) (h % 4096) c

-- row c is stored with the hash h and, where rows are looked for by their bytes, has the bytes b
unfoldable pub is_sought : List ℕ → (ℕ → List ℕ) → ℕ → List ℕ → Bool → ℕ → Bool
is_sought area bytes h b exact c = eqb (stored area c) h && (not exact || equal (bytes c) b)

-- what is looked for so: a row with the bytes of an earlier one, or with the hash of an earlier one
abbrev pub sought : (ℕ → List ℕ) → ℕ → Bool → ℕ → ℕ → Bool
sought bytes factor true = is_equal bytes
sought bytes factor false = shares_hash bytes factor
