-- Document 01's sample phrase files and its cases marked P, as one table.
use Rattle.std.specs.Prelude.{List, [], ◌∷◌, Bool, true, false, ℕ, zero, suc}
use Rattle.theory.specs.Merge.{encode}
use Rattle.theory.specs.PairCheck.{passes}
use Rattle.theory.specs.Parts.{dictionary}
use Rattle.theory.specs.Shortest.{shortest, greedy}
use Rattle.theory.specs.Typing.{append, prepend, count_at}
use Rattle.theory.specs.Tree.{interval_count}

-- n one-byte rows from b on, before the rows r
abbrev pub bytes_from : ℕ → ℕ → List (List ℕ) → List (List ℕ)
bytes_from zero b r = r
bytes_from (suc n) b r = (b ∷ []) ∷ bytes_from n (suc b) r

-- E = B, "bc", "ab", "cd"
unfoldable pub E : List (List ℕ)
E = bytes_from 256 0 ((98 ∷ 99 ∷ []) ∷ (97 ∷ 98 ∷ []) ∷ (99 ∷ 100 ∷ []) ∷ [])

-- F = B, "aa"
unfoldable pub F : List (List ℕ)
F = bytes_from 256 0 ((97 ∷ 97 ∷ []) ∷ [])

-- G = "ab", then B, "bc", "bcd"
unfoldable pub G : List (List ℕ)
G = (97 ∷ 98 ∷ []) ∷ bytes_from 256 0 ((98 ∷ 99 ∷ []) ∷ (98 ∷ 99 ∷ 100 ∷ []) ∷ [])

-- n times b, and c
abbrev pub bs_and_c : ℕ → List ℕ
bs_and_c zero = 99 ∷ []
bs_and_c (suc n) = 98 ∷ bs_and_c n

-- n rows from b^k c on, before the rows r
abbrev pub bs_from : ℕ → ℕ → List (List ℕ) → List (List ℕ)
bs_from zero k r = r
bs_from (suc n) k r = bs_and_c k ∷ bs_from n (suc k) r

-- B, "bc", "bbc", .. b^13 c, "ab": on the way to the two codes of a b^13 c there are thirteen
unfoldable pub H : List (List ℕ)
H = bytes_from 256 0 (bs_from 13 1 ((97 ∷ 98 ∷ []) ∷ []))

abbrev pub abcd : List ℕ
abcd = 97 ∷ 98 ∷ 99 ∷ 100 ∷ []

abbrev pub dcba : List ℕ
dcba = 100 ∷ 99 ∷ 98 ∷ 97 ∷ []

abbrev pub aaa : List ℕ
aaa = 97 ∷ 97 ∷ 97 ∷ []

-- 1 where a pair passes, 0 where it fails
abbrev pub mark : Bool → ℕ
mark true = 1
mark false = 0

-- a case: what the definitions give, and what document 01 says
pub record Case : Type 0 where
  pub given : List ℕ
  pub said : List ℕ

unfoldable pub cases : List Case
cases =
    -- P1 E "abcd" merge
    record { given = encode (dictionary E) abcd; said = 97 ∷ 256 ∷ 100 ∷ [] }
    -- P2 shortest and P3 greedy
    ∷ record { given = shortest (dictionary E) abcd; said = 257 ∷ 258 ∷ [] }
    ∷ record { given = greedy (dictionary E) abcd; said = 257 ∷ 258 ∷ [] }
    -- P4 append counts; P5 prepending d, c, b, a
    ∷ record {
      given =
          count_at (dictionary E) append abcd 0 ∷ count_at (dictionary E) append abcd 1
          ∷ count_at (dictionary E) append abcd 2 ∷ count_at (dictionary E) append abcd 3 ∷ [];
      said = 1 ∷ 1 ∷ 2 ∷ 3 ∷ [];
    }
    ∷ record {
      given =
          count_at (dictionary E) prepend dcba 0 ∷ count_at (dictionary E) prepend dcba 1
          ∷ count_at (dictionary E) prepend dcba 2 ∷ count_at (dictionary E) prepend dcba 3 ∷ [];
      said = 1 ∷ 1 ∷ 2 ∷ 3 ∷ [];
    }
    -- P6 interval 1 to 4; P7 2 to 2
    ∷ record { given = interval_count (dictionary E) abcd 1 4 ∷ []; said = 2 ∷ [] }
    ∷ record { given = interval_count (dictionary E) abcd 2 2 ∷ []; said = 0 ∷ [] }
    -- P8 F "aaa"
    ∷ record { given = encode (dictionary F) aaa; said = 256 ∷ 97 ∷ [] }
    -- P9 pair 97, 256 fails; P10 pair 256, 97 passes
    ∷ record { given = mark (passes (dictionary F) 257 97 256) ∷ []; said = 0 ∷ [] }
    ∷ record { given = mark (passes (dictionary F) 257 256 97) ∷ []; said = 1 ∷ [] }
    ∷ []
