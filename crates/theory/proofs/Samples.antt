-- Document 01's cases marked P, computed on the definitions; and what its sample files are.
use mathlib.Core.Path.{◌≡◌, refl}
use mathlib.Core.List.{[], ◌∷◌, map}
use mathlib.Core.Option.{none}
use lib.ListN.{get_or}
use Rattle.theory.specs.Merge.{encode}
use Rattle.theory.specs.Parts.{Accepted, dictionary, parts_below, longest_at}
use Rattle.theory.specs.Shortest.{shortest, greedy}
use Rattle.theory.specs.Typing.{count_at}
use Rattle.theory.specs.Tree.{interval_count}
use Rattle.theory.specs.Backtracking.{backtrack}
use Rattle.theory.specs.CountLimit.{counted, over, final, count_till_limit}
use Rattle.theory.specs.Table.{table_codes, last_codes, last_code}
use Rattle.theory.proofs.AcceptedTest.{is_accepted, accepted_by_test}
use Rattle.theory.specs.Samples.{E, F, G, H, Case, cases, abcd, bs_and_c}

-- P1 to P10
pub samples : map (λ (c : Case). c.given) cases ≡ map (λ (c : Case). c.said) cases
unfolding cases E F encode dictionary parts_below shortest greedy longest_at count_at interval_count
samples = refl

-- E and F are accepted, so the theorems on accepted rows speak of something
pub E-accepted : Accepted E
unfolding E is_accepted parts_below
E-accepted = accepted_by_test E refl

pub F-accepted : Accepted F
unfolding F is_accepted parts_below
F-accepted = accepted_by_test F refl

-- G has no parts for row 0
pub G-refused : get_or (parts_below G 259) 0 none ≡ none
unfolding G parts_below
G-refused = refl

-- backtracking and the table on P1
pub backtracked : backtrack (dictionary E) abcd ≡ 97 ∷ 256 ∷ 100 ∷ []
unfolding E dictionary parts_below backtrack
backtracked = refl

pub tabled : table_codes (dictionary E) abcd ≡ 97 ∷ 256 ∷ 100 ∷ []
unfolding E dictionary parts_below table_codes last_codes last_code encode
tabled = refl

-- the count with a limit: E "abcd" with 2 and 3, the empty text with 0, and a b^13 c, of two codes, with 1, 2 and 3
pub limits :
    count_till_limit (dictionary E) abcd 2 ∷ count_till_limit (dictionary E) abcd 3 ∷ count_till_limit (dictionary E) [] 0
    ∷ count_till_limit (dictionary H) (97 ∷ bs_and_c 13) 1 ∷ count_till_limit (dictionary H) (97 ∷ bs_and_c 13) 2
    ∷ count_till_limit (dictionary H) (97 ∷ bs_and_c 13) 3 ∷ []
    ≡ over ∷ counted 3 ∷ counted 0 ∷ over ∷ counted 2 ∷ counted 2 ∷ []
unfolding E H encode dictionary parts_below count_till_limit final
limits = refl
