-- One key found anew: the row that has two codes as its parts, in terms of the dictionary, and its place in the queue of the row. Assumes nothing.
use mathlib.Core.Path.{◌≡◌, sym, ◌∙◌}
use mathlib.Core.Logic.{⊎_elim}
use mathlib.Core.List.{List}
use mathlib.Core.Bool.{true}
use Prim.Native.Nat.{ℕ, ◌<◌}
use native.Mathlib.Decide.{ℕ_discrete}
use native.Mathlib.Omega.{arith}
use lib.ListN.{length, get_or}
use lib.Seq.{get_or-set_same, get_or-set_other}
use Rattle.theory.specs.Dictionary.{Dictionary, none}
use Rattle.theory.specs.Paper.{listed}
use Rattle.theory.proofs.Lists.{true-false}
use Rattle.theory.proofs.PairSteps.{listed-one}
use Rattle.theory.proofs.Stage.{spell-hit}
use Rattle.theory.proofs.Merge.{distinct}
use Rattle.pair_check.specs.Pair.{PairReady, JoinReady, JoinIs}
use Rattle.built_tables.specs.Built.{dictionary_of, Built}
use Rattle.built_tables.proofs.Rows.{count_is, places_ready, lawful-is, tells, distinct-rows}
use Rattle.built_tables.proofs.InForm.{ready}
use Rattle.merge_encoder.specs.declared.joins.Joins.{Joins}
use Rattle.merge_encoder.specs.Pushing.{Pushed}
use Rattle.merge_encoder.specs.Steps.{JoinKey, RenewReady, Renewed}
use Rattle.tables.specs.Tables.{PairTables, with_prefixes}

-- k is the row below n that has x and y as its parts, or none
module _ (P : PairTables) (n x y k : ℕ) (hx : x < n) (hy : y < n) (J : JoinIs P n n n x y k) where
  open P use {file}

  module _ (prefixes : List ℕ) (B : Built (with_prefixes P prefixes) n) where
    abbrev D : Dictionary
    D = dictionary_of file

    pair-ready : PairReady P n n x y
    pair-ready = record {
      places_ready = places_ready (with_prefixes P prefixes) n B;
      parts_ready = (ready (with_prefixes P prefixes) n B).parts_ready;
      area_room = B.area_room;
      few = omega arith;
      left_below = hx;
      right_below = hy;
    }

    some : (k ≡ none → ⊥) → listed (dictionary_of file) k x y ≡ true
    some z = J.is z pair-ready D (tells (with_prefixes P prefixes) n B) (distinct-rows (with_prefixes P prefixes) n B) B.finds

    only : (r : ℕ) → r < n → listed (dictionary_of file) r x y ≡ true → Dec (k ≡ none) → k ≡ r
    only r h e (yes z) =
        absurd (true-false (sym (listed-one D n x y r h e) ∙ J.nothing z pair-ready D (tells (with_prefixes P prefixes) n B) (distinct-rows (with_prefixes P prefixes) n B) B.finds B.pairs_marked))
    only r h e (no z) =
        let L = lawful-is (with_prefixes P prefixes) n B in
        let c = count_is (with_prefixes P prefixes) n B in
        let l : k < n = ⊎_elim (λ w. absurd (z w)) (λ w. w) J.bound in
        distinct D L k r (omega arith) (omega arith) (sym (spell-hit D L.laws k x y (some z)) ∙ spell-hit D L.laws r x y e)

  pub join-key : JoinKey P n x y k
  join-key = record { bound = J.bound; built = λ prefixes B. record { is = some prefixes B; only = λ r h e. only prefixes B r h e (ℕ_discrete k none) } }

module _ (P : PairTables) (n len : ℕ) (work : List ℕ) (Q : Joins) (at next : ℕ) (R : RenewReady P n len work Q at next) where
  at_room : at < length Q.keys
  at_room = omega (arith, Q.keys_room, R.at_below, R.codes_ready.few)

  module _ (row : ℕ) (Q' : Joins) (A : Pushed Q at row Q') where
    here : get_or Q'.keys at 0 ≡ row
    here = rw A.is (get_or-set_same Q.keys at row 0 at_room)

    renewed : (next ≡ len → row ≡ none) → (next < len → JoinKey P n (get_or work at 0) (get_or work next 0) row) → Renewed P n len work Q at next Q'
    renewed f g = record {
      last = λ e. here ∙ f e;
      here = λ l. rw here (g l);
      others = λ i h. rw A.is (get_or-set_other Q.keys at i row 0 h);
      same_live = A.live;
      longer = A.longer;
      few = A.few;
      fresh = λ s. rw here (A.fresh (λ z. s (here ∙ z)));
    }

  module _ (h : next < len) where
    pub join-ready : JoinReady P n n n (get_or work at 0) (get_or work next 0)
    join-ready = record {
      placed = R.tables.rows_ready.places_ready.placed;
      area_room = R.tables.rows_ready.area_room;
      left_room = R.tables.parts_ready.left_room;
      right_room = R.tables.parts_ready.right_room;
      below = omega arith;
      left_below = R.codes_ready.codes at R.at_below;
      right_below = R.codes_ready.codes next h;
    }

    module _ (row : ℕ) (J : JoinIs P n n n (get_or work at 0) (get_or work next 0) row) where
      pub renewed-more : (Q' : Joins) → Pushed Q at row Q' → Renewed P n len work Q at next Q'
      renewed-more Q' A =
          renewed row Q' A (λ e. absurd (omega arith)) (λ l. join-key P n (get_or work at 0) (get_or work next 0) row join-ready.left_below join-ready.right_below J)
