-- Tree numbers, tree ends and depths: each prefix takes the running end of its parent as its number. Assumes nothing.
use mathlib.Core.Path.{◌≡◌, refl, sym, ap, ◌∙◌}
use mathlib.Core.Logic.{⊎_elim}
use mathlib.Core.List.{List}
use Prim.Native.Nat.{ℕ, suc, ◌+◌, ◌-◌, ◌≤◌, ◌<◌}
use native.Mathlib.Nat.{eq-or-lt_of_le}
use native.Mathlib.Numerals.{add-one}
use native.Mathlib.Omega.{arith}
use lib.ListN.{length-set, get_or, set}
use lib.Dec.{eqb}
use lib.Seq.{get_or-set_same, get_or-set_other, drop-set-lt}
use borrow.Author.Tests.{eqb-true, eqb-false}
use Rattle.theory.specs.Tree.{number}
use Rattle.theory.proofs.Lists.{bool_cases}
use Rattle.theory.proofs.Tree.{tree_ind, number-le, running_end, running_end-start, running_end-child, running_end-hit, running_end_miss, running_end-all, running_end-le}
use Rattle.interval_prepare.specs.Steps.{parent_in, ChildReady, ChildPlaced, TreeReady, WrittenTo, TreeIs}
use Rattle.interval_prepare.proofs.Parents.{lower}

-- what one store leaves
pub stored : (m : ℕ) (table₀ table : List ℕ) (i v : ℕ) → i ≤ m → WrittenTo m table₀ table → WrittenTo m table₀ (set table i v)
stored m table₀ table i v h W = record { same_length = length-set table i v ∙ W.same_length; beyond = drop-set-lt (m + 1) table i v (omega arith) ∙ W.beyond }

-- each is 0, or has a depth one more than its parent: it is no deeper than it is long
pub depth-bound : (parent : ℕ → ℕ) (m : ℕ) → ((i : ℕ) → 0 < i → i ≤ m → parent i < i) → (depths : List ℕ) → get_or depths 0 0 ≡ 0
    → ((p : ℕ) → 0 < p → p ≤ m → get_or depths p 0 ≡ get_or depths (parent p) 0 + 1) → (p : ℕ) → p ≤ m → get_or depths p 0 ≤ p
depth-bound parent m low depths root child = tree_ind parent m low (λ p. get_or depths p 0 ≤ p)
    (omega (arith, root))
    (λ i z h ih. omega (arith, child i z h, low i z h))

module _ (file places : List ℕ) (n m : ℕ) (codes work numbers₀ ends₀ depths₀ : List ℕ) where
  abbrev parent : ℕ → ℕ
  parent = parent_in file codes

  -- the prefixes shorter than i are placed
  pub record Placing (i : ℕ) (numbers ends depths : List ℕ) : Type 0 where
    pub ready : TreeReady file places n m codes work numbers₀ ends₀ depths₀
    pub some : 0 < i
    pub within : i ≤ m + 1
    pub numbers_written : WrittenTo m numbers₀ numbers
    pub ends_written : WrittenTo m ends₀ ends
    pub depths_written : WrittenTo m depths₀ depths
    pub numbers_are : (p : ℕ) → p < i → get_or numbers p 0 ≡ number parent m p
    pub ends_are : (p : ℕ) → p < i → get_or ends p 0 ≡ running_end parent m i p
    pub depth_root : get_or depths 0 0 ≡ 0
    pub depth_child : (p : ℕ) → 0 < p → p < i → get_or depths p 0 ≡ get_or depths (parent p) 0 + 1

  low : TreeReady file places n m codes work numbers₀ ends₀ depths₀ → (i : ℕ) → 0 < i → i ≤ m → parent i < i
  low R = lower file places n m codes R.rows

  module _ (i : ℕ) (numbers ends depths : List ℕ) (P : Placing i numbers ends depths) where
    abbrev lw : (i : ℕ) → 0 < i → i ≤ m → parent i < i
    lw = low P.ready

    module _ (h : i ≤ m) where
      module _ (q s : ℕ) (e : q ≡ parent i) (f : s ≡ get_or work (i - 1) 0) where
        below : q < i
        below = omega (arith, lw i P.some h)

        -- the parent's end is the number of i, and moves by the size of i
        number_is : get_or ends q 0 ≡ number parent m i
        number_is = P.ends_are q below ∙ sym (running_end-child parent m lw q i P.some h (sym e))

        moved : get_or ends q 0 + s ≡ running_end parent m (i + 1) q
        moved = rw add-one (omega (arith, P.ends_are q below, running_end-hit parent m lw q i P.some (sym e), P.ready.sizes i P.some h))

        depth-few : get_or depths q 0 ≤ q
        depth-few = depth-bound parent (i - 1) (λ j z l. lw j z (omega arith)) depths P.depth_root (λ p z l. P.depth_child p z (omega (arith, P.some))) q (omega (arith, below))

        pub placing_ready : ChildReady i q s numbers ends depths
        placing_ready =
            let b = below in
            let r = P.ready in
            record {
              lower = b;
              numbers_room = omega (arith, P.numbers_written.same_length, r.numbers_room);
              ends_room = omega (arith, P.ends_written.same_length, r.ends_room);
              depths_room = omega (arith, P.depths_written.same_length, r.depths_room);
              end_fits = omega (arith, number_is, number-le parent m lw i h, r.short);
              size_fits = omega (arith, moved, running_end-le parent m lw q (i + 1) (omega arith) (omega arith), r.short);
              depth_fits = omega (arith, depth-few, r.short);
            }

        module _ (numbers' ends' depths' : List ℕ) (C : ChildPlaced i q s numbers ends depths numbers' ends' depths') where
          number' : get_or numbers' i 0 ≡ number parent m i
          number' = ap (λ (l : List ℕ). get_or l i 0) C.numbers_are ∙ get_or-set_same numbers i (get_or ends q 0) 0 placing_ready.numbers_room ∙ number_is

          numbers'_below : (p : ℕ) → p < i → get_or numbers' p 0 ≡ get_or numbers p 0
          numbers'_below p l = ap (λ (t : List ℕ). get_or t p 0) C.numbers_are ∙ get_or-set_other numbers i p (get_or ends q 0) 0 (λ z. absurd (omega arith))

          depths'_below : (p : ℕ) → p < i → get_or depths' p 0 ≡ get_or depths p 0
          depths'_below p l = ap (λ (t : List ℕ). get_or t p 0) C.depths_are ∙ get_or-set_other depths i p (get_or depths q 0 + 1) 0 (λ z. absurd (omega arith))

          -- the ends: that of i, that of its parent, and the others
          ends'_own : get_or ends' i 0 ≡ running_end parent m (i + 1) i
          ends'_own =
              let b = below in
              ap (λ (t : List ℕ). get_or t i 0) C.ends_are
              ∙ get_or-set_other (set ends i (get_or ends q 0 + 1)) q i (get_or ends q 0 + s) 0 (λ z. absurd (omega arith))
              ∙ get_or-set_same ends i (get_or ends q 0 + 1) 0 placing_ready.ends_room
              ∙ rw (add-one i) (omega (arith, number_is, running_end-start parent m lw i h))

          ends'_parent : get_or ends' q 0 ≡ running_end parent m (i + 1) q
          ends'_parent =
              ap (λ (t : List ℕ). get_or t q 0) C.ends_are
              ∙ get_or-set_same (set ends i (get_or ends q 0 + 1)) q (get_or ends q 0 + s) 0 (omega (arith, below, length-set ends i (get_or ends q 0 + 1), placing_ready.ends_room))
              ∙ moved

          ends'_other : (p : ℕ) → p < i → (p ≡ q → ⊥) → get_or ends' p 0 ≡ running_end parent m (i + 1) p
          ends'_other p l n =
              ap (λ (t : List ℕ). get_or t p 0) C.ends_are
              ∙ get_or-set_other (set ends i (get_or ends q 0 + 1)) q p (get_or ends q 0 + s) 0 (λ z. absurd (n z))
              ∙ get_or-set_other ends i p (get_or ends q 0 + 1) 0 (λ z. absurd (omega arith))
              ∙ P.ends_are p l ∙ rw add-one (sym (running_end_miss parent m lw p i (λ z. n (sym (e ∙ z)))))

          pub placing_more : Placing (i + 1) numbers' ends' depths'
          placing_more =
              let b = below in
              record {
                ready = P.ready;
                some = omega arith;
                within = omega arith;
                numbers_written = rw C.numbers_are (stored m numbers₀ numbers i (get_or ends q 0) h P.numbers_written);
                ends_written = rw C.ends_are (stored m ends₀ (set ends i (get_or ends q 0 + 1)) q (get_or ends q 0 + s) (omega arith) (stored m ends₀ ends i (get_or ends q 0 + 1) h P.ends_written));
                depths_written = rw C.depths_are (stored m depths₀ depths i (get_or depths q 0 + 1) h P.depths_written);
                numbers_are = λ p l. ⊎_elim
                    (λ z. let y : p ≡ i = omega arith in rw y number')
                    (λ z. numbers'_below p (omega arith) ∙ P.numbers_are p (omega arith))
                    (eq-or-lt_of_le l);
                ends_are = λ p l. ⊎_elim
                    (λ z. let y : p ≡ i = omega arith in rw y ends'_own)
                    (λ z. bool_cases (eqb p q)
                    (λ y. rw (eqb-true p q y) ends'_parent)
                    (λ y. ends'_other p (omega arith) (eqb-false p q y)))
                    (eq-or-lt_of_le l);
                depth_root = depths'_below 0 P.some ∙ P.depth_root;
                depth_child = λ p z l. ⊎_elim
                    (λ y. let x : p ≡ i = omega arith in
                    rw x (ap (λ (t : List ℕ). get_or t i 0) C.depths_are ∙ get_or-set_same depths i (get_or depths q 0 + 1) 0 placing_ready.depths_room
                    ∙ ap (λ (d : ℕ). d + 1) (sym (depths'_below q b) ∙ ap (λ (k : ℕ). get_or depths' k 0) e)))
                    (λ y. let k = lw p z (omega arith) in
                    depths'_below p (omega arith) ∙ P.depth_child p z (omega arith) ∙ ap (λ (d : ℕ). d + 1) (sym (depths'_below (parent p) (omega arith))))
                    (eq-or-lt_of_le l);
              }

-- the loop begins with the empty prefix placed
module _ (file places : List ℕ) (n m : ℕ) (codes work numbers ends depths : List ℕ) (R : TreeReady file places n m codes work numbers ends depths) where
  root-ready : TreeReady file places n m codes work (set numbers 0 0) (set ends 0 1) (set depths 0 0)
  root-ready = record {
    rows = R.rows;
    short = R.short;
    sizes_room = R.sizes_room;
    sizes = R.sizes;
    numbers_room = rw length-set R.numbers_room;
    ends_room = rw length-set R.ends_room;
    depths_room = rw length-set R.depths_room;
  }

  pub placing_start : Placing file places n m codes work (set numbers 0 0) (set ends 0 1) (set depths 0 0) 1 (set numbers 0 0) (set ends 0 1) (set depths 0 0)
  placing_start = record {
    ready = root-ready;
    some = omega arith;
    within = omega arith;
    numbers_written = record { same_length = refl; beyond = refl };
    ends_written = record { same_length = refl; beyond = refl };
    depths_written = record { same_length = refl; beyond = refl };
    numbers_are = λ p h. let z : p ≡ 0 = omega arith in rw z (get_or-set_same numbers 0 0 0 (omega (arith, R.numbers_room)));
    ends_are = λ p h.
        let z : p ≡ 0 = omega arith in
        rw z (get_or-set_same ends 0 1 0 (omega (arith, R.ends_room)) ∙ sym (running_end-start (parent_in file codes) m (lower file places n m codes R.rows) 0 (omega arith)));
    depth_root = get_or-set_same depths 0 0 0 (omega (arith, R.depths_room));
    depth_child = λ p y h. absurd (omega arith);
  }

  from-root : (table table' : List ℕ) (v : ℕ) → WrittenTo m (set table 0 v) table' → WrittenTo m table table'
  from-root table table' v W = record { same_length = W.same_length ∙ length-set table 0 v; beyond = W.beyond ∙ drop-set-lt (m + 1) table 0 v (omega arith) }

  pub placing_end : (i : ℕ) (numbers' ends' depths' : List ℕ) → Placing file places n m codes work (set numbers 0 0) (set ends 0 1) (set depths 0 0) i numbers' ends' depths'
      → m < i → TreeIs file m codes numbers ends depths numbers' ends' depths'
  placing_end i numbers' ends' depths' P h =
      let e : i ≡ suc m = omega (arith, P.within) in
      record {
        numbers_written = from-root numbers numbers' 0 P.numbers_written;
        ends_written = from-root ends ends' 1 P.ends_written;
        depths_written = from-root depths depths' 0 P.depths_written;
        numbers_are = λ p l. P.numbers_are p (omega arith);
        ends_are = λ p l.
            P.ends_are p (omega arith) ∙ ap (λ (k : ℕ). running_end (parent_in file codes) m k p) e
            ∙ running_end-all (parent_in file codes) m (lower file places n m codes R.rows) p l;
        depth_root = P.depth_root;
        depth_child = λ p z l. P.depth_child p z (omega arith);
      }
