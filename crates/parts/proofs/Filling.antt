-- The tables of parts are filled row by row, until a row has none. Assumes nothing.
use mathlib.Core.Path.{◌≡◌, refl, sym, ap, ◌∙◌}
use mathlib.Core.List.{List}
use mathlib.Core.Bool.{true}
use Prim.Native.Nat.{ℕ, ◌+◌, ◌-◌, ◌≤◌, ◌<◌}
use native.Mathlib.Decide.{dec_lt}
use native.Mathlib.Omega.{arith}
use lib.ListN.{length, length-set, get_or, drop}
use lib.Seq.{get_or-set_same, get_or-set_other, drop-set-lt}
use Rattle.theory.proofs.Accepted.{parts_at}
use Rattle.phrase_file.specs.Form.{rows}
use Rattle.phrase_file.specs.Checks.{first_not}
use Rattle.phrase_file.proofs.Bytes.{first-passed, first-here, first-end}
use Rattle.marks.specs.Marks.{marked}
use Rattle.pair_check.specs.Pair.{pair_key, seam_at}
use Rattle.parts.specs.Parts.{is_some, has_parts, first_without, parts_in, RowParts, NoParts, PartsKnown, Looking, PartsFit, PartsFilled}
use Rattle.parts.specs.Marking.{AreaKept, WriteFit, PartsWritten, SeamFit, SeamWritten}
use Rattle.parts.proofs.Trying.{left-shorter}
use Rattle.parts.proofs.Marking.{still-found, kept-all, kept-through, seam-stays}
use Rattle.tables.specs.Tables.{pair_tables}

-- other marks of pairs in the search area change nothing of what is there to start with, and of what is left in the tables
module _ (file lefts rights area area₁ : List ℕ) (n : ℕ) (k : AreaKept area area₁) where
  pub fit-kept : (places prefixes : List ℕ) → PartsFit file places lefts rights prefixes area n → PartsFit file places lefts rights prefixes area₁ n
  fit-kept places prefixes T = record {
    rows_found = still-found file places area area₁ n T.rows_found k;
    prefixes_found = T.prefixes_found;
    left_room = T.left_room;
    right_room = T.right_room;
  }

  pub filled-kept : (lefts' rights' area' : List ℕ) (r : ℕ) → PartsFilled file lefts rights area₁ lefts' rights' area' n r → PartsFilled file lefts rights area lefts' rights' area' n r
  filled-kept lefts' rights' area' r P = record {
    answer = P.answer;
    known = P.known;
    lefts_length = P.lefts_length;
    rights_length = P.rights_length;
    lefts_beyond = P.lefts_beyond;
    rights_beyond = P.rights_beyond;
    area_kept = kept-through area area₁ area' k P.area_kept;
  }

-- the tables have the parts of the rows below w, which all have parts
pub record Filling (file lefts₀ rights₀ area₀ lefts rights area : List ℕ) (n w : ℕ) : Type 0 where
  pub few : w ≤ n
  pub known : PartsKnown file lefts rights area w
  pub left_to_do : first_not (n - w) (has_parts (rows file)) w ≡ first_without (rows file)
  pub lefts_length : length lefts ≡ length lefts₀
  pub rights_length : length rights ≡ length rights₀
  pub lefts_beyond : drop n lefts ≡ drop n lefts₀
  pub rights_beyond : drop n rights ≡ drop n rights₀
  pub area_kept : AreaKept area₀ area

module _ (file places lefts₀ rights₀ prefixes area₀ : List ℕ) (n : ℕ) (T : PartsFit file places lefts₀ rights₀ prefixes area₀ n) where
  count : n ≡ length (rows file)
  count = T.rows_found.places_ready.count

  pub filling_start : Filling file lefts₀ rights₀ area₀ lefts₀ rights₀ area₀ n 0
  unfolding first_without
  filling_start = record {
    few = omega arith;
    known = record { left_room = omega arith; right_room = omega arith; parts = λ c h. absurd (omega arith); pairs_marked = λ c h. absurd (omega arith); seams_marked = λ c h. absurd (omega arith) };
    left_to_do = ap (λ (k : ℕ). first_not k (has_parts (rows file)) 0) (let e = count in omega arith);
    lefts_length = refl;
    rights_length = refl;
    lefts_beyond = refl;
    rights_beyond = refl;
    area_kept = kept-all area₀;
  }

  module _ (lefts rights area : List ℕ) (w : ℕ) (F : Filling file lefts₀ rights₀ area₀ lefts rights area n w) where
    pub filling_looks : w < n → Looking (pair_tables file places lefts rights area) n w
    filling_looks h = record { rows_found = still-found file places area₀ area n T.rows_found F.area_kept; known = F.known; row_below = h }

    -- the parts of row w, and whether it has any
    has : w < n → has_parts (rows file) w ≡ is_some (parts_in (rows file) w)
    unfolding has_parts
    has h = ap is_some (parts_at (rows file) (length (rows file)) w (let e = count in omega arith))

    done : (r : ℕ) → r ≡ w → r ≡ first_without (rows file) → PartsFilled file lefts₀ rights₀ area₀ lefts rights area n r
    done r e a = record {
      answer = a;
      known = rw e F.known;
      lefts_length = F.lefts_length;
      rights_length = F.rights_length;
      lefts_beyond = F.lefts_beyond;
      rights_beyond = F.rights_beyond;
      area_kept = F.area_kept;
    }

    pub filling_done : n ≤ w → PartsFilled file lefts₀ rights₀ area₀ lefts rights area n n
    filling_done h = let e : n ≡ w = omega (arith, F.few) in done n e (e ∙ sym (first-end (has_parts (rows file)) n w h) ∙ F.left_to_do)

    pub filling_stops : w < n → NoParts file w → PartsFilled file lefts₀ rights₀ area₀ lefts rights area n w
    filling_stops h q = done w refl (sym (first-here (has_parts (rows file)) n w h (has h ∙ ap is_some q.are)) ∙ F.left_to_do)

    module _ (l r : ℕ) (h : w < n) (q : RowParts file w l r) where
      pub filling_writes : WriteFit lefts rights area w
      filling_writes = record {
        row = omega (arith, T.rows_found.places_ready.placed.few);
        left_room = omega (arith, F.lefts_length, T.left_room);
        right_room = omega (arith, F.rights_length, T.right_room);
        area_room = omega (arith, F.area_kept.area_length, T.rows_found.area_room);
      }

      pub filling_cuts : (lefts' rights' area' : List ℕ) → PartsWritten lefts rights area w l r lefts' rights' area' → SeamFit file places area' n w l
      filling_cuts lefts' rights' area' P = record {
        places_ready = T.rows_found.places_ready;
        row_below = h;
        area_room = omega (arith, P.kept.area_length, filling_writes.area_room);
        shorter = left-shorter file places lefts rights prefixes area n w (filling_looks h) l r q;
      }

      pub filling_goes_on : (lefts' rights' area' area'' : List ℕ) → PartsWritten lefts rights area w l r lefts' rights' area' → SeamWritten file area' w l area''
          → Filling file lefts₀ rights₀ area₀ lefts' rights' area'' n (w + 1)
      filling_goes_on lefts' rights' area' area'' P S = more
        where
          same_left : get_or lefts' w 0 ≡ l
          same_left = ap (λ (t : List ℕ). get_or t w 0) P.lefts_are ∙ get_or-set_same lefts w l 0 filling_writes.left_room

          same-right : get_or rights' w 0 ≡ r
          same-right = ap (λ (t : List ℕ). get_or t w 0) P.rights_are ∙ get_or-set_same rights w r 0 filling_writes.right_room

          other-left : (c : ℕ) → c < w → get_or lefts' c 0 ≡ get_or lefts c 0
          other-left c b = ap (λ (t : List ℕ). get_or t c 0) P.lefts_are ∙ get_or-set_other lefts w c l 0 (λ z. omega arith)

          other-right : (c : ℕ) → c < w → get_or rights' c 0 ≡ get_or rights c 0
          other-right c b = ap (λ (t : List ℕ). get_or t c 0) P.rights_are ∙ get_or-set_other rights w c r 0 (λ z. omega arith)

          parts : (c : ℕ) → c < w + 1 → Dec (c < w) → RowParts file c (get_or lefts' c 0) (get_or rights' c 0)
          parts c k (yes b) = rw (other-left c b, other-right c b) (F.known.parts c b)
          parts c k (no b) = let z : c ≡ w = omega arith in rw (z, same_left, same-right) q

          pairs : (c : ℕ) → c < w + 1 → Dec (c < w) → get_or lefts' c 0 < c → marked area'' 15360 (pair_key (get_or lefts' c 0) (get_or rights' c 0)) ≡ true
          pairs c k (yes b) = rw (other-left c b, other-right c b) (λ h. S.old (pair_key (get_or lefts c 0) (get_or rights c 0)) (P.old (pair_key (get_or lefts c 0) (get_or rights c 0)) (F.known.pairs_marked c b h)))
          pairs c k (no b) = let z : c ≡ w = omega arith in rw (z, same_left, same-right) (λ h. S.old (pair_key l r) (P.new h))

          seams : (c : ℕ) → c < w + 1 → Dec (c < w) → get_or lefts' c 0 < c → marked area'' 14848 (seam_at file c (get_or lefts' c 0)) ≡ true
          seams c k (yes b) = rw (other-left c b) (λ h. seam-stays file area' area'' c (get_or lefts c 0) S.seams (seam-stays file area area' c (get_or lefts c 0) P.seams (F.known.seams_marked c b h)))
          seams c k (no b) = let z : c ≡ w = omega arith in rw (z, same_left) S.new

          lefts_length : length lefts' ≡ length lefts₀
          lefts_length = ap length P.lefts_are ∙ length-set lefts w l ∙ F.lefts_length

          rights_length : length rights' ≡ length rights₀
          rights_length = ap length P.rights_are ∙ length-set rights w r ∙ F.rights_length

          more : Filling file lefts₀ rights₀ area₀ lefts' rights' area'' n (w + 1)
          more = record {
            few = omega arith;
            known = record {
              left_room = omega (arith, lefts_length, T.left_room);
              right_room = omega (arith, rights_length, T.right_room);
              parts = λ c k. parts c k (dec_lt c w);
              pairs_marked = λ c k. pairs c k (dec_lt c w);
              seams_marked = λ c k. seams c k (dec_lt c w);
            };
            left_to_do = sym (first-passed (has_parts (rows file)) n w h (has h ∙ ap is_some q.are)) ∙ F.left_to_do;
            lefts_length = lefts_length;
            rights_length = rights_length;
            lefts_beyond = ap (drop n) P.lefts_are ∙ drop-set-lt n lefts w l h ∙ F.lefts_beyond;
            rights_beyond = ap (drop n) P.rights_are ∙ drop-set-lt n rights w r h ∙ F.rights_beyond;
            area_kept = kept-through area₀ area area'' F.area_kept (kept-through area area' area'' P.kept S.kept);
          }
