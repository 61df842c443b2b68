-- The interval tables as a whole: they are in form, and over tables that build left they are the prepared ones of the text. Assumes nothing.
use mathlib.Core.Path.{◌≡◌, sym, ap, ◌∙◌}
use mathlib.Core.List.{List}
use mathlib.Core.Bool.{true}
use Prim.Native.Nat.{ℕ, suc, ◌+◌, ◌≤◌, ◌<◌}
use native.Mathlib.Omega.{arith}
use lib.ListN.{length, get_or, take, drop, get_or-append}
use lib.Dec.{ltb, leb}
use borrow.Author.Tests.{lt-ltb, le-leb}
use Rattle.theory.specs.Table.{last_code, last_codes}
use Rattle.theory.specs.Tree.{parent_of, depth}
use Rattle.theory.proofs.PairCheck.{Lawful}
use Rattle.theory.proofs.Table.{length-last_codes, get_d_last_codes}
use Rattle.theory.proofs.Tree.{tree_ind, number-le, end-le}
use Rattle.theory.proofs.Interval.{tree_number-is, tree_end-is, depth_root, depth_child}
use Rattle.tables.specs.Tables.{PairTables, with_prefixes}
use Rattle.tables.proofs.Sweeps.{each_all}
use Rattle.built_tables.specs.Built.{dictionary_of, Built}
use Rattle.built_tables.proofs.Rows.{lawful-is}
use Rattle.end_code.specs.Tables.{RowsTo}
use Rattle.table_encoder.specs.LastCodes.{PrefixesAre}
use Rattle.interval_prepare.specs.Steps.{parent_in, RowTable, SizesAre, TreeIs}
use Rattle.built_tables.specs.IntervalTables.{Prepared, codes_in_form, tree_in_form, interval_in_form}
use Rattle.interval_prepare.specs.Answers.{CoreReady, CorePrepares}
use Rattle.interval_prepare.proofs.Parents.{lower, parent-true, number_same, end_same}
use Rattle.interval_prepare.proofs.Placing.{depth-bound}

-- a table of last codes and a tree table in form
pub codes_in_form_lem : (n : ℕ) (text codes : List ℕ) → length text ≤ length codes → RowsTo n codes (length text) → codes_in_form n text codes ≡ true
unfolding codes_in_form
codes_in_form_lem n text codes room rows =
    rw (le-leb (length text) (length codes) room) (each_all (λ i. ltb (get_or codes i 0) n) (length text) (λ i h. lt-ltb (get_or codes i 0) n (rows i h)))

pub tree_in_form_lem : (text table : List ℕ) → length text < length table → ((p : ℕ) → p ≤ length text → get_or table p 0 ≤ length text + 1) → tree_in_form text table ≡ true
unfolding tree_in_form
tree_in_form_lem text table room few =
    rw (le-leb (length text + 1) (length table) (omega arith))
    (each_all (λ i. leb (get_or table i 0) (length text + 1)) (length text + 1) (λ i h. le-leb (get_or table i 0) (length text + 1) (few i (omega arith))))

module _ (P : PairTables) (n : ℕ) (text codes numbers ends depths work : List ℕ) (R : CoreReady P n text codes numbers ends depths work) where
  open P use {file, places}

  module _ (codes' : List ℕ) (Q : PrefixesAre P n text codes codes') where
    codes_room : length text ≤ length codes'
    codes_room = omega (arith, Q.same_length, R.codes_room)

    row_table : RowTable file places n (length text) codes'
    row_table = record { places_ready = R.is_in_form.places_ready; rows = record { room = codes_room; rows = Q.rows } }

    module _ (work' : List ℕ) (S : SizesAre file (length text) codes' work work') where
      module _ (numbers' ends' depths' : List ℕ) (T : TreeIs file (length text) codes' numbers ends depths numbers' ends' depths') where
        low : (i : ℕ) → 0 < i → i ≤ length text → parent_in file codes' i < i
        low = lower file places n (length text) codes' row_table

        all_in_form : interval_in_form n text codes' numbers' ends' depths' ≡ true
        unfolding interval_in_form
        all_in_form = rw (
          codes_in_form_lem n text codes' codes_room Q.rows,
          tree_in_form_lem text numbers' (omega (arith, T.numbers_written.same_length, R.numbers_room)) (λ p h. omega (arith, T.numbers_are p h, number-le (parent_in file codes') (length text) low p h)),
          tree_in_form_lem text ends' (omega (arith, T.ends_written.same_length, R.ends_room)) (λ p h. omega (arith, T.ends_are p h, end-le (parent_in file codes') (length text) low p h)),
          tree_in_form_lem text depths' (omega (arith, T.depths_written.same_length, R.depths_room))
              (λ p h. omega (arith, depth-bound (parent_in file codes') (length text) low depths' T.depth_root T.depth_child p h)),
        )

        module _ (prefixes : List ℕ) (B : Built (with_prefixes P prefixes) n) where
          L : Lawful (dictionary_of file)
          L = lawful-is (with_prefixes P prefixes) n B

          true-codes : (i : ℕ) → i < length text → get_or codes' i 0 ≡ last_code (dictionary_of file) (take (suc i) text)
          true-codes i h =
              let D = dictionary_of file in
              ap (λ (l : List ℕ). get_or l i 0) (Q.built prefixes B)
              ∙ get_or-append (last_codes D text) (drop (length text) codes) 0 i (omega (arith, length-last_codes D text))
              ∙ get_d_last_codes D text i 0 h

          same : (i : ℕ) → 0 < i → i ≤ length text → parent_in file codes' i ≡ parent_of (dictionary_of file) text i
          same = parent-true file text codes' true-codes

          true_depths : (i : ℕ) → i ≤ length text → get_or depths' i 0 ≡ depth (dictionary_of file) text i
          true_depths = tree_ind (parent_in file codes') (length text) low (λ i. get_or depths' i 0 ≡ depth (dictionary_of file) text i)
              (T.depth_root ∙ sym (depth_root (dictionary_of file) L text))
              (λ i z h e. T.depth_child i z h ∙ ap (λ (d : ℕ). d + 1) (e ∙ ap (depth (dictionary_of file) text) (same i z h)) ∙ sym (depth_child (dictionary_of file) L text i z h))

          prepared : Prepared file text codes' numbers' ends' depths'
          prepared = record {
            last_codes_are = true-codes;
            numbers_are = λ i h. T.numbers_are i h ∙ number_same (parent_in file codes') (parent_of (dictionary_of file) text) (length text) low same i h ∙ sym (tree_number-is (dictionary_of file) L text i);
            ends_are = λ i h. T.ends_are i h ∙ end_same (parent_in file codes') (parent_of (dictionary_of file) text) (length text) low same i h ∙ sym (tree_end-is (dictionary_of file) L text i);
            depths_are = true_depths;
          }

        pub core_prepares : CorePrepares P n text codes numbers ends depths work codes' numbers' ends' depths' work'
        core_prepares = record {
          filled = record {
            codes_length = Q.same_length;
            codes_beyond = Q.beyond;
            numbers_written = T.numbers_written;
            ends_written = T.ends_written;
            depths_written = T.depths_written;
            work_length = S.same_length;
            work_beyond = S.beyond;
            is_in_form = all_in_form;
          };
          built = prepared;
        }
