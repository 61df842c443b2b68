-- The last codes of the prefixes are written to the front of a table, one after the other. Assumes nothing.
use mathlib.Core.Path.{◌≡◌, refl, sym, ap₂, ◌∙◌}
use mathlib.Core.List.{List, ◌++◌}
use Prim.Native.Nat.{ℕ, suc, ◌+◌, ◌≤◌, ◌<◌}
use native.Mathlib.Numerals.{add-one}
use native.Mathlib.Omega.{arith}
use lib.ListN.{length, length-set, get_or, set, take, drop, take-append-drop}
use lib.Seq.{length-take-le, get_or-take, drop-set-lt, drop-cons, ext_get_or}
use Rattle.theory.specs.Typing.{append}
use Rattle.theory.specs.Table.{last_code, last_codes}
use Rattle.theory.proofs.Lists.{cons_tail}
use Rattle.theory.proofs.Table.{length-last_codes, get_d_last_codes, code_at_last_code}
use Rattle.built_tables.specs.Built.{dictionary_of, Built}
use Rattle.end_code.specs.Tables.{RowsTo}
use Rattle.end_code.specs.Codes.{CodeReady, CodeIs}
use Rattle.end_code.proofs.Sizes.{at_set}
use Rattle.table_encoder.specs.LastCodes.{LastCodesTo, PrefixesReady, PrefixesAre}
use Rattle.tables.specs.Tables.{PairTables, with_prefixes}

module _ (P : PairTables) (n : ℕ) (text table₀ : List ℕ) where
  open P use {file}

  -- the first i entries are written
  pub record Filling (i : ℕ) (table : List ℕ) : Type 0 where
    pub ready : PrefixesReady P n text table₀
    pub within : i ≤ length text
    pub same_length : length table ≡ length table₀
    pub beyond : drop i table ≡ drop i table₀
    pub rows : RowsTo n table i
    pub built : (prefixes : List ℕ) → Built (with_prefixes P prefixes) n → LastCodesTo file text table i

  pub filling_start : PrefixesReady P n text table₀ → Filling 0 table₀
  filling_start R = record {
    ready = R;
    within = omega arith;
    same_length = refl;
    beyond = refl;
    rows = λ j h. absurd (omega arith);
    built = λ prefixes B j h. absurd (omega arith);
  }

  module _ (i : ℕ) (table : List ℕ) (F : Filling i table) where
    room : length text ≤ length table
    room = omega (arith, F.same_length, F.ready.room)

    -- all entries are written
    pub filling_end : length text ≤ i → PrefixesAre P n text table₀ table
    filling_end h =
        let e : i ≡ length text = omega (arith, F.within) in
        record {
          same_length = F.same_length;
          beyond = rw (← e) F.beyond;
          rows = rw (← e) F.rows;
          built = λ prefixes B.
              let front : take i table ≡ last_codes (dictionary_of file) text =
              ext_get_or 0 (take i table) (last_codes (dictionary_of file) text)
              (length-take-le i table (omega (arith, room)) ∙ e ∙ sym (length-last_codes (dictionary_of file) text))
              (λ j l.
              let b : j < i = omega (arith, length-take-le i table (omega (arith, room))) in
              get_or-take i table j 0 b ∙ F.built prefixes B j b ∙ sym (get_d_last_codes (dictionary_of file) text j 0 (omega arith))) in
              sym (take-append-drop i table) ∙ ap₂ (λ (a b : List ℕ). a ++ b) front (rw (← e) F.beyond);
        }

    module _ (h : i < length text) where
      pub filling_ready : CodeReady P n text i table
      filling_ready = record {
        is_in_form = F.ready.is_in_form;
        inside = h;
        before = record { room = omega (arith, room); rows = F.rows };
      }

      module _ (r : ℕ) (C : CodeIs P append n text i table r) where
        each : (Q : ℕ → ℕ → Type 0) → ((j : ℕ) → j < i → Q j (get_or table j 0)) → Q i r → (j : ℕ) → j < i + 1 → Q j (get_or (set table i r) j 0)
        each Q = at_set Q table i r (i + 1) (omega (arith, room)) (add-one i)

        pub filling_more : Filling (i + 1) (set table i r)
        filling_more = record {
          ready = F.ready;
          within = omega arith;
          same_length = length-set table i r ∙ F.same_length;
          beyond =
              rw add-one
              (drop-set-lt (suc i) table i r (omega arith)
              ∙ cons_tail (sym (drop-cons table i 0 (omega (arith, room))) ∙ F.beyond ∙ drop-cons table₀ i 0 (omega (arith, F.ready.room))));
          rows = each (λ j c. c < n) F.rows C.row;
          built = λ prefixes B. each (λ j c. c ≡ last_code (dictionary_of file) (take (suc j) text)) (F.built prefixes B)
              (C.built prefixes B (λ j l. F.built prefixes B j l ∙ sym (code_at_last_code (dictionary_of file) text j)) ∙ code_at_last_code (dictionary_of file) text i);
        }
