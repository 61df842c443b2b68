-- The codes walked through the table of last codes are those of the merge procedure. Assumes nothing.
use mathlib.Core.Path.{◌≡◌, sym, ap, ◌∙◌}
use mathlib.Core.List.{List, ◌++◌}
use Prim.Native.Nat.{ℕ, ◌≤◌, ◌<◌}
use native.Mathlib.Omega.{arith}
use lib.ListN.{length, length-append, length-drop, get_or, take, drop, get_or-append}
use lib.Seq.{drop_at, get_or-take, length-take-le}
use Rattle.theory.specs.Dictionary.{Octets}
use Rattle.theory.specs.Merge.{encode}
use Rattle.theory.specs.Table.{last_codes}
use Rattle.theory.proofs.Table.{length-last_codes, get_d_last_codes}
use Rattle.built_tables.specs.Built.{dictionary_of, Built}
use Rattle.table_encoder.specs.LastCodes.{LastCodesTo, PrefixesReady, PrefixesAre}
use Rattle.table_encoder.specs.Walk.{walked, WalkReady, WriteReady, TableReady, TableCodes}
use Rattle.table_encoder.proofs.Walking.{walked-few, walked-rows, walked-codes}
use Rattle.tables.specs.Tables.{PairTables, with_prefixes}

module _ (P : PairTables) (n : ℕ) (text out work : List ℕ) (R : TableReady P n text out work) where
  open P use {file, places}

  pub prefixes_ready : PrefixesReady P n text work
  prefixes_ready = record { is_in_form = R.is_in_form; room = R.work_room }

  module _ (work' : List ℕ) (Q : PrefixesAre P n text work work') where
    -- the entries of the text's bytes
    abbrev table : List ℕ
    table = take (length text) work'

    size : length table ≡ length text
    size = length-take-le (length text) work' (omega (arith, R.work_room, Q.same_length))

    pub walk-ready : WalkReady file places n table
    walk-ready = record {
      places_ready = R.is_in_form.places_ready;
      rows = λ j h. let l : j < length text = omega (arith, size) in rw (get_or-take (length text) work' j 0 l) (Q.rows j l);
    }

    module _ (count : ℕ) (C : count ≡ length (walked file table)) where
      pub few : count ≤ length text
      few = omega (arith, C, walked-few file places n table walk-ready, size)

      pub write_ready : WriteReady file places n table (take count out)
      write_ready = record { walk = walk-ready; count_is = length-take-le count out (omega (arith, few, R.out_room)) ∙ C }

      pub table_codes_lem : Octets text → (out' : List ℕ) → out' ≡ walked file table → TableCodes P n text out work (out' ++ drop count out) work' count
      table_codes_lem o out' e = record {
        few = few;
        rows = λ j h.
            let l : j < length (walked file table) = omega (arith, C) in
            rw (e, get_or-append (walked file table) (drop count out) 0 j l) (walked-rows file places n table walk-ready j l);
        out_length = rw e (simp (length-append, length-drop) (omega (arith, C, few, R.out_room)));
        out_beyond = rw e (drop_at (walked file table) (drop count out) count (sym C));
        work_length = Q.same_length;
        work_beyond = Q.beyond;
        built = λ prefixes B. let w = merged prefixes B in (C ∙ ap length w, ap (λ (L : List ℕ). L ++ drop count out) (e ∙ w));
      }
        where
          last_codes_are : (prefixes : List ℕ) → Built (with_prefixes P prefixes) n → LastCodesTo file text table (length text)
          last_codes_are prefixes B j h =
              let D = dictionary_of file in
              get_or-take (length text) work' j 0 h
              ∙ ap (λ (L : List ℕ). get_or L j 0) (Q.built prefixes B)
              ∙ get_or-append (last_codes D text) (drop (length text) work) 0 j (omega (arith, length-last_codes D text))
              ∙ get_d_last_codes D text j 0 h

          merged : (prefixes : List ℕ) → Built (with_prefixes P prefixes) n → walked file table ≡ encode (dictionary_of file) text
          merged prefixes B = walked-codes (with_prefixes P prefixes) n text table B o size (last_codes_are prefixes B)
