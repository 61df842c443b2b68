-- The code of a record and the count that goes with it, in both directions. Assumes nothing.
use mathlib.Core.List.{List}
use Prim.Native.Nat.{ℕ, suc}
use native.Mathlib.Omega.{arith}
use lib.ListN.{length, get_or}
use borrow.Author.Tests.{lt-ltb, le-ltb}
use Rattle.theory.specs.Dictionary.{Dictionary, Octets}
use Rattle.theory.specs.Typing.{Side}
use Rattle.theory.proofs.TypingRows.{CountedAt, one-row, one-count}
use Rattle.built_tables.specs.Built.{dictionary_of}
use Rattle.built_tables.proofs.Rows.{lawful-is, known}
use Rattle.end_code.specs.Codes as EndCode
use Rattle.end_code.specs.Codes.{CodeReady}
use Rattle.typing_columns.specs.Steps.{count_with, CodeIs}
use Rattle.tables.specs.Tables.{PairTables, with_prefixes}

counted_with : (D : Dictionary) (side : Side) (counts : List ℕ) (i c : ℕ) → CountedAt D side (λ j. get_or counts j 0) i c (count_with D counts i c)
unfolding count_with
counted_with D side counts i c = record {
  reaching = λ e. rw (le-ltb (length (D.bytes c)) (suc i) (omega arith));
  behind = λ l. rw (lt-ltb (length (D.bytes c)) (suc i) l);
}

module _ (P : PairTables) (n : ℕ) (bytes : List ℕ) (i : ℕ) (codes : List ℕ)
    (R : CodeReady P n bytes i codes) (o : Octets bytes) where
  open P use {file}

  abbrev D : Dictionary
  D = dictionary_of file

  -- the true code has the true count
  pub coded : (side : Side) (r : ℕ) → EndCode.CodeIs P side n bytes i codes r → CodeIs P side n bytes i codes r
  coded side r C = record {
    row = C.row;
    code = C.built;
    count = λ prefixes B agree counts small.
        let L = lawful-is (with_prefixes P prefixes) n B in
        let k = known (with_prefixes P prefixes) n B bytes o in
        (one-count D side L bytes k i R.inside (λ j. get_or codes j 0) (λ j. get_or counts j 0) r (count_with D counts i r) agree small
        ((one-row D side L bytes k i R.inside (λ j. get_or codes j 0) r agree).1 (C.built prefixes B agree))).0
        (counted_with D side counts i r);
  }
