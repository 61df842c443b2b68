-- The rows one after the other, and the answer of the encoder. Assumes nothing.
use mathlib.Core.Path.{◌≡◌, sym, ap, ◌∙◌}
use mathlib.Core.List.{List, ◌++◌}
use mathlib.Core.Bool.{Bool, true}
use Prim.Native.Nat.{ℕ, ◌≤◌, ◌<◌}
use native.Mathlib.Omega.{arith}
use lib.ListN.{length, length-append, length-drop, get_or-append, replicate, get_or-replicate, drop}
use lib.Seq.{drop_at}
use Rattle.std.proofs.Common.{take_all}
use Rattle.bitfield.specs.Bits.{is_set, all_set}
use Rattle.bitfield.proofs.Sets.{all-below}
use Rattle.theory.specs.Dictionary.{none}
use Rattle.theory.specs.Merge.{encode}
use Rattle.theory.specs.Paper.{stage}
use Rattle.theory.proofs.Merge.{merge_is_stage}
use Rattle.built_tables.specs.Built.{dictionary_of}
use Rattle.built_tables.proofs.Rows.{count_is, lawful-is}
use Rattle.merge_encoder.specs.Encoding.{JoinsReady, WhenBuilt, EncodeReady, Encoded}
use Rattle.merge_encoder.specs.Live.{live}
use Rattle.merge_encoder.specs.Steps.{ByteCodes, FillReady, State, Waiting, passed_below, Merged, Gathered}
use Rattle.merge_encoder.proofs.Living.{live_all, live-few, live-codes}
use Rattle.merge_encoder.specs.declared.joins.Joins.{Joins}
use Rattle.merge_encoder.proofs.Passing.{passed-stage}
use Rattle.tables.specs.Tables.{PairTables, with_prefixes}

-- the passes of the rows below `row` are made
pub record Merging (P : PairTables) (n len : ℕ) (S₀ : Joins) (work₀ : List ℕ) (S : Joins) (work : List ℕ) (row : ℕ) : Type 0 where
  pub few : row ≤ n
  pub state : State P n len S work
  pub work_length : length work ≡ length work₀
  pub waiting : WhenBuilt P n (λ D. Waiting S row)
  pub is : WhenBuilt P n (λ D. live (is_set S.live.words) work len 0 ≡ passed_below D row (live (is_set S₀.live.words) work₀ len 0))

-- the codes of a text's bytes, all of them live, and no keys
module _ (P : PairTables) (n : ℕ) (text out work : List ℕ) (R : EncodeReady P n text out work) where
  open P use {file}

  pub joins_ready : JoinsReady P n
  joins_ready = record { rows_ready = R.rows_ready; parts_ready = R.parts_ready }

  module _ (codes : List ℕ) (F : ByteCodes P n text codes) where
    pub fill_ready : (Q : Joins) → is_set Q.live.words ≡ all_set → Q.keys ≡ replicate 4096 none → Q.count ≡ 1 → FillReady P n (length codes) codes Q
    fill_ready Q on k c = record {
      tables = joins_ready;
      codes_ready = record { few = omega (arith, R.short, F.size); room = omega arith; codes = rw F.size F.codes };
      empty = c;
      all_live = on;
      no_keys = λ i h. rw k (get_or-replicate 4096 i none 0 h);
    }

    module _ (S : Joins) (on : is_set S.live.words ≡ all_set) (S' : Joins) (codes2 : List ℕ) (M : Merged P n (length text) S codes S' codes2)
        (out' : List ℕ) (r : ℕ) (A : Gathered S'.live.words codes2 (length text) out out' r) where
      abbrev left : List ℕ
      left = live (is_set S'.live.words) codes2 (length text) 0

      few : r ≤ length text
      few = omega (arith, A.count, live-few (is_set S'.live.words) codes2 (length text) 0)

      all-on : (p : ℕ) → p < 4097 → is_set S.live.words p ≡ true
      all-on p h = ap (λ (f : ℕ → Bool). f p) on ∙ all-below p h

      first : live (is_set S.live.words) codes (length text) 0 ≡ codes
      first = live_all (is_set S.live.words) codes (length text) 0 (λ p a b. all-on p (omega (arith, R.short))) (omega (arith, F.size)) ∙ take_all (length text) codes (omega (arith, F.size))

      is-encoded : WhenBuilt P n (λ D. live (is_set S'.live.words) codes2 (length text) 0 ≡ encode D text)
      is-encoded prefixes B =
          let D = dictionary_of file in
          M.built prefixes B
          ∙ ap (passed_below D n) (first ∙ F.built prefixes B)
          ∙ passed-stage D n text
          ∙ ap (λ (p : ℕ). stage D p text) (sym (count_is (with_prefixes P prefixes) n B))
          ∙ sym (merge_is_stage D (lawful-is (with_prefixes P prefixes) n B) text)

      pub encoded : Encoded P n text out out' work (codes2 ++ drop (length text) work) r
      encoded = record {
        few = few;
        codes = λ i h. rw (A.is, get_or-append left (drop r out) 0 i (omega (arith, A.count))) (live-codes (is_set S'.live.words) codes2 n (length text) 0 (λ p l. M.codes p (omega arith)) i (omega (arith, A.count)));
        out_length = rw A.is (length-append left (drop r out) ∙ omega (arith, A.count, length-drop r out, few, R.out_room));
        out_beyond = rw A.is (drop_at left (drop r out) r (sym A.count));
        work_length = length-append codes2 (drop (length text) work) ∙ omega (arith, M.work_length, F.size, length-drop (length text) work, R.work_room);
        work_beyond = drop_at codes2 (drop (length text) work) (length text) (M.work_length ∙ F.size);
        built = λ prefixes B. record { count = A.count ∙ ap length (is-encoded prefixes B); codes = A.is ∙ ap (λ (s : List ℕ). s ++ drop r out) (is-encoded prefixes B) };
      }
