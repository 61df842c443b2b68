-- Demands 2 and 3 of a file that `from_dictionary` accepted (specs/RoundTrip.antt, specs/Demand3.antt). Assumes nothing.
use mathlib.Core.Path.{◌≡◌, refl, sym, ap, subst, ◌∙◌}
use mathlib.Core.Option.{none}
use mathlib.Core.List.{List, [], ◌∷◌}
use Prim.Native.Nat.{ℕ, ◌-◌, ◌<◌}
use lib.ListN.{length, take, drop}
use lib.Seq.{take_at}
use Rattle.std.specs.Prelude.{Bool, Result, Ok}
use Rattle.causes.specs.declared.Cause.{Cause}
use Rattle.phrase_file.specs.Form.{rows}
use Rattle.theory.specs.Dictionary.{Dictionary, Octets}
use Rattle.theory.specs.Merge.{encode}
use Rattle.theory.specs.Paper.{paper_codes}
use Rattle.theory.specs.PairCheck.{passes}
use Rattle.theory.specs.Tree.{interval_count}
use Rattle.theory.specs.Demands.{ExactlyOne}
use Rattle.theory.proofs.Demands.{demand_2_paper, demand_3_exactly_one}
use Rattle.causes.specs.Call.{to_passes}
use Rattle.causes.proofs.Calls.{given-answer, value-given}
use Rattle.causes.proofs.Unknown.{unknown-behind, unknown-none}
use Rattle.tables.specs.Tables.{Tables}
use Rattle.byte_pair_encoding.specs.Pair.{pair_refusal, PairChecked}
use Rattle.dictionary.specs.Build.{BuildIs}
use Rattle.built_tables.specs.Built.{dictionary_of, Built}
use Rattle.built_tables.proofs.InForm.{is_in_form, ready}
use Rattle.byte_pair_encoding.specs.Sending.{Sends}
use Rattle.byte_pair_encoding.specs.Counting.{Counts}
use Rattle.typing_columns.proofs.Rows.{row_count}
use Rattle.typing_book.proofs.Demand.{the_typing_book}
use Rattle.interval_prepare.specs.Answers.{Prepares}
use Rattle.interval_count.specs.Answers as Interval
use Rattle.agreement.specs.RoundTrip.{RoundTrip}
use Rattle.agreement.specs.Demand3.{Demand3}
use Rattle.agreement.proofs.RoundTrip.{round_trip}

-- a file that `from_dictionary` accepted with n rows, and the tables T as that call left them
module _ (factor : ℕ) (lent T : Tables) (n : ℕ) (accepted : BuildIs factor lent T (Ok n)) where
  open T use {file}

  abbrev D : Dictionary
  D = dictionary_of file

  -- what the layers above use of it
  left : Built T n
  left = let v = value-given accepted n refl in subst (λ (k : ℕ). Built T k) v.1 (accepted.given v.0).built

  exactly_one : (text : List ℕ) → Octets text → ExactlyOne D text (encode D text)
  unfolding dictionary_of
  exactly_one text octets = demand_3_exactly_one (rows file) left.accepted text octets

  paper : (text : List ℕ) → paper_codes D text ≡ encode D text
  unfolding dictionary_of
  paper text = demand_2_paper (rows file) left.accepted text

  counted : n ≡ length (rows file)
  counted = (ready T n left).places_ready.count

  all_rows_are : D.count ≡ n
  all_rows_are = row_count file T.places n (ready T n left).places_ready

  pairs : (token1 token2 : ℕ) (r : Result Bool Cause) → PairChecked T token1 token2 r
      → token1 < n → token2 < n → r ≡ Ok (passes D D.count token1 token2)
  unfolding pair_refusal
  pairs token1 token2 r c h k =
      let known : pair_refusal T token1 token2 ≡ none =
      rw (is_in_form T n left, ← counted, unknown-behind n token1 (token2 ∷ []) h, unknown-behind n token2 [] k, unknown-none n) in
      given-answer to_passes c known ∙ ap Ok (c.given known n left) ∙ ap (λ (q : ℕ). Ok (passes D q token1 token2)) (sym all_rows_are)

  sending : (text out work out' work' : List ℕ) (r : Result ℕ Cause) → Sends encode T text out work out' work' r
      → (count : ℕ) → r ≡ Ok count → (count ≡ length (encode D text)) × (take count out' ≡ encode D text)
  sending text out work out' work' r s count e =
      let given = value-given s count e in
      let codes = (s.given given.0).built n left in
      let same : count ≡ length (encode D text) = sym given.1 ∙ codes.count_is in
      (same, ap (take count) codes.codes_are ∙ take_at (encode D text) (drop s.value out) count (sym same))

  counting : (text work work' : List ℕ) (r : Result ℕ Cause) → Counts T text work work' r
      → (count : ℕ) → r ≡ Ok count → count ≡ length (encode D text)
  counting text work work' r s count e =
      let given = value-given s count e in
      sym given.1 ∙ (s.given given.0).built n left

  intervals : (text codes numbers ends depths work codes' numbers' ends' depths' work' : List ℕ) (m : ℕ)
      → Prepares T text codes numbers ends depths work codes' numbers' ends' depths' work' (Ok m)
      → (from to : ℕ) (scratch scratch' : List ℕ) (r : Result ℕ Cause)
      → Interval.Counts T text codes' numbers' ends' depths' from to scratch scratch' r
      → (count : ℕ) → r ≡ Ok count → count ≡ length (encode D (take (to - from) (drop from text)))
  unfolding interval_count
  intervals text codes numbers ends depths work codes' numbers' ends' depths' work' m p from to scratch scratch' r c count e =
      let prepared = (p.given (value-given p m refl).0).built n left in
      let given = value-given c count e in
      sym given.1 ∙ (c.given given.0).built n left prepared

  pub demand_3 : Demand3 T n
  demand_3 = record {
    exactly_one = exactly_one;
    pairs = pairs;
    all_rows_are = all_rows_are;
    paper = paper;
    sending = sending;
    counting = counting;
    typing = the_typing_book T n left;
    intervals = intervals;
  }

  pub demand_2_round_trip : RoundTrip T
  demand_2_round_trip = round_trip T n left
