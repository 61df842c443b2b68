-- One call of a list: from slice and head that hold typed bytes to slice and head that hold those of the book after the call. Assumes nothing.
use mathlib.Core.Path.{◌≡◌, refl, sym, ap, ◌∙◌}
use mathlib.Core.Logic.{⊎_elim}
use mathlib.Core.Option.{Option, none, some}
use mathlib.Core.List.{List, [], ◌∷◌, ◌++◌}
use Prim.Native.Nat.{ℕ, ◌+◌, ◌-◌, ◌≤◌, ◌<◌, min}
use native.Mathlib.Omega.{arith}
use lib.ListN.{length, get_or, take, drop, length-append, length-take}
use lib.Seq.{get_or-take}
use lib.Dec.{ltb}
use borrow.Author.Tests.{ltb-false}
use Rattle.theory.specs.Dictionary.{Dictionary, Octets}
use Rattle.theory.specs.Typing.{Side, in_order, entry_at}
use Rattle.theory.proofs.Lists.{lt_or_ge}
use Rattle.theory.proofs.Sides.{length-in_order}
use Rattle.theory.proofs.Typing.{entry_at_append, entry_at_take}
use Rattle.std.specs.Prelude.{Result, Ok}
use Rattle.causes.specs.declared.Cause.{Cause}
use Rattle.causes.specs.declared.Cause.TheVariants.{TooLong, Full}
use Rattle.tables.specs.Tables.{Tables}
use Rattle.causes.specs.Order.{other_order, when, over, first_of}
use Rattle.causes.specs.Call.{saying, to_number}
use Rattle.causes.proofs.Calls.{given-answer, answer_with}
use Rattle.causes.proofs.None.{none-applies, neither}
use Rattle.built_tables.specs.Built.{dictionary_of, Built}
use Rattle.typing_columns.specs.Refusals.{full, extend_refusal, token_count_refusal, truncate_refusal}
use Rattle.typing.specs.declared.State.{State}
use Rattle.typing.specs.Records.{no_state, entry_of}
use Rattle.typing.specs.Calls.{Extended, TokenCounted, Truncated}
use Rattle.typing_book.specs.Book.{Call, push, extend, truncate, token_count, kept, unless, book_refusal, turned, book_after, book_answer}
use Rattle.typing_book.specs.Run.{Lent, OctetCall, Ensured}
use Rattle.typing_book.proofs.Texts.{octets-append, octets-take, added_is, kept-is}
use Rattle.typing_book.proofs.Standing.{Standing, typed-are, truncate-passes, extend_by_length, token_count_passes, last-count}

-- where 9 and 12 do not apply, the bytes stay within the slice and 4,096
within : (book : List ℕ) (size : ℕ) (typed : List ℕ) → book_refusal size book (extend typed) ≡ none
    → (length book + length typed ≤ size) × (length book + length typed ≤ 4096)
within book size typed e =
    let end = length book + length typed in
    let fails = none-applies other_order (when (over typed) TooLong ∷ when (full (length book) size typed) (Full (length book)) ∷ []) e in
    let f = neither (ltb size end) (ltb 4096 end) (fails.1.0 refl) in
    (ltb-false size end f.0, ltb-false 4096 end f.1)

-- the same refusal and the same number give the same answer
same_answer : {x y : Option Cause} {k l : ℕ} → x ≡ y → k ≡ l → saying x k ≡ saying y l
same_answer e f = rw (e, f)

-- what a call leaves and answers: typed bytes whose text is the book after it
pub record Turned (D : Dictionary) (side : Side) (size : ℕ) (s : List ℕ) (m : Lent) (call : Call) (r : Result ℕ Cause) (m' : Lent) : Type 0 where
  pub text : List ℕ
  pub book : in_order side text ≡ book_after side size (in_order side s) call
  pub standing : Standing D side size m' text
  pub answer : r ≡ book_answer D side size (in_order side s) call
  pub beyond : drop m'.len m'.states ≡ drop m'.len m.states

module _ (T : Tables) (n : ℕ) (B : Built T n)
    (side : Side) (size : ℕ) (m : Lent) (s : List ℕ) (S : Standing (dictionary_of T.file) side size m s) (r : Result ℕ Cause) (m' : Lent) where
  open T use {file}

  abbrev D : Dictionary
  D = dictionary_of file

  abbrev book : List ℕ
  book = in_order side s

  -- push, as extend by its one byte, and extend
  module _ (typed : List ℕ) (o : Octets typed) (X : Extended T side m.len m.states typed r m'.len m'.states) where
    abbrev refusal : Option Cause
    refusal = extend_refusal T m.len (length m.states) X.fine typed

    by-book : refusal ≡ book_refusal size book (extend typed)
    by-book = extend_by_length T n B side size m s S X.fine X.form typed
        ∙ ap (λ (k : ℕ). first_of other_order (when (over typed) TooLong ∷ when (full k size typed) (Full k) ∷ []))
        (sym (length-in_order side s))

    longer : m.len + length typed ≡ length (turned side book (extend typed))
    longer = omega (arith, ap length (added_is side s typed), length-in_order side (s ++ typed), length-append s typed, S.len)

    answer-is : r ≡ book_answer D side size book (extend typed)
    unfolding book_answer
    answer-is =
        answer_with to_number X.call (m.len + length typed) (λ o. (X.call.given o).number_is) ∙ same_answer by-book longer

    refused : (cause : Cause) → refusal ≡ some cause → Turned D side size s m (extend typed) r m'
    unfolding book_after book_answer
    refused cause e =
        let f : book_refusal size book (extend typed) ≡ some cause = sym by-book ∙ e in
        let same = X.call.refused cause e in
        record {
          text = s;
          book = sym (ap (λ (x : Option Cause). unless x book (turned side book (extend typed))) f);
          standing = record {
            octets = S.octets;
            few = S.few;
            fits = S.fits;
            len = same.0 ∙ S.len;
            size_is = X.size_kept ∙ S.size_is;
            records = λ i h. ap (λ (l : List State). entry_of (get_or l i no_state)) same.1 ∙ S.records i h;
          };
          answer = answer-is;
          beyond = X.beyond_kept;
        }

    passed : refusal ≡ none → Turned D side size s m (extend typed) r m'
    unfolding book_after book_answer
    passed e = record {
      text = s ++ typed;
      book = sym (added_is side s typed) ∙ sym (ap (λ (x : Option Cause). unless x book (turned side book (extend typed))) f);
      standing = record {
        octets = octets-append s typed S.octets o;
        few = rw (length-append s typed) room.1;
        fits = rw (length-append s typed) room.0;
        len = omega (arith, (X.call.given e).longer, S.len, length-append s typed);
        size_is = X.size_kept ∙ S.size_is;
        records = λ i h. ⊎_elim (earlier i) (later i h) (lt_or_ge i (length s));
      };
      answer = answer-is;
      beyond = X.beyond_kept;
    }
      where
        f : book_refusal size book (extend typed) ≡ none
        f = sym by-book ∙ e

        room : (length s + length typed ≤ size) × (length s + length typed ≤ 4096)
        room = rw (length-in_order side s) at (within book size typed f)

        earlier : (i : ℕ) → i < length s → entry_of (get_or m'.states i no_state) ≡ entry_at D side (s ++ typed) i
        earlier i h =
            let l : i < m.len = omega (arith, S.len) in
            ap entry_of (sym (get_or-take m.len m'.states i no_state l) ∙ ap (λ (l : List State). get_or l i no_state) X.before_kept ∙ get_or-take m.len m.states i no_state l)
            ∙ S.records i h
            ∙ sym (entry_at_append D side s typed i h)

        later : (i : ℕ) → i < length (s ++ typed) → length s ≤ i → entry_of (get_or m'.states i no_state) ≡ entry_at D side (s ++ typed) i
        later i h l =
            let k : i ≡ m.len + (i - m.len) = omega (arith, S.len) in
            ap (λ (j : ℕ). entry_of (get_or m'.states j no_state)) k
            ∙ (X.call.given e).built n B (i - m.len) (omega (arith, S.len, length-append s typed))
            ∙ ap (λ (t : List ℕ). entry_at D side (t ++ typed) (m.len + (i - m.len))) (typed-are D side size m s S)
            ∙ ap (entry_at D side (s ++ typed)) (sym k)

    extend-turned : Turned D side size s m (extend typed) r m'
    extend-turned = go refusal refl
      where
        go : (x : Option Cause) → refusal ≡ x → Turned D side size s m (extend typed) r m'
        go none e = passed e
        go (some cause) e = refused cause e

  truncate-turned : (k : ℕ) → Truncated m.len (length m.states) k r m'.len → m'.states ≡ m.states → Turned D side size s m (truncate k) r m'
  unfolding book_after book_answer
  truncate-turned k K e = record {
    text = take k s;
    book = sym (kept-is side k s);
    standing = record {
      octets = octets-take k s S.octets;
      few = omega (arith, length-take k s, S.few);
      fits = omega (arith, length-take k s, S.fits);
      len = omega (arith, (K.given passes).1, S.len, length-take k s);
      size_is = ap length e ∙ S.size_is;
      records = λ i h. ap (λ (l : List State). entry_of (get_or l i no_state)) e ∙ S.records i (omega (arith, length-take k s)) ∙ sym (entry_at_take D side s k i (omega (arith, length-take k s)));
    };
    answer = given-answer to_number K passes ∙ ap Ok ((K.given passes).0 ∙ kept-length);
    beyond = ap (drop m'.len) e;
  }
    where
      passes : truncate_refusal m.len (length m.states) ≡ none
      passes = truncate-passes D side size m s S

      kept-length : min m.len k ≡ length (kept side k book)
      kept-length = omega (arith, ap length (kept-is side k s), length-in_order side (take k s), length-take k s, S.len)

  token_count_turned : TokenCounted T side m.len m.states r → m' ≡ m → Turned D side size s m token_count r m'
  unfolding book_after book_answer
  token_count_turned K e = record {
    text = s;
    book = refl;
    standing = rw e S;
    answer = given-answer to_number K.call passes ∙ ap Ok (K.call.given passes ∙ last-count T n B side size m s S);
    beyond = rw e;
  }
    where
      passes : token_count_refusal T m.len (length m.states) K.fine ≡ none
      passes = token_count_passes T n B side size m s S K.fine K.form

  -- each call, by what its contract ensures
  pub turn : (call : Call) → OctetCall call → Ensured T side call m r m' → Turned D side size s m call r m'
  unfolding book_after book_answer
  turn (push byte) o X = let t = extend-turned (byte ∷ []) o X in record { text = t.text; book = t.book; standing = t.standing; answer = t.answer; beyond = t.beyond }
  turn (extend bytes) o X = extend-turned bytes o X
  turn (truncate k) o X = truncate-turned k X.0 X.1
  turn token_count o X = token_count_turned X.0 X.1
