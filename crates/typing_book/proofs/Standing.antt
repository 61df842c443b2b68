-- The slice and the head hold typed bytes: what holds between two calls of a list, and what the checks of the calls then answer. Assumes nothing.
use mathlib.Core.Path.{◌≡◌, refl, sym, ap, ◌∙◌}
use mathlib.Core.Option.{none}
use mathlib.Core.List.{List, [], ◌∷◌}
use mathlib.Core.Bool.{Bool, true, false}
use Prim.Native.Nat.{ℕ, zero, suc, ◌≤◌, ◌<◌}
use native.Mathlib.Omega.{arith}
use lib.ListN.{length, get_or, take, length-take, length-map, get_or-map}
use lib.Seq.{take-take, get_or-take, ext_get_or}
use borrow.Author.Tests.{le-ltb}
use Rattle.theory.specs.Dictionary.{Dictionary, Octets}
use Rattle.theory.specs.Merge.{encode}
use Rattle.theory.specs.Typing.{Side, in_order, Entry, code_at, count_at, entry_at, check_at, in_form, TrueAt}
use Rattle.theory.proofs.Encode.{encode-nil}
use Rattle.theory.proofs.Sides.{in_order-nil}
use Rattle.theory.proofs.Typing.{same-form, trues_form, count_at-last}
use Rattle.causes.specs.declared.Cause.TheVariants.{TooLong, Full}
use Rattle.causes.specs.Order.{other_order, when, over, first_of}
use Rattle.tables.specs.Tables.{Tables}
use Rattle.tables.specs.InForm.{all_below}
use Rattle.tables.proofs.Sweeps.{each_all}
use Rattle.built_tables.specs.Built.{dictionary_of, Built}
use Rattle.built_tables.proofs.Rows.{lawful-is, known}
use Rattle.built_tables.proofs.InForm.{is_in_form}
use Rattle.typing_columns.specs.Refusals.{head_out, full, extend_refusal, token_count_refusal, truncate_refusal}
use Rattle.typing_columns.specs.Columns.{last_count, FormOf}
use Rattle.typing_columns.proofs.Answers.{form-built}
use Rattle.typing.specs.declared.State.{State}
use Rattle.typing.specs.Records.{no_state, entry_of, bytes_of, codes_of, counts_of}
use Rattle.typing_book.specs.Run.{Lent}

-- the records below the head's length are those of the typed bytes s, which are at most 4,096 and fit into the slice
pub record Standing (D : Dictionary) (side : Side) (size : ℕ) (m : Lent) (s : List ℕ) : Type 0 where
  pub octets : Octets s
  pub few : length s ≤ 4096
  pub fits : length s ≤ size
  pub len : m.len ≡ length s
  pub size_is : length m.states ≡ size
  pub records : (i : ℕ) → i < length s → entry_of (get_or m.states i no_state) ≡ entry_at D side s i

-- the head is in form
head_in : (len size : ℕ) → len ≤ size → len ≤ 4096 → head_out len size ≡ false
head_in len size h k = rw (le-ltb size len h, le-ltb 4096 len k)

module _ (D : Dictionary) (side : Side) (size : ℕ) (m : Lent) (s : List ℕ) (S : Standing D side size m s) where
  -- the columns hold the bytes, codes and counts
  byte_at : (i : ℕ) → i < length s → get_or (bytes_of m.states) i 0 ≡ get_or s i 0
  unfolding entry_at
  byte_at i h = get_or-map (λ (r : State). r.byte) m.states i no_state ∙ ap (λ (r : Entry). r.byte) (S.records i h)

  code-at : (i : ℕ) → i < length s → get_or (codes_of m.states) i 0 ≡ code_at D side s i
  unfolding entry_at
  code-at i h = get_or-map (λ (r : State). r.code) m.states i no_state ∙ ap (λ (r : Entry). r.code) (S.records i h)

  count_at_lem : (i : ℕ) → i < length s → get_or (counts_of m.states) i 0 ≡ count_at D side s i
  unfolding entry_at
  count_at_lem i h = get_or-map (λ (r : State). r.count) m.states i no_state ∙ ap (λ (r : Entry). r.count) (S.records i h)

  -- the bytes below the head's length are those typed
  pub typed-are : take m.len (bytes_of m.states) ≡ s
  typed-are =
      ext_get_or 0 (take m.len (bytes_of m.states)) s size_of
      (λ i h. get_or-take m.len (bytes_of m.states) i 0 (below i h) ∙ byte_at i (omega (arith, size_of)))
    where
      size_of : length (take m.len (bytes_of m.states)) ≡ length s
      size_of = omega (arith, length-take m.len (bytes_of m.states), length-map m.states (λ (r : State). r.byte), S.len, S.size_is, S.fits)

      below : (i : ℕ) → i < length (take m.len (bytes_of m.states)) → i < m.len
      below i h = omega (arith, size_of, S.len)

  pub head-is : head_out m.len (length m.states) ≡ false
  head-is = head_in m.len (length m.states) (omega (arith, S.len, S.size_is, S.fits)) (omega (arith, S.len, S.few))

  -- truncate is not refused
  pub truncate-passes : truncate_refusal m.len (length m.states) ≡ none
  unfolding truncate_refusal
  truncate-passes = rw head-is

-- over tables that a build left
module _ (T : Tables) (n : ℕ) (B : Built T n)
    (side : Side) (size : ℕ) (m : Lent) (s : List ℕ) (S : Standing (dictionary_of T.file) side size m s) where
  open T use {file}

  abbrev D : Dictionary
  D = dictionary_of file

  -- the records below the head's length are in form
  records_in : all_below m.len (in_form D side (bytes_of m.states) (codes_of m.states) (counts_of m.states)) ≡ true
  records_in = each_all (in_form D side (bytes_of m.states) (codes_of m.states) (counts_of m.states)) m.len each
    where
      true-at : (i : ℕ) → i < length s → TrueAt D side s (codes_of m.states) (counts_of m.states) i
      true-at i h = record { code = code-at D side size m s S i h; count = count_at_lem D side size m s S i h }

      up_to : (i : ℕ) → i < m.len → take (suc i) (bytes_of m.states) ≡ take (suc i) s
      up_to i h = sym (take-take (suc i) m.len (bytes_of m.states) h) ∙ ap (take (suc i)) (typed-are D side size m s S)

      each : (i : ℕ) → i < m.len → in_form D side (bytes_of m.states) (codes_of m.states) (counts_of m.states) i ≡ true
      each i h =
          same-form D side (suc i) (bytes_of m.states) (codes_of m.states) (counts_of m.states) s (codes_of m.states) (counts_of m.states) (up_to i h) refl refl
          (check_at D side (codes_of m.states) i) i (omega arith)
          ∙ trues_form D side (lawful-is T n B) s (known T n B s S.octets)
          (codes_of m.states) (counts_of m.states) (length s) (omega arith) true-at i (omega (arith, S.len))

  module _ (fine : Bool)
      (form : FormOf T side m.len (length m.states) (bytes_of m.states) (codes_of m.states) (counts_of m.states) fine) where
    is-fine : fine ≡ true
    is-fine =
        form-built T side m.len (length m.states) (bytes_of m.states) (codes_of m.states) (counts_of m.states) fine form n B (head-is D side size m s S)
        ∙ records_in

    -- push and extend are refused by 9 and 12 alone
    pub extend_by_length : (typed : List ℕ) → extend_refusal T m.len (length m.states) fine typed
        ≡ first_of other_order (when (over typed) TooLong ∷ when (full (length s) size typed) (Full (length s)) ∷ [])
    unfolding extend_refusal
    extend_by_length typed = rw (is_in_form T n B, is-fine, head-is D side size m s S, S.len, S.size_is)

    -- `token_count` is not refused
    pub token_count_passes : token_count_refusal T m.len (length m.states) fine ≡ none
    unfolding token_count_refusal
    token_count_passes = rw (is_in_form T n B, is-fine, head-is D side size m s S)

  -- the last record's count is the number of codes of the text
  pub last-count : last_count (counts_of m.states) m.len ≡ length (encode D (in_order side s))
  last-count = ap (last_count (counts_of m.states)) S.len ∙ go (length s) refl
    where
      empty : (t : List ℕ) → length t ≡ 0 → t ≡ []
      empty [] e = refl
      empty (b ∷ t) e = absurd (omega arith)

      go : (k : ℕ) → length s ≡ k → last_count (counts_of m.states) k ≡ length (encode D (in_order side s))
      go zero e = rw (empty s e, in_order-nil side, encode-nil D (lawful-is T n B))
      go (suc i) e = count_at_lem D side size m s S i (omega arith) ∙ count_at-last D side s i e
