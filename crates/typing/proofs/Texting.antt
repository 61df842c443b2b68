-- A text typed byte by byte: what holds after i bytes, and what one byte more gives. Assumes nothing.
use mathlib.Core.Path.{◌≡◌, refl, sym, ◌∙◌, ap, subst}
use mathlib.Core.Option.{Option, none, some}
use mathlib.Core.List.{List, [], ◌∷◌, ◌++◌}
use mathlib.Core.Bool.{Bool, true, false}
use mathlib.Core.Logic.{⊎_elim}
use Prim.Native.Nat.{ℕ, suc, ◌+◌, ◌-◌, ◌<◌, ◌≤◌, min}
use native.Mathlib.Nat.{eq-or-lt_of_le, lt_irrefl}
use native.Mathlib.Numerals.{add-one}
use native.Mathlib.Omega.{arith}
use lib.ListN.{length, get_or, set, take, drop, length-set, length-map, length-take, get_or-map}
use lib.Seq.{get_or-take, get_or-set_same, get_or-set_other, drop-set-lt, drop-drop, ext_get_or, drop-cons, take-add, length-take-le}
use borrow.Author.Tests.{le-ltb}
use Rattle.theory.specs.Dictionary.{Dictionary, Octets}
use Rattle.theory.specs.Merge.{encode}
use Rattle.theory.specs.Typing.{Side, Entry, in_order, check_at, in_form, code_at, count_at, entry_at}
use Rattle.theory.proofs.Lists.{lt_or_ge, true-false}
use Rattle.theory.proofs.Encode.{encode-spells}
use Rattle.theory.proofs.Decoding.{codes_fit}
use Rattle.theory.proofs.Sides.{length-in_order}
use Rattle.theory.proofs.Typing.{same-form, trues_form, entry_at_take}
use Rattle.causes.specs.declared.Cause.{Cause}
use Rattle.tables.specs.Tables.{Tables}
use Rattle.tables.specs.InForm.{is_out, form_of}
use Rattle.std.specs.Prelude.{Result, Ok}
use Rattle.std.specs.Result.{is_err}
use Rattle.causes.specs.Call.{to_number}
use Rattle.causes.proofs.Calls.{given-answer, refused-answer}
use Rattle.tables.proofs.Sweeps.{each_all}
use Rattle.built_tables.specs.Built.{dictionary_of, Built}
use Rattle.built_tables.proofs.Rows.{lawful-is, known}
use Rattle.built_tables.proofs.InForm.{is_in_form}
use Rattle.typing_columns.specs.Refusals.{head_out, extend_refusal, token_count_refusal}
use Rattle.typing_columns.specs.Columns.{FormOf, last_count}
use Rattle.typing_columns.proofs.Answers.{form-built}
use Rattle.typing.specs.declared.State.{State}
use Rattle.typing.specs.Records.{no_state, entry_of, bytes_of, codes_of, counts_of}
use Rattle.typing.specs.Steps.{end_after}
use Rattle.typing.specs.Calls.{Extended, TokenCounted}
use Rattle.typing.specs.Text.{TextTyped}
use Rattle.typing.proofs.Ending.{head_in}
use Rattle.typing.proofs.Refusals.{Extends, extends, tables_in}

-- the first i records are those of the text
pub record Standing (D : Dictionary) (side : Side) (text : List ℕ) (i len : ℕ) (states : List State) : Type 0 where
  pub len_is : len ≡ i
  pub few : i ≤ 4096
  pub records : (j : ℕ) → j < i → entry_of (get_or states j no_state) ≡ entry_at D side text j

module _ (D : Dictionary) (side : Side) (text : List ℕ) (i len : ℕ) (states : List State) (S : Standing D side text i len states) where
  byte_at : (j : ℕ) → j < i → get_or (bytes_of states) j 0 ≡ get_or text j 0
  unfolding entry_at
  byte_at j h = get_or-map (λ (s : State). s.byte) states j no_state ∙ ap (λ (x : Entry). x.byte) (S.records j h)

  code-at : (j : ℕ) → j < i → get_or (codes_of states) j 0 ≡ code_at D side text j
  unfolding entry_at
  code-at j h = get_or-map (λ (s : State). s.code) states j no_state ∙ ap (λ (x : Entry). x.code) (S.records j h)

  count_at_lem : (j : ℕ) → j < i → get_or (counts_of states) j 0 ≡ count_at D side text j
  unfolding entry_at
  count_at_lem j h = get_or-map (λ (s : State). s.count) states j no_state ∙ ap (λ (x : Entry). x.count) (S.records j h)

  -- the bytes below the length are the text's
  text-is : length states ≡ 4096 → i ≤ length text → take len (bytes_of states) ≡ take i text
  text-is slice fits = ext_get_or 0 (take len (bytes_of states)) (take i text) (omega (arith, long, length-take-le i text fits))
      (λ j h. get_or-take len (bytes_of states) j 0 (omega (arith, h, long, S.len_is)) ∙ byte_at j (omega (arith, h, long)) ∙ sym (get_or-take i text j 0 (omega (arith, h, long))))
    where
      long : length (take len (bytes_of states)) ≡ i
      long = length-take-le len (bytes_of states) (omega (arith, S.len_is, S.few, slice, length-map states (λ (s : State). s.byte))) ∙ S.len_is

module _ (T : Tables) (n : ℕ) (B : Built T n) (side : Side) (text : List ℕ) where
  open T use {file}

  abbrev D : Dictionary
  D = dictionary_of file

  -- a count is no more than the bytes
  count_small : (i : ℕ) → count_at D side text i ≤ suc i
  unfolding count_at
  count_small i =
      let t = in_order side (take (suc i) text) in
      let L = lawful-is T n B in
      omega (arith, codes_fit D L (encode D t), ap length (encode-spells D L t), length-in_order side (take (suc i) text), length-take (suc i) text)

  module _ (i len : ℕ) (states : List State) (octets : Octets text) (S : Standing D side text i len states) (slice : length states ≡ 4096) (text_fits : i ≤ length text) where
    head-is : head_out len (length states) ≡ false
    head-is = head_in len (length states) (omega (arith, S.len_is, S.few)) (omega (arith, S.len_is, S.few))

    -- true records are in form
    fine-is : (fine : Bool) → FormOf T side len (length states) (bytes_of states) (codes_of states) (counts_of states) fine → fine ≡ true
    fine-is fine form =
        let same : take i (bytes_of states) ≡ take i text = subst (λ (k : ℕ). take k (bytes_of states) ≡ take i text) S.len_is (text-is D side text i len states S slice text_fits) in
        form-built T side len (length states) (bytes_of states) (codes_of states) (counts_of states) fine form n B head-is
        ∙ each_all (in_form D side (bytes_of states) (codes_of states) (counts_of states)) len
        (λ j h. let below : j < i = omega (arith, h, S.len_is) in
        same-form D side i (bytes_of states) (codes_of states) (counts_of states) text (codes_of states) (counts_of states) same refl refl (check_at D side (codes_of states) j) j below
        ∙ trues_form D side (lawful-is T n B) text (known T n B text octets) (codes_of states) (counts_of states)
        i text_fits (λ k l. record { code = code-at D side text i len states S k l; count = count_at_lem D side text i len states S k l }) j below)

    -- where there are records left, push and extend are not refused
    passes : (typed : List ℕ) (fine : Bool) → FormOf T side len (length states) (bytes_of states) (codes_of states) (counts_of states) fine
        → i + length typed ≤ 4096 → extend_refusal T len (length states) fine typed ≡ none
    unfolding extend_refusal
    passes typed fine form h = rw (
      le-ltb 4096 (length typed) (omega (arith, h)),
      is_in_form T n B,
      fine-is fine form,
      head-is,
      le-ltb (length states) (len + length typed) (omega (arith, S.len_is, h)),
      le-ltb 4096 (len + length typed) (omega (arith, S.len_is, h)),
    )

    -- nor is `token_count`
    counts : (fine : Bool) → FormOf T side len (length states) (bytes_of states) (codes_of states) (counts_of states) fine
        → token_count_refusal T len (length states) fine ≡ none
    unfolding token_count_refusal
    counts fine form = rw (is_in_form T n B, fine-is fine form, head-is)

    -- it gives the count of the text so far
    count_is : (k : ℕ) → i ≡ suc k → (r : Result ℕ Cause) → TokenCounted T side len states r → r ≡ Ok (count_at D side text k)
    count_is k e r c =
        given-answer to_number c.call (counts c.fine c.form)
        ∙ ap Ok (c.call.given (counts c.fine c.form) ∙ ap (last_count (counts_of states)) (S.len_is ∙ e)
        ∙ count_at_lem D side text i len states S k (omega (arith, e)))

    -- the records of the next bytes of the text
    longer : (typed : List ℕ) (r : Result ℕ Cause) (len' : ℕ) (states' : List State) (X : Extended T side len states typed r len' states')
        → typed ≡ take (length typed) (drop i text) → i + length typed ≤ 4096 → Standing D side text (i + length typed) len' states'
    longer typed r len' states' X is room = record {
      len_is = (X.call.given free).longer ∙ ap (λ (k : ℕ). k + length typed) S.len_is;
      few = room;
      records = λ j h. ⊎_elim (below j) (λ (l : i ≤ j). new j l h) (lt_or_ge j i);
    }
      where
        free : extend_refusal T len (length states) X.fine typed ≡ none
        free = passes typed X.fine X.form room

        texts : take len (bytes_of states) ++ typed ≡ take (i + length typed) text
        texts = (λ j. text-is D side text i len states S slice text_fits j ++ is j) ∙ sym (take-add i (length typed) text)

        new : (j : ℕ) → i ≤ j → j < i + length typed → entry_of (get_or states' j no_state) ≡ entry_at D side text j
        new j l h = let at : len + (j - i) ≡ j = omega (arith, S.len_is, l) in
            subst (λ (k : ℕ). entry_of (get_or states' k no_state) ≡ entry_at D side (take len (bytes_of states) ++ typed) k) at ((X.call.given free).built n B (j - i) (omega (arith, l, h)))
            ∙ ap (λ (t : List ℕ). entry_at D side t j) texts
            ∙ entry_at_take D side text (i + length typed) j h

        below : (j : ℕ) → j < i → entry_of (get_or states' j no_state) ≡ entry_at D side text j
        below j h =
            let l : j < len = omega (arith, h, S.len_is) in
            ap entry_of (sym (get_or-take len states' j no_state l) ∙ ap (λ (x : List State). get_or x j no_state) X.before_kept ∙ get_or-take len states j no_state l) ∙ S.records j h

-- the next byte alone
next-byte : (text : List ℕ) (i : ℕ) → i < length text → get_or text i 0 ∷ [] ≡ take 1 (drop i text)
next-byte text i h = sym (ap (take 1) (drop-cons text i 0 h))

-- what holds after i bytes
pub record Typing (T : Tables) (side : Side) (text counts₀ : List ℕ) (i len : ℕ) (states : List State) (counts : List ℕ) : Type 0 where
  pub text_fits : i ≤ length text
  pub counts_fit : i ≤ length counts₀
  pub few : i ≤ 4096
  pub len_is : len ≡ i
  pub out_of_form : is_out (form_of T) ≡ true → i ≡ 0
  pub size_kept : length counts ≡ length counts₀
  pub slice : length states ≡ 4096
  pub beyond_kept : drop i counts ≡ drop i counts₀
  pub standing : (n : ℕ) → Built T n → Standing (dictionary_of T.file) side text i len states
  pub counted : (n : ℕ) → Built T n → (j : ℕ) → j < i → get_or counts j 0 ≡ count_at (dictionary_of T.file) side text j

module _ (T : Tables) (side : Side) (text counts₀ : List ℕ) where
  open T use {file}

  module _ (octets : Octets text) (i len : ℕ) (states : List State) (counts : List ℕ) (K : Typing T side text counts₀ i len states counts) where
    -- the end, where the number of bytes is what it has to be
    pub ends : ((n : ℕ) → Built T n → i ≡ min (length text) (min (length counts₀) 4096))
        → TextTyped T side text counts₀ i counts
    ends e = record { at_most = omega (arith, K); out_of_form = K.out_of_form; size_kept = K.size_kept; beyond_kept = K.beyond_kept; typed = e; counted = K.counted }

    module _ (b : ℕ) (r : Result ℕ Cause) (len' : ℕ) (states' : List State) (X : Extended T side len states (b ∷ []) r len' states') where
      abbrev refusal : Option Cause
      refusal = extend_refusal T len (length states) X.fine (b ∷ [])

      -- no record is left
      pub ends-full : is_err r ≡ true → TextTyped T side text counts₀ i counts
      ends-full e = ends (λ n B.
          let S = K.standing n B in
          ⊎_elim (λ (h : i < 4096).
          let free = passes T n B side text i len states octets S K.slice K.text_fits (b ∷ []) X.fine X.form (omega (arith, h)) in
          absurd (true-false (sym e ∙ ap is_err (given-answer to_number X.call free)))) (λ h. omega (arith, K, S.few, h)) (lt_or_ge i 4096))

      -- one byte more, where the push was not refused
      pub more : b ≡ get_or text i 0 → i < length text → i < length counts₀ → is_err r ≡ false → (q : Result ℕ Cause) → TokenCounted T side len' states' q
          → (v : ℕ) → v ≡ min (end_after q 0) 4294967295 → Typing T side text counts₀ (i + 1) len' states' (set counts i v)
      more is within room new q counted v entry = record {
        text_fits = omega arith;
        counts_fit = omega arith;
        few = omega (arith, fits.most_fits, K.len_is);
        len_is = (X.call.given free).longer ∙ ap (λ (k : ℕ). k + 1) K.len_is;
        out_of_form = λ o. absurd (true-false (sym o ∙ tables_in T len (length states) X.fine (b ∷ []) free));
        size_kept = length-set counts i v ∙ K.size_kept;
        slice = X.size_kept ∙ K.slice;
        beyond_kept = drop-set-lt (i + 1) counts i v (omega arith) ∙ sym (drop-drop 1 i counts) ∙ ap (drop 1) K.beyond_kept ∙ drop-drop 1 i counts₀;
        standing = stands;
        counted = λ n B j h. ⊎_elim
            (λ e. subst (λ (k : ℕ). get_or (set counts i v) k 0 ≡ count_at (dictionary_of file) side text k) (sym e) (get_or-set_same counts i v 0 (omega (arith, K.size_kept)) ∙ last n B))
            (λ (l : j < i). get_or-set_other counts i j v 0 (λ z. lt_irrefl i (subst (λ (k : ℕ). k < i) z l)) ∙ K.counted n B j l)
            (eq-or-lt_of_le (let low : j ≤ i = omega (arith, h) in low));
      }
        where
          free : refusal ≡ none
          free = go refusal refl where
            go : (o : Option Cause) → refusal ≡ o → refusal ≡ none
            go none e = e
            go (some cause) e = absurd (true-false (sym (ap is_err (refused-answer to_number X.call e)) ∙ new))

          fits : Extends len (length states) (b ∷ [])
          fits = extends T len (length states) X.fine (b ∷ []) free

          stands : (n : ℕ) → Built T n → Standing (dictionary_of file) side text (i + 1) len' states'
          stands n B =
              let one : b ∷ [] ≡ take 1 (drop i text) = (λ j. is j ∷ []) ∙ next-byte text i within in
              longer T n B side text i len states octets (K.standing n B) K.slice K.text_fits (b ∷ []) r len' states' X one (omega (arith, fits.most_fits, K.len_is))

          last : (n : ℕ) → Built T n → v ≡ count_at (dictionary_of file) side text i
          last n B =
              let S = stands n B in
              let few = S.few in
              let is-count = count_is T n B side text (i + 1) len' states' octets S (X.size_kept ∙ K.slice) (omega arith) i (add-one i) q counted in
              let end : end_after q 0 ≡ count_at (dictionary_of file) side text i = ap (λ (a : Result ℕ Cause). end_after a 0) is-count in
              omega (arith, entry, end, count_small T n B side text i)
