-- Columns that agree with the records below the length: what the definitions see of both is the same. Assumes nothing.
use mathlib.Core.Path.{◌≡◌, refl, sym, ◌∙◌, ap, subst}
use mathlib.Core.List.{List}
use mathlib.Core.Bool.{Bool, false}
use Prim.Native.Nat.{ℕ, zero, suc, ◌<◌}
use native.Mathlib.Nat.{lt-suc_self}
use lib.ListN.{length, get_or, take}
use lib.Seq.{get_or-take}
use Rattle.theory.specs.Typing.{Side, in_form_if}
use Rattle.theory.proofs.Typing.{same-form, same_check}
use Rattle.tables.specs.Tables.{Tables}
use Rattle.tables.proofs.Sweeps.{all_same}
use Rattle.built_tables.specs.Built.{dictionary_of}
use Rattle.typing_columns.specs.Refusals.{head_out}
use Rattle.typing_columns.specs.Columns.{last_count, FormOf}
use Rattle.typing.specs.declared.State.{State}
use Rattle.typing.specs.Records.{bytes_of, codes_of, counts_of}
use Rattle.typing.specs.Steps.{usable_of, Copied}
use Rattle.typing.proofs.Ending.{usable_in}

-- lists that agree below a length agree at each place there
at : (len : ℕ) (s t : List ℕ) → take len s ≡ take len t → (i : ℕ) → i < len → get_or s i 0 ≡ get_or t i 0
at len s t e i l = sym (get_or-take len s i 0 l) ∙ ap (λ (x : List ℕ). get_or x i 0) e ∙ get_or-take len t i 0 l

module _ (states : List State) (len : ℕ) (bytes codes counts : List ℕ) (copied : Copied states (usable_of len (length states)) bytes codes counts) where
  -- where the head is in form, all records below the length were copied
  pub all_copied : head_out len (length states) ≡ false → Copied states len bytes codes counts
  all_copied h = subst (λ (k : ℕ). Copied states k bytes codes counts) (usable_in len (length states) h) copied

  module _ (T : Tables) (side : Side) where
    open T use {file}

    pub form-same : (fine : Bool) → FormOf T side len (length states) bytes codes counts fine
        → FormOf T side len (length states) (bytes_of states) (codes_of states) (counts_of states) fine
    form-same fine form h =
        let all = all_copied h in
        let F = form h in
        record {
          passed = F.passed;
          is = F.is
              ∙ all_same (λ i. in_form_if (dictionary_of file) side bytes codes counts (F.passed i) i)
              (λ i. in_form_if (dictionary_of file) side (bytes_of states) (codes_of states) (counts_of states) (F.passed i) i) len
              (λ i. same-form (dictionary_of file) side len bytes codes counts (bytes_of states) (codes_of states) (counts_of states)
              all.bytes_are all.codes_are all.counts_are (F.passed i) i);
          built = λ n B i l. F.built n B i l ∙ same_check (dictionary_of file) side len codes (codes_of states) all.codes_are i l;
        }

  pub last-same : head_out len (length states) ≡ false → last_count counts len ≡ last_count (counts_of states) len
  last-same h = go len (all_copied h).counts_are where
    go : (n : ℕ) → take n counts ≡ take n (counts_of states) → last_count counts n ≡ last_count (counts_of states) n
    go zero e = refl
    go (suc n) e = at (suc n) counts (counts_of states) e n (lt-suc_self n)
