-- The longest row at a place is the first of the rows to try there. Assumes nothing.
use mathlib.Core.Path.{◌≡◌, sym, ap, ◌∙◌}
use mathlib.Core.Logic.{◌⊎◌, inl, inr, ⊎_elim}
use mathlib.Core.List.{List}
use Prim.Native.Nat.{ℕ, ◌+◌, ◌<◌}
use native.Mathlib.Decide.{dec_lt}
use native.Mathlib.Omega.{arith}
use lib.ListN.{length, get_or, drop}
use lib.Seq.{get_or-drop}
use Rattle.theory.specs.Dictionary.{Octets, none}
use Rattle.theory.specs.Parts.{rows_at}
use Rattle.tables.specs.Tables.{Tables}
use Rattle.tables.specs.Ready.{PlacesReady}
use Rattle.search_area.specs.Answers.{NextMatch}
use Rattle.built_tables.specs.Built.{Built, dictionary_of}
use Rattle.built_tables.proofs.Rows.{octets}
use Rattle.built_tables.proofs.Lookups.{next_is, next-none}
use Rattle.backtrack_encoder.specs.Encoder.{to_try}
use Rattle.backtrack_encoder.proofs.Stack.{try_none, try_row}
use Rattle.backtrack_encoder.proofs.Sizes.{not_none}

-- the numbers of a list of octets
abbrev pub Bytes : List ℕ → Type 0
Bytes text = (i : ℕ) → get_or text i 0 < 256

pub bytes_drop : (k : ℕ) (text : List ℕ) → Bytes text → Octets (drop k text)
bytes_drop k text h = octets (drop k text) (λ i. rw (get_or-drop k text i 0) (h (k + i)))

pub next-bound : (file places : List ℕ) (n : ℕ) (area t : List ℕ) (r l : ℕ) → NextMatch file places n area t r l → (r ≡ none) ⊎ (r < n)
next-bound file places n area t r l m = ⊎_elim (λ a. inl a.0) (λ a. inr a.0) m.bound

module _ (T : Tables) (n : ℕ) (B : Built T n) (P : PlacesReady T.file T.places n) where
  open T use {file, places, area}

  pub next-tried : (t : List ℕ) (r l : ℕ) → Octets t → NextMatch file places n area t r l → rows_at (dictionary_of file) t ≡ to_try (dictionary_of file) r
  next-tried t r l o m = go (dec_lt 0 (length t))
    where
      go : Dec (0 < length t) → rows_at (dictionary_of file) t ≡ to_try (dictionary_of file) r
      go (yes h) =
          let q = next_is T n B t o h r l m in
          q.tried ∙ sym (try_row (dictionary_of file) r (not_none file places n P r q.row))
      go (no h) =
          let q = next-none T n B t r l m (omega arith) in
          q.1 ∙ sym (ap (to_try (dictionary_of file)) q.0 ∙ try_none (dictionary_of file))
