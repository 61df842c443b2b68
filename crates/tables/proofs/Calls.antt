-- The cases of the answers. Assumes nothing.
use mathlib.Core.Path.{◌≡◌, ap, ◌∙◌}
use mathlib.Core.List.{[]}
use Prim.Native.Nat.{ℕ, ◌≤◌, ◌<◌}
use lib.ListN.{length}
use Rattle.causes.specs.declared.Cause.TheVariants.{OutOfForm, UnknownCode}
use Rattle.std.specs.Prelude.{Some, None, Ok, Err}
use Rattle.causes.specs.Call.{to_number}
use Rattle.causes.proofs.Calls.{call-refused, call-given}
use Rattle.causes.proofs.Unknown.{unknown-first, unknown-behind, unknown-none}
use Rattle.placed_rows.specs.Rows.{row}
use Rattle.placed_rows.specs.Reading.{rows_of}
use Rattle.tables.specs.declared.row_tables.RowTables.{RowTables}
use Rattle.tables.specs.Formed.{Formed}
use Rattle.tables.specs.Tables.{Tables}
use Rattle.tables.specs.InForm.{count, form_of}
use Rattle.tables.specs.Answers.{num_tokens_refusal, NumTokens, token_len_refusal, TokenLen}
use Rattle.tables.proofs.Readiness.{ready}

module _ (T : Tables) where
  open T use {file, places as placeTable}

  module _ (e : form_of T ≡ None) where
    pub tokens_out : NumTokens T (Err OutOfForm)
    unfolding num_tokens_refusal
    tokens_out = call-refused to_number (rw e) 0 (record {})

    pub len_out : (token : ℕ) → TokenLen T token (Err OutOfForm)
    unfolding token_len_refusal
    len_out token = call-refused to_number (rw e) 0 (record {})

  module _ (n : ℕ) (e : form_of T ≡ Some n) where
    counted : n ≡ count file
    counted = (ready T n e).places_ready.count

    pub tokens_counted : NumTokens T (Ok n)
    unfolding num_tokens_refusal
    tokens_counted = call-given to_number (rw e) n counted

    pub len-unknown : (token : ℕ) → n ≤ token → TokenLen T token (Err (UnknownCode 0))
    unfolding token_len_refusal
    len-unknown token h = call-refused to_number (rw (e, ← counted, unknown-first n token [] h)) 0 (record {})

  module _ (r : RowTables) (f : Formed T r) where
    pub len-counted : (token : ℕ) → token < r.rows.n → (size : ℕ) → size ≡ length (rows_of r.rows token) → TokenLen T token (Ok size)
    unfolding token_len_refusal
    len-counted token h size s =
        let q = ready T r.rows.n f.formed in
        let k : r.rows.n ≡ count file = q.places_ready.count in
        let is : rows_of r.rows token ≡ row file placeTable r.rows.n token = ap (λ (t : Tables). row t.file t.places r.rows.n token) f.same in
        call-given to_number (rw (f.formed, ← k, unknown-behind r.rows.n token [] h, unknown-none r.rows.n)) size
        (s ∙ ap length (is ∙ q.places_ready.rows_are token h))
