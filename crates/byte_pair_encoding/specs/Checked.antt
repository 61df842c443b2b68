-- What the check answers that sending and counting begin with.
use Rattle.std.specs.Prelude.{◌≡◌, List, ℕ, Result, Ok, Err}
use Rattle.std.proofs.Math.Option.{none, some}
use Rattle.causes.specs.declared.Cause.{Cause}
use Rattle.tables.specs.declared.row_tables.RowTables.{RowTables}
use Rattle.tables.specs.Tables.{Tables}
use Rattle.tables.specs.Formed.{Formed}
use Rattle.byte_pair_encoding.specs.Refusals.{send_refusal}

-- a call that is not refused, and its tables in form
pub record Allowed (T : Tables) (text out work : List ℕ) (r : RowTables) : Type 0 where
  pub not_refused : send_refusal T text out work ≡ none
  pub formed : Formed T r

-- the refusal of a call if there is one, else its tables in form
abbrev pub CheckedIs : (T : Tables) (text out work : List ℕ) → Result RowTables Cause → Type 0
CheckedIs T text out work (Ok r) = Allowed T text out work r
CheckedIs T text out work (Err cause) = send_refusal T text out work ≡ some cause
