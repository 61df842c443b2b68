-- The cases of the check that every call begins with, and what a call that it does not refuse may read and write. Assumes nothing.
use mathlib.Core.Path.{◌≡◌, sym, subst}
use mathlib.Core.Option.{none}
use mathlib.Core.List.{List}
use Prim.Native.Nat.{ℕ, ◌≤◌}
use lib.ListN.{length}
use Rattle.std.specs.Prelude.{Option, Some, None}
use Rattle.std.specs.Option.{ok_or}
use Rattle.causes.specs.declared.Cause.TheVariants.{OutOfForm}
use Rattle.phrase_file.specs.Form.{rows}
use Rattle.tables.specs.declared.row_tables.RowTables.{RowTables}
use Rattle.tables.specs.Tables.{Tables, given}
use Rattle.tables.specs.Formed.{FormIs}
use Rattle.tables.specs.Ready.{Ready}
use Rattle.tables.proofs.Readiness.{ready}
use Rattle.byte_pair_encoding.specs.Refusals.{send_refusal}
use Rattle.byte_pair_encoding.specs.Checked.{Allowed, CheckedIs}
use Rattle.byte_pair_encoding.proofs.Refusals as Refusals

-- a call that is not refused
pub record Passed (T : Tables) (text out work : List ℕ) (n : ℕ) : Type 0 where
  pub not_refused : send_refusal T text out work ≡ none
  pub count : n ≡ length (rows T.file)
  pub tables : Ready T n
  pub short : length text ≤ 4096
  pub out_room : length text ≤ length out
  pub work_room : length text ≤ length work

module _ (T : Tables) (text out work : List ℕ) where
  -- the last case of the check: a call with a short text and with room is refused if its tables are out of form
  pub checked_form : length text ≤ 4096 → length text ≤ length out → length text ≤ length work → (o : Option RowTables)
      → FormIs T o → CheckedIs T text out work (ok_or o OutOfForm)
  checked_form s o w None f = Refusals.out_of_form T text out work s o w f
  checked_form s o w (Some r) f = record { not_refused = Refusals.not_refused T text out work s o w r.rows.n f.formed; formed = f }

  -- a call that is not refused, by its tables in form
  pub passed : (r : RowTables) → Allowed T text out work r → Passed (given r) text out work r.rows.n
  passed r a =
      let p = Refusals.no-refusal T text out work a.not_refused in
      let R : Ready (given r) r.rows.n = subst (λ (t : Tables). Ready t r.rows.n) (sym a.formed.same) (ready T r.rows.n a.formed.formed) in
      record {
        not_refused = subst (λ (t : Tables). send_refusal t text out work ≡ none) (sym a.formed.same) a.not_refused;
        count = R.places_ready.count;
        tables = R;
        short = p.short;
        out_room = p.out_room;
        work_room = p.work_room;
      }
