-- What `in_form` and its `ok_or` give a caller. Assumes nothing.
use mathlib.Core.Path.{◌≡◌, sym}
use Rattle.std.specs.Prelude.{Option, None, Some, Result, Ok, Err}
use Rattle.std.specs.Option.{ok_or}
use Rattle.causes.specs.declared.Cause.{Cause}
use Rattle.causes.specs.declared.Cause.TheVariants.{OutOfForm}
use Rattle.causes.proofs.Calls.{ok_err, ok_same, err_same}
use Rattle.tables.specs.declared.row_tables.RowTables.{RowTables}
use Rattle.tables.specs.Tables.{Tables}
use Rattle.tables.specs.InForm.{form_of}
use Rattle.tables.specs.Formed.{Formed, FormIs}

-- by `ok_or`, tables are given only where they are in form, and the cause is 8 where they are not
pub formed_ok : (T : Tables) (o : Option RowTables) (r : RowTables) → FormIs T o → ◌≡◌ {A = Result RowTables Cause} (Ok r) (ok_or o OutOfForm) → Formed T r
formed_ok T None r f e = ok_err e
formed_ok T (Some s) r f e = let q : s ≡ r = sym (ok_same e) in rw q at f

pub formed_err : (T : Tables) (o : Option RowTables) (cause : Cause) → FormIs T o → ◌≡◌ {A = Result RowTables Cause} (Err cause) (ok_or o OutOfForm)
    → (cause ≡ OutOfForm) × (form_of T ≡ None)
formed_err T None cause f e = (err_same e, f)
formed_err T (Some s) cause f e = ok_err (sym e)
