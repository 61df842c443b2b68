-- What the check of dictionary tables answers: none where they are out of form, else the same tables with their rows.
use Rattle.std.specs.Prelude.{◌≡◌, Option, None, Some}
use Rattle.tables.specs.declared.row_tables.RowTables.{RowTables}
use Rattle.tables.specs.Tables.{Tables, given}
use Rattle.tables.specs.InForm.{form_of}

-- the six lists of tables in form, with their count of rows
pub record Formed (T : Tables) (r : RowTables) : Type 0 where
  pub same : given r ≡ T
  pub formed : form_of T ≡ Some r.rows.n

abbrev pub FormIs : Tables → Option RowTables → Type 0
FormIs T None = form_of T ≡ None
FormIs T (Some r) = Formed T r
