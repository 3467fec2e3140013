-- the tables of a database
use Rattle.std.specs.Prelude.{ℕ, List, [], map, slice_get, Option, None, Some}
use Rattle.pm_values.specs.Table.{Declaration, Relation}
use Rattle.pm_values.specs.Row.{Row}

abbrev pub Db : Type 0
Db = List Relation

abbrev pub rows_or_none : Option Relation → List Row
rows_or_none None = []
rows_or_none (Some table) = table.rows

-- the rows of the table at this place, none past the last table
abbrev pub table_rows : Db → ℕ → List Row
table_rows db table = rows_or_none (slice_get db table)

abbrev pub decls_of : Db → List Declaration
decls_of db = map (λ table. table.decl) db
