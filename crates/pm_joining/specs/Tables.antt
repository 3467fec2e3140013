-- the declarations of a query's tables
use Rattle.std.specs.Prelude.{List, map}
use Rattle.pm_values.specs.Table.{Declaration}
use Rattle.pm_query.specs.declared.query.QueryTable.{QueryTable}

abbrev pub table_decls : List QueryTable → List Declaration
table_decls tables = map (λ table. table.decl) tables
