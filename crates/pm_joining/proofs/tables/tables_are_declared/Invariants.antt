use Rattle.std.proofs.Common.{take}
use Rattle.std.specs.Prelude.{All}
use Rattle.pm_values.specs.Table.{IsDeclaration}
use Rattle.pm_joining.specs.Tables.{table_decls}
use Rattle.pm_joining.proofs.tables.tables_are_declared.Given as goal

abbrev pub invariant-loop-table : goal.invariant-loop-table
invariant-loop-table l = All IsDeclaration (table_decls (take l.table-index l.tables))
