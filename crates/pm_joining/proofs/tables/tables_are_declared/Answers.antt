use Rattle.std.proofs.Common.{subst, arith}
use Rattle.std.specs.Prelude.{All}
use Rattle.std.proofs.lemmas.List.{take_all}
use Rattle.pm_values.specs.Table.{IsDeclaration}
use Rattle.pm_joining.specs.Tables.{table_decls}
use Rattle.pm_joining.proofs.Listed.{declared_more}
use Rattle.pm_joining.proofs.tables.tables_are_declared.Goals as goal

pub loop-table-preserved : goal.loop-table-preserved
loop-table-preserved c =
    declared_more c.args.tables.now c.loop-table.table-index c.table-item.result (omega arith) c.table-item.is c.loop-table.invariant c.columns.ensures.declared

pub returns : goal.returns
returns c =
    subst (λ ts. All IsDeclaration (table_decls ts)) (take_all c.loop-table.table-index c.args.tables.now (omega arith)) c.loop-table.invariant
