use Rattle.std.proofs.Common.{◌≢◌, rules}
use Rattle.pm_tables.specs.declared.fault.DataBad.TheVariants as bad
use Rattle.pm_requests.proofs.Stages.{table_called, fault_called}
use Rattle.pm_requests.proofs.tables.table_of.Goals as goal

pub returns-in-Ok-clause-called : goal.returns-in-Ok-clause-called
returns-in-Ok-clause-called g c =
    table_called c.args.table.now _ c.args.bytes.now c.in-Ok.loaded c.in_ok-copy.ensures c.in-Ok.ensures.loaded.0 c.in-Ok.ensures.loaded.1

pub returns-in-Err-clause-called : goal.returns-in-Err-clause-called
returns-in-Err-clause-called g c =
    let some : c.in-Err.fault ≢ bad.Memory = search rules in
    fault_called c.args.table.now _ c.args.bytes.now c.in-Err.fault c.refused_table.result c.in_ok-copy.ensures some c.in-Err.ensures.refused c.refused_table.ensures.refused
