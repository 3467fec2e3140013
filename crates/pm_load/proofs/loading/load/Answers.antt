use Rattle.std.proofs.Common.{rules}
use Rattle.pm_tables.proofs.Loads.{fault_answered, loaded_of, table_answered}
use Rattle.pm_load.proofs.loading.load.Goals as goal

pub returns-in_err-rows-clause-table : goal.returns-in_err-rows-clause-table
returns-in_err-rows-clause-table g c =
    let r = c.from_residual.result in
    table_answered c.args.decl c.args.bytes.now c.args.most r (loaded_of c.args.decl c.args.bytes.now c.args.most r (search rules) (search rules))

pub returns-in_err-rows-clause-fault : goal.returns-in_err-rows-clause-fault
returns-in_err-rows-clause-fault g c =
    let r = c.from_residual.result in
    fault_answered c.args.decl c.args.bytes.now c.args.most r (loaded_of c.args.decl c.args.bytes.now c.args.most r (search rules) (search rules))

pub returns-clause-table : goal.returns-clause-table
returns-clause-table g c =
    let r = c.finish.result in
    table_answered c.args.decl c.args.bytes.now c.args.most r (loaded_of c.args.decl c.args.bytes.now c.args.most r (search rules) (search rules))

pub returns-clause-fault : goal.returns-clause-fault
returns-clause-fault g c =
    let r = c.finish.result in
    fault_answered c.args.decl c.args.bytes.now c.args.most r (loaded_of c.args.decl c.args.bytes.now c.args.most r (search rules) (search rules))
