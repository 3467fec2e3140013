use Rattle.std.proofs.Common.{arith}
use Rattle.pm_load.proofs.Typed.{all_parts, all_refused, all_written, written_few, written_fit}
use Rattle.pm_load.proofs.loading.typed.Goals as goal

pub returns-clause-typed : goal.returns-clause-typed
returns-clause-typed g c =
    let list = c.in_ok-list.list in
    all_written c.args.decl.now c.args.bytes.now c.args.most list c.type_parts.result c.in_ok-list.ensures.listed
    (all_parts c.args.decl.now.columns list c.args.workers c.type_parts.result (omega arith) c.type_parts.ensures)

pub returns-clause-fit : goal.returns-clause-fit
returns-clause-fit g c = written_fit c.args.decl.now c.args.bytes.now c.args.most c.type_parts.result (returns-clause-typed g c)

pub returns-clause-few : goal.returns-clause-few
returns-clause-few g c = written_few c.args.decl.now c.args.bytes.now c.args.most c.type_parts.result (returns-clause-typed g c)

pub returns-clause-refused : goal.returns-clause-refused
returns-clause-refused g c =
    let list = c.in_ok-list.list in
    all_refused c.args.decl.now c.args.bytes.now c.args.most list c.type_parts.result c.in_ok-list.ensures.listed
    (all_parts c.args.decl.now.columns list c.args.workers c.type_parts.result (omega arith) c.type_parts.ensures)
