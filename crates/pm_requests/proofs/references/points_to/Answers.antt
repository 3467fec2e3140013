use Rattle.std.proofs.Common.{◌-◌, [], rules, tests}
use Rattle.std.proofs.lemmas.Option.{get_or_from_slice_get}
use Rattle.pm_values.specs.declared.table.Reference.{Reference}
use Rattle.pm_requests.proofs.references.points_to.Goals as goal

pub returns : goal.returns
returns c =
    let none : Reference = record { columns = []; target = []; keys = [] } in
    let is = get_or_from_slice_get c.args.child.now.decl.references (c.args.number - 1) c.at-reference.result.now none (rw (c.references.ensures.value, c.decl.ensures.value) at c.at-reference.ensures) in
    rw is (search (rules, tests))
