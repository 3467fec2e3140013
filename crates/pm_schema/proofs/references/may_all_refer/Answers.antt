use Rattle.std.proofs.Common.{◌≡◌, false, sym, ◌∙◌, rules}
use Rattle.pm_schema.specs.Rules.{column_named}
use Rattle.pm_schema.specs.References.{may_refer}
use Rattle.pm_schema.proofs.Breaches.{pairs_refused}
use Rattle.pm_schema.proofs.references.may_all_refer.Goals as goal

pub returns-then-not-name_may_refer : goal.returns-then-not-name_may_refer
returns-then-not-name_may_refer c =
    let refused : may_refer (column_named c.args.columns.now c.in-Some.name.now.text) (column_named c.args.targets.now c.in-Some-first.key.now.text) ≡ false = search (rules, c.if-not-name_may_refer.ensures) in
    sym (pairs_refused c.args.columns.now c.args.targets.now c.in-Some.name.now c.in-Some-first.key.now c.in-Some.after.now c.in-Some-first.after_key.now c.names.rest.now c.names.beside.now c.in-Some.ensures c.in-Some-first.ensures refused) ∙ c.names.invariant
