use Rattle.std.proofs.Common.{rules, ◌∙◌}
use Rattle.std.proofs.lemmas.Fn.{always_returns_same}
use Rattle.pm_tables.proofs.Targets.{search_tells, target_cmp}
use Rattle.pm_tables.proofs.references.has_target.Goals as goal

pub returns : goal.returns
returns c =
    let reference = c.args.reference.now in
    let targets = c.args.targets.now in
    let row = c.args.row.now in
    c.is_ok.ensures.value
    ∙ search_tells reference targets c.args.order.now row c.requires c.binary_search_by.result c.binary_search_by.ensures.bound
    (c.binary_search_by.ensures.position (target_cmp reference targets row) (always_returns_same _ _ _ (λ a r f k. search rules)))
