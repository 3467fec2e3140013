use Rattle.std.proofs.Common.{◌≡◌, ◌+◌, ◌<◌, ◌++◌, length, get_or, subst, ap, ◌∙◌}
use Rattle.pm_plan.specs.PlanLines.{node_line}
use Rattle.pm_plan.proofs.PlanLines.{lines-more}
use Rattle.pm_plan.proofs.text.plan_text.Goals as goal

pub loop-position-preserved : goal.loop-position-preserved
loop-position-preserved c =
    let nodes = c.args.plan.now.nodes in
    let i = c.loop-position.position in
    let x = c.node-item.result in
    let there : x ≡ get_or nodes i x = subst (λ xs. x ≡ get_or xs i x) c.as_slice-node-items.ensures c.node-item.is in
    let within : i < length nodes = subst (λ xs. i < length xs) c.as_slice-node-items.ensures c.loop-position-test.true in
    c.in_ok-put_node.ensures ∙ ap (λ s. s ++ node_line (i + 1) x) c.loop-position.invariant ∙ lines-more nodes i x within there
