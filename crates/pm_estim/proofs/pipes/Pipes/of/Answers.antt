use Rattle.std.proofs.Common.{◌++◌, sym, ap, subst, ◌∙◌}
use Rattle.pm_plan.specs.Preorder.{tree_of, IsTreeAt}
use Rattle.pm_plan.proofs.Preorders.{IsTreeAt-tree_of}
use Rattle.pm_estim.specs.Lists.{pipes_in}
use Rattle.pm_estim.proofs.pipes.Pipes.of.Goals as goal

pub place-requires-clause-stands : goal.place-requires-clause-stands
place-requires-clause-stands c =
    (tree_of c.args.plan.now.nodes, subst (λ nodes. IsTreeAt nodes (tree_of c.args.plan.now.nodes) 1) (sym c.as_slice.ensures) (IsTreeAt-tree_of c.args.plan.now.nodes c.requires))

pub returns : goal.returns
returns c =
    let placed = c.in_ok-_next.ensures (tree_of c.args.plan.now.nodes)
    (subst (λ nodes. IsTreeAt nodes (tree_of c.args.plan.now.nodes) 1) (sym c.as_slice.ensures) (IsTreeAt-tree_of c.args.plan.now.nodes c.requires)) in
    placed.pipes ∙ ap (λ l. l ++ pipes_in (tree_of c.args.plan.now.nodes)) c.in_ok-pipes.ensures.items
