use Rattle.std.proofs.Common.{◌≤◌, sym, ◌∙◌, subst, arith}
use Rattle.pm_plan.specs.Preorder.{tree_of, IsTreeAt}
use Rattle.pm_plan.proofs.Preorders.{IsTreeAt-tree_of}
use Rattle.pm_work.specs.First.{greatest}
use Rattle.pm_bounds.proofs.Caps.{first_sum_is}
use Rattle.pm_bounds.proofs.Firsts.{sizes_fit}
use Rattle.pm_bounds.proofs.first_bounds.first_bound.Goals as goal

pub first_of-requires : goal.first_of-requires
first_of-requires c =
    (tree_of c.args.plan.now.nodes, subst (λ nodes. IsTreeAt nodes (tree_of c.args.plan.now.nodes) 1) (sym c.as_slice.ensures) (IsTreeAt-tree_of c.args.plan.now.nodes c.requires))

pub returns : goal.returns
returns c =
    let one : 1 ≤ greatest = omega arith in
    c.first_of.ensures.sum (tree_of c.args.plan.now.nodes)
    (subst (λ nodes. IsTreeAt nodes (tree_of c.args.plan.now.nodes) 1) (sym c.as_slice.ensures) (IsTreeAt-tree_of c.args.plan.now.nodes c.requires))
    ∙ first_sum_is greatest one c.args.sizes.now (sizes_fit c.args.sizes.now c.type_inv.sizes) (tree_of c.args.plan.now.nodes)
