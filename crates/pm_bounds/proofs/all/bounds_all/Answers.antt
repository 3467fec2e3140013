use Rattle.std.proofs.Common.{sym, subst, ◌∙◌, arith}
use Rattle.pm_plan.specs.Preorder.{tree_of}
use Rattle.pm_work.specs.Moments.{gauge_in}
use Rattle.pm_bounds.specs.Moment.{AllEnclosedBy, bound_in}
use Rattle.pm_bounds.proofs.Written.{stands, plan_size, plan_long, all_written, enclosed_by}
use Rattle.pm_bounds.proofs.all.bounds_all.Goals as goal

pub write_tree-requires-clause-stands : goal.write_tree-requires-clause-stands
write_tree-requires-clause-stands c = (tree_of c.args.plan.now.nodes, stands c.args.plan.now c.args.gauges.now c.requires.moment)

pub returns-clause-exact : goal.returns-clause-exact
returns-clause-exact c =
    let size = plan_size c.args.plan.now c.args.gauges.now c.requires.moment in
    all_written (tree_of c.args.plan.now.nodes) _ _ (omega (arith, size)) (plan_long c.args.plan.now c.args.gauges.now c.requires.moment ∙ size)
    (c.write_tree.ensures.written (tree_of c.args.plan.now.nodes) (stands c.args.plan.now c.args.gauges.now c.requires.moment))

pub returns-clause-encloses : goal.returns-clause-encloses
returns-clause-encloses c = λ db K a.
    let size = plan_size c.args.plan.now c.args.gauges.now c.requires.moment in
    subst (λ bounds. AllEnclosedBy db (tree_of c.args.plan.now.nodes) (gauge_in c.args.gauges.now) (bound_in bounds))
    (sym (all_written (tree_of c.args.plan.now.nodes) _ _ (omega (arith, size)) (plan_long c.args.plan.now c.args.gauges.now c.requires.moment ∙ size)
    (c.write_tree.ensures.written (tree_of c.args.plan.now.nodes) (stands c.args.plan.now c.args.gauges.now c.requires.moment))))
    (enclosed_by c.args.plan.now c.args.gauges.now c.requires.moment db K a)
